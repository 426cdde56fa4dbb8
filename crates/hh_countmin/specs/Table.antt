-- Count-Min tables: what their cells are of a list of items, and what a key's estimate is.
use Rattle.std.specs.Prelude.{◌≡◌, true, ℕ, zero, suc, ◌+◌, ◌*◌, ◌-◌, ◌/◌, ◌%◌, ◌^◌, ◌<◌, ◌==◌, cond, min, List, length, take, drop, map, sum, sum_by, replicate, slice_index}
use Rattle.std.specs.List.{range_with_len}
use Rattle.hh_stream.specs.Ranges.{in_range}
use Rattle.hh_stream.specs.Weights.{Bytes, Entry, total_of}
use Rattle.hh_countmin.specs.Family.{Coefficients, max_width, cell_of}

-- what a contract sees of a table: the cells lie row by row
pub record TableView : Type 0 where
  pub family : Coefficients
  pub width : ℕ
  pub total : ℕ
  pub cells : List ℕ

-- cell c of row r, of cells in rows of this width
abbrev pub cell_at : ℕ → List ℕ → ℕ → ℕ → ℕ
cell_at width cells r c = slice_index cells (r * width + c)

-- the cells of row r
abbrev pub row_at : ℕ → List ℕ → ℕ → List ℕ
row_at width cells r = take width (drop (r * width) cells)

-- the parts of a table
pub record FitsTable (family : Coefficients) (width total : ℕ) (cells : List ℕ) : Type 0 where
  pub width_in_range : in_range width max_width ≡ true
  pub total_in_range : total < 2 ^ 63
  pub all_cells : length cells ≡ length family.rows * width
  pub rows_sum : (r : ℕ) → r < length family.rows → sum (row_at width cells r) ≡ total

-- the cells whose cell c of row r is f r c
abbrev pub cells_by : (ℕ → ℕ → ℕ) → ℕ → ℕ → List ℕ
cells_by f depth width = map (λ i. f (i / width) (i % width)) (range_with_len 0 (depth * width))

-- what a weight adds to cell c of row r, where it falls on one cell of each row, of row r on `cell r`
abbrev pub raise_at : (ℕ → ℕ) → ℕ → ℕ → ℕ → ℕ
raise_at cell weight r c = cond (cell r == c) weight 0

-- what an item adds to cell c of row r: its weight where its key falls on the cell
abbrev pub at_cell : Coefficients → ℕ → ℕ → ℕ → Entry → ℕ
at_cell family width r c e = raise_at (λ r. cell_of family r e.0 width) e.1 r c

-- the sum of the weights of the items whose key falls on cell c of row r
abbrev pub cell_sum : Coefficients → ℕ → ℕ → ℕ → List Entry → ℕ
cell_sum family width r c xs = sum_by (at_cell family width r c) xs

-- the table of a list of items
abbrev pub table_of : Coefficients → ℕ → List Entry → TableView
table_of family width xs = record {
  family = family;
  width = width;
  total = total_of xs;
  cells = cells_by (λ r c. cell_sum family width r c xs) (length family.rows) width;
}

-- a table of no items
abbrev pub empty_table : Coefficients → ℕ → TableView
empty_table family width =
    record { family = family; width = width; total = 0; cells = replicate (length family.rows * width) 0 }

-- cells with a weight more in one cell of each row, and in no other
abbrev pub raised : (ℕ → ℕ) → ℕ → ℕ → ℕ → List ℕ → List ℕ
raised cell weight depth width cells =
    cells_by (λ r c. cell_at width cells r c + raise_at cell weight r c) depth width

-- a table after an item: in each row the key's cell has the weight more
abbrev pub grid_with : TableView → Entry → TableView
grid_with t e = record t {
  total = t.total + e.1;
  cells = raised (λ r. cell_of t.family r e.0 t.width) e.1 (length t.family.rows) t.width t.cells;
}

-- two tables of one family and width, cell by cell
abbrev pub grid_sum : TableView → TableView → TableView
grid_sum s t = record s {
  total = s.total + t.total;
  cells = cells_by (λ r c. cell_at s.width s.cells r c + cell_at s.width t.cells r c) (length s.family.rows) s.width;
}

-- the least of f 0, f 1, .., f last
abbrev pub least_up_to : (ℕ → ℕ) → ℕ → ℕ
least_up_to f zero = f 0
least_up_to f (suc last) = min (least_up_to f last) (f (suc last))

-- the least of a function of the rows
abbrev pub least_of_rows : Coefficients → (ℕ → ℕ) → ℕ
least_of_rows family f = least_up_to f (length family.rows - 1)

-- the least of a key's cells in a table
abbrev pub estimate_in : TableView → Bytes → ℕ
estimate_in t key = least_of_rows t.family (λ r. cell_at t.width t.cells r (cell_of t.family r key t.width))

-- a key's estimate of a list of items
abbrev pub estimate_of : Coefficients → ℕ → Bytes → List Entry → ℕ
estimate_of family width key xs = least_of_rows family (λ r. cell_sum family width r (cell_of family r key width) xs)
