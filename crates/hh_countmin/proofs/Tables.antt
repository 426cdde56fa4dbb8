-- The table of a list: empty, with an item more, and of two lists; and when its parts are a table's.
use Rattle.std.proofs.Common.{◌≡◌, ℕ, ◌+◌, ◌*◌, ◌^◌, ◌<◌, List, [], ◌∷◌, ◌++◌, length, replicate, refl, sym, ap₂, ◌∙◌, subst, arith, true}
use Rattle.std.proofs.lemmas.List.{get_or-replicate, length-replicate}
use Rattle.std.proofs.lemmas.List.Sums.{sum_by-append, sum_by_push}
use Rattle.std.proofs.lemmas.Nat.{mul-add-lt}
use Rattle.std.proofs.lemmas.Bool.Decides.{nat_tests}
use Rattle.hh_stream.specs.Ranges.{in_range}
use Rattle.hh_stream.specs.Taking.{HaveSameSums}
use Rattle.hh_stream.specs.Weights.{Entry, total_of}
use Rattle.hh_countmin.specs.Family.{Coefficients, max_width}
use Rattle.hh_countmin.specs.Table.{TableView, FitsTable, cell_at, at_cell, cell_sum, cells_by, table_of, empty_table, grid_with, grid_sum}
use Rattle.hh_countmin.proofs.Cells.{cell_at-cells_by, same_cells, same_cells_by, sum_over-cell_sum, fits_by}

abbrev grid : Coefficients → ℕ → ℕ → List ℕ → TableView
grid family width total cells = record { family = family; width = width; total = total; cells = cells }

-- tables with one total and the same cells
same_tables : (family : Coefficients) (width m n : ℕ) (a b : List ℕ) → m ≡ n → a ≡ b
    → grid family width m a ≡ grid family width n b
same_tables family width m n a b p q = ap₂ (grid family width) p q

-- the table whose cells are 0 is that of no items
pub empty_table-is : (family : Coefficients) (width : ℕ) → empty_table family width ≡ table_of family width []
empty_table-is family width =
    let depth = length family.rows in
    same_tables family width 0 0 _ _ refl
    (same_cells (λ r c. cell_sum family width r c []) depth width (replicate (depth * width) 0)
    (length-replicate (depth * width) 0)
    (λ r c lt in_row. get_or-replicate (depth * width) (r * width + c) 0 0
    (omega (arith, mul-add-lt r width c depth lt in_row))))

-- adding an item to the table of a list gives the table of the list with the item last
pub added-table_of : (family : Coefficients) (width : ℕ) (xs : List Entry) (e : Entry)
    → grid_with (table_of family width xs) e ≡ table_of family width (xs ++ e ∷ [])
added-table_of family width xs e =
    let depth = length family.rows in
    let sums : ℕ → ℕ → ℕ = λ r c. cell_sum family width r c xs in
    same_tables family width _ _ _ _ (sym (sum_by_push (λ d. d.1) xs e))
    (same_cells_by (λ r c. cell_at width (cells_by sums depth width) r c + at_cell family width r c e)
    (λ r c. cell_sum family width r c (xs ++ e ∷ [])) depth width
    (λ r c lt in_row. ap₂ (λ (a b : ℕ). a + b) (cell_at-cells_by sums depth width r c lt in_row) refl
    ∙ sym (sum_by_push (at_cell family width r c) xs e)))

-- merging the tables of two lists gives the table of both, one after the other
pub merged-table_of : (family : Coefficients) (width : ℕ) (xs ys : List Entry)
    → grid_sum (table_of family width xs) (table_of family width ys) ≡ table_of family width (xs ++ ys)
merged-table_of family width xs ys =
    let depth = length family.rows in
    let sums : List Entry → ℕ → ℕ → ℕ = λ zs r c. cell_sum family width r c zs in
    same_tables family width _ _ _ _ (sym (sum_by-append (λ d. d.1) xs ys))
    (same_cells_by (λ r c. cell_at width (cells_by (sums xs) depth width) r c + cell_at width
    (cells_by (sums ys) depth width) r c) (sums (xs ++ ys)) depth width
    (λ r c lt in_row.
    ap₂ (λ (a b : ℕ). a + b) (cell_at-cells_by (sums xs) depth width r c lt in_row)
    (cell_at-cells_by (sums ys) depth width r c lt in_row)
    ∙ sym (sum_by-append (at_cell family width r c) xs ys)))

-- items with the same sums have one table
pub same_table : (family : Coefficients) (width : ℕ) (xs ys : List Entry) → HaveSameSums xs ys
    → table_of family width xs ≡ table_of family width ys
same_table family width xs ys same =
    same_tables family width _ _ _ _ (same (λ (e : Entry). e.1))
    (λ i. cells_by (λ r c. same (at_cell family width r c) i) (length family.rows) width)

-- the table of items with a total below 2^63 meets all that a table has to
pub table_of-fits : (family : Coefficients) (width : ℕ) (xs : List Entry) → in_range width max_width ≡ true
    → total_of xs < 2 ^ 63
    → FitsTable family width (total_of xs) (table_of family width xs).cells
table_of-fits family width xs is_width small =
    fits_by (λ r c. cell_sum family width r c xs) family width (total_of xs) is_width small
    (λ r lt. sum_over-cell_sum family width r xs (grind (arith, nat_tests, is_width)))

-- cells that are all 0 meet all that a table has to
pub empty_fits : (family : Coefficients) (width : ℕ) → in_range width max_width ≡ true
    → FitsTable family width 0 (replicate (length family.rows * width) 0)
empty_fits family width is_width =
    subst (λ (t : TableView). FitsTable family width 0 t.cells) (sym (empty_table-is family width))
    (table_of-fits family width [] is_width (omega arith))
