-- What holds of the definitions.
use Rattle.std.specs.Prelude.{◌≡◌, true, ℕ, ◌+◌, ◌*◌, ◌^◌, ◌<◌, ◌≤◌, ◌↔◌, IsTrue, List, ◌∷◌, ◌++◌, [], length, map, sum}
use Rattle.std.specs.List.{range_with_len}
use Rattle.hh_stream.specs.Ranges.{in_range}
use Rattle.hh_stream.specs.Weights.{Bytes, Entry, weight_of, total_of}
use Rattle.hh_countmin.specs.Family.{Coefficients, max_depth, max_width, IsFamily, same_family, drawn_family, cell_of}
use Rattle.hh_countmin.specs.Table.{FitsTable, cell_at, cell_sum, table_of, empty_table, grid_with, grid_sum, estimate_in, estimate_of}

-- `==` of two families says whether they are one
abbrev pub EqualFamiliesAreOne : Type 0
EqualFamiliesAreOne = (f g : Coefficients) → IsTrue (same_family f g) ↔ (f ≡ g)

-- what a seed draws is a family
abbrev pub DrawnFamiliesAreFamilies : Type 0
DrawnFamiliesAreFamilies = (seed depth : ℕ) → in_range depth max_depth ≡ true
    → IsFamily (drawn_family seed depth) × (length (drawn_family seed depth).rows ≡ depth)

-- the cell sums of two lists, one after the other, are those of both together
abbrev pub CellSumsAddUp : Type 0
CellSumsAddUp =
    (family : Coefficients) (width r c : ℕ) (xs ys : List Entry)
    → cell_sum family width r c (xs ++ ys) ≡ cell_sum family width r c xs + cell_sum family width r c ys

-- the cell sums of a row add up to the total
abbrev pub RowsSumToTotal : Type 0
RowsSumToTotal =
    (family : Coefficients) (width r : ℕ) (xs : List Entry) → 1 ≤ width
    → sum (map (λ c. cell_sum family width r c xs) (range_with_len 0 width)) ≡ total_of xs

-- an estimate is never below the key's weight
abbrev pub EstimateIsNeverBelow : Type 0
EstimateIsNeverBelow = (family : Coefficients) (width : ℕ) (key : Bytes) (xs : List Entry)
    → weight_of key xs ≤ estimate_of family width key xs

-- an estimate is one of the key's cell sums, and none of them is below it
abbrev pub EstimateIsLeastCellSum : Type 0
EstimateIsLeastCellSum =
    (family : Coefficients) (width : ℕ) (key : Bytes) (xs : List Entry) → 1 ≤ length family.rows
    → ((r : ℕ) → r < length family.rows → estimate_of family width key xs ≤ cell_sum family width r
    (cell_of family r key width) xs)
    × ((r : ℕ) × (r < length family.rows) × (estimate_of family width key xs ≡ cell_sum family width r
    (cell_of family r key width) xs))

-- a table of no items is empty, an item more makes the table of all, and two tables make the table of both lists
abbrev pub TablesFollowItems : Type 0
TablesFollowItems =
    (family : Coefficients) (width : ℕ) (xs ys : List Entry) (e : Entry)
    → (empty_table family width ≡ table_of family width [])
    × (grid_with (table_of family width xs) e ≡ table_of family width (xs ++ e ∷ []))
    × (grid_sum (table_of family width xs) (table_of family width ys) ≡ table_of family width (xs ++ ys))

-- the cells of the table of a list are its cell sums, and no other cells are; so are its estimates
abbrev pub CellsAreCellSums : Type 0
CellsAreCellSums =
    (family : Coefficients) (width : ℕ) (xs : List Entry)
    → ((r c : ℕ) → r < length family.rows → c < width
    → cell_at width (table_of family width xs).cells r c ≡ cell_sum family width r c xs)
    × ((cells : List ℕ) → length cells ≡ length family.rows * width
    → ((r c : ℕ) → r < length family.rows → c < width → cell_at width cells r c ≡ cell_sum family width r c xs)
    → cells ≡ (table_of family width xs).cells)
    × (1 ≤ length family.rows → 1 ≤ width → (key : Bytes)
    → estimate_in (table_of family width xs) key ≡ estimate_of family width key xs)

-- the table of a list has the parts of a table
abbrev pub TablesFit : Type 0
TablesFit =
    (family : Coefficients) (width : ℕ) (xs : List Entry) → in_range width max_width ≡ true → total_of xs < 2 ^ 63
    → FitsTable family width (total_of xs) (table_of family width xs).cells
