-- The least over the rows, and what it says of a key's weight.
use Rattle.std.proofs.Common.{◌≡◌, ℕ, zero, suc, ◌+◌, ◌-◌, ◌<◌, ◌≤◌, Bool, true, false, cond, eqb, min, List, length, refl, sym, ap, ap₂, inl, inr, arith}
use Rattle.std.specs.FinMap.{nat_cmp-IsAntisymmetric, slice_cmp-IsAntisymmetric}
use Rattle.std.specs.Cmp.{Equal-is}
use Rattle.std.specs.Cmp.Lexicographic.{slice_cmp}
use Rattle.std.specs.Ordering.{nat_cmp}
use Rattle.std.proofs.lemmas.Bool.{cases_eq, cases_lt}
use Rattle.std.proofs.lemmas.Bool.Decides.{nat_tests}
use Rattle.std.proofs.lemmas.List.Sums.{sum_by-le-sum_by}
use Rattle.hh_stream.specs.Weights.{Bytes, Entry, same_key, at_key, weight_of}
use Rattle.hh_countmin.specs.Family.{Coefficients, cell_of, IsFamily}
use Rattle.hh_countmin.specs.Table.{at_cell, cell_sum, cell_at, least_up_to, least_of_rows, estimate_of, estimate_in, table_of}
use Rattle.hh_countmin.proofs.Cells.{cell_at-cells_by, cell_of-below}

le-least_up_to : (k : ℕ) (f : ℕ → ℕ) (last : ℕ) → ((r : ℕ) → k ≤ f r) → k ≤ least_up_to f last
le-least_up_to k f zero each = each 0
le-least_up_to k f (suc last) each = omega (arith, le-least_up_to k f last each, each (suc last))

least_up_to-le : (f : ℕ → ℕ) (last r : ℕ) → r ≤ last → least_up_to f last ≤ f r
least_up_to-le f zero r le = let e : r ≡ 0 = omega arith in rw e (omega arith)
least_up_to-le f (suc last) r le =
    elim (cases_eq r (suc last)) [
      | inl e ↦ rw e (omega arith)
      | inr ne ↦ omega (arith, least_up_to-le f last r (omega arith))
    ]

least_up_to-is : (f : ℕ → ℕ) (last : ℕ) → (r : ℕ) × (r ≤ last) × (least_up_to f last ≡ f r)
least_up_to-is f zero = (0, omega arith, refl)
least_up_to-is f (suc last) =
    let before = least_up_to-is f last in
    elim (cases_lt (least_up_to f last) (f (suc last))) [
      | inl lt ↦ (before.0, omega arith, omega (arith, before.2))
      | inr le ↦ (suc last, omega arith, omega arith)
    ]

-- functions that agree up to a number have one least value up to there
pub same_least_up_to : (f g : ℕ → ℕ) (last : ℕ) → ((r : ℕ) → r ≤ last → f r ≡ g r)
    → least_up_to f last ≡ least_up_to g last
same_least_up_to f g zero each = each 0 (omega arith)
same_least_up_to f g (suc last) each =
    ap₂ min (same_least_up_to f g last (λ r le. each r (omega arith))) (each (suc last) (omega arith))

same_key-is : (x y : Bytes) → same_key x y ≡ true → x ≡ y
same_key-is x y e = slice_cmp-IsAntisymmetric nat_cmp-IsAntisymmetric x y ((Equal-is (slice_cmp nat_cmp x y)).0 e)

-- one row more
pub least_up_to-more : (f : ℕ → ℕ) (r : ℕ) → 1 ≤ r → least_up_to f (r + 1 - 1) ≡ min (least_up_to f (r - 1)) (f r)
least_up_to-more f zero some = absurd (omega arith)
least_up_to-more f (suc r) some =
    let all : suc r + 1 - 1 ≡ suc r = omega arith in
    let before : suc r - 1 ≡ r = omega arith in
    rw (all, before) refl

-- what is one key's has that key's cell
within_cell : (family : Coefficients) (width r : ℕ) (key : Bytes) (e : Entry) (b : Bool) → same_key key e.0 ≡ b
    → cond b e.1 0 ≤ at_cell family width r (cell_of family r key width) e
within_cell family width r key e false is = omega arith
within_cell family width r key e true is =
    let same : cell_of family r e.0 width ≡ cell_of family r key width =
    ap (λ (k : Bytes). cell_of family r k width) (sym (same_key-is key e.0 is)) in
    let here : cond (eqb (cell_of family r e.0 width) (cell_of family r key width)) e.1 0 ≡ e.1 =
    rw same (grind (arith, nat_tests)) in
    omega (arith, here)

-- a key's cell holds at least its weight
weight_of-le-cell_sum : (family : Coefficients) (width r : ℕ) (key : Bytes) (xs : List Entry)
    → weight_of key xs ≤ cell_sum family width r (cell_of family r key width) xs
weight_of-le-cell_sum family width r key xs =
    sum_by-le-sum_by (at_key key) (at_cell family width r (cell_of family r key width)) xs
    (λ e. within_cell family width r key e (same_key key e.0) refl)

-- no estimate is below the key's weight
pub weight_of-le-estimate_of : (family : Coefficients) (width : ℕ) (key : Bytes) (xs : List Entry)
    → weight_of key xs ≤ estimate_of family width key xs
weight_of-le-estimate_of family width key xs =
    le-least_up_to (weight_of key xs) (λ r. cell_sum family width r (cell_of family r key width) xs)
    (length family.rows - 1) (λ r. weight_of-le-cell_sum family width r key xs)

-- the least over the rows is at most each, and is one of them
pub least_of_rows-is_least : (family : Coefficients) (f : ℕ → ℕ) → 1 ≤ length family.rows
    → ((r : ℕ) → r < length family.rows → least_of_rows family f ≤ f r)
    × ((r : ℕ) × (r < length family.rows) × (least_of_rows family f ≡ f r))
least_of_rows-is_least family f some =
    let found = least_up_to-is f (length family.rows - 1) in
    (λ r lt. least_up_to-le f (length family.rows - 1) r (omega arith), (found.0, omega (arith, found.1), found.2))

-- the estimate that a table of items gives is the least of the key's cell sums
pub estimate_in-table_of : (family : Coefficients) (width : ℕ) (key : Bytes) (xs : List Entry) → 1 ≤ length family.rows
    → 1 ≤ width → estimate_in (table_of family width xs) key ≡ estimate_of family width key xs
estimate_in-table_of family width key xs some wide =
    let cell : ℕ → ℕ = λ r. cell_of family r key width in
    same_least_up_to (λ r. cell_at width (table_of family width xs).cells r (cell r))
    (λ r. cell_sum family width r (cell r) xs) (length family.rows - 1)
    (λ r le. cell_at-cells_by (λ q c. cell_sum family width q c xs) (length family.rows) width r (cell r) (omega arith)
    (cell_of-below family r key width wide))

-- a family has a row
pub some_rows : (family : Coefficients) → IsFamily family → 1 ≤ length family.rows
some_rows family is = grind (arith, nat_tests, is.depth)
