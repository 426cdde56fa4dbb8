-- Cells in rows: what stands at a row and a cell, what a row adds up to, and which cells fit.
use Rattle.std.proofs.Common.{◌≡◌, ℕ, zero, suc, ◌+◌, ◌*◌, ◌/◌, ◌%◌, ◌^◌, ◌<◌, ◌≤◌, cond, eqb, List, [], ◌∷◌, length, get_or, drop, map, refl, sym, ap, ap₂, ◌∙◌, subst, inl, inr, arith, true, sum, sum_by, EachIndex}
use Rattle.std.specs.List.{range_with_len}
use Rattle.std.proofs.lemmas.Bool.{cases_eq}
use Rattle.std.proofs.lemmas.Bool.Decides.{nat_tests}
use Rattle.std.proofs.lemmas.List.{length-take, length-drop, get_or-take, get_or-drop}
use Rattle.std.proofs.lemmas.List.FromFn.{length-map-range_with_len, get_or-map-range_with_len, fill_by_all}
use Rattle.std.proofs.lemmas.List.Sums.{sum-map, sum_by-cons, get_or-le-sum_by}
use Rattle.std.proofs.lemmas.Nat.{mul-add-lt, div-mul-add, mod-mul-add, div_below, mod_below, div-add-mod', row_fits}
use Rattle.std.proofs.Math.Nat.{mul-le-mul}
use Rattle.hh_stream.specs.Ranges.{in_range}
use Rattle.hh_stream.specs.Weights.{Entry, total_of}
use Rattle.hh_countmin.specs.Family.{Coefficients, IsFamily, max_width, cell_of}
use Rattle.hh_countmin.specs.Table.{FitsTable, cell_at, row_at, cells_by, at_cell, cell_sum, raised}

-- ---- a row and a cell

-- a table that a function fills has width cells in each of depth rows
pub length-cells_by : (f : ℕ → ℕ → ℕ) (depth width : ℕ) → length (cells_by f depth width) ≡ depth * width
length-cells_by f depth width = length-map-range_with_len (λ i. f (i / width) (i % width)) 0 (depth * width)

-- the cell of a table that a function fills is what the function gives for its row and column
pub cell_at-cells_by : (f : ℕ → ℕ → ℕ) (depth width r c : ℕ) → r < depth → c < width
    → cell_at width (cells_by f depth width) r c ≡ f r c
cell_at-cells_by f depth width r c lt in_row =
    let within = mul-add-lt r width c depth lt in_row in
    get_or-map-range_with_len (λ i. f (i / width) (i % width)) 0 (depth * width) (r * width + c) (r * width + c) 0
    (omega (arith, within)) (omega arith)
    ∙ ap₂ f (div-mul-add r width c in_row) (mod-mul-add r width c in_row)

-- what holds at each row and cell holds at each place
pub by_place : (P : ℕ → Type 0) (depth width i : ℕ) → i < depth * width
    → ((r c : ℕ) → r < depth → c < width → P (r * width + c)) → P i
by_place P depth zero i lt each = absurd (omega arith)
by_place P depth (suc w) i lt each =
    subst P (div-add-mod' i (suc w))
    (each (i / suc w) (i % suc w) (div_below i (suc w) depth (omega arith) lt) (mod_below i (suc w) (omega arith)))

-- cells that are f r c at each row and cell are these
pub same_cells : (f : ℕ → ℕ → ℕ) (depth width : ℕ) (cells : List ℕ) → length cells ≡ depth * width
    → ((r c : ℕ) → r < depth → c < width → cell_at width cells r c ≡ f r c) → cells ≡ cells_by f depth width
same_cells f depth width cells len each =
    fill_by_all (λ i. f (i / width) (i % width)) cells (depth * width) 0 len
    (λ k lt. by_place (λ i. get_or cells i 0 ≡ f (i / width) (i % width)) depth width k lt
    (λ r c l m. each r c l m ∙ sym (ap₂ f (div-mul-add r width c m) (mod-mul-add r width c m))))

-- functions that agree on all rows and columns fill the same table
pub same_cells_by : (f g : ℕ → ℕ → ℕ) (depth width : ℕ) → ((r c : ℕ) → r < depth → c < width → f r c ≡ g r c)
    → cells_by f depth width ≡ cells_by g depth width
same_cells_by f g depth width each =
    same_cells g depth width (cells_by f depth width) (length-cells_by f depth width)
    (λ r c l m. cell_at-cells_by f depth width r c l m ∙ each r c l m)

-- ---- what a row adds up to

abbrev pub sum_over : (ℕ → ℕ) → ℕ → ℕ
sum_over f n = sum (map f (range_with_len 0 n))

row_at-map : (width depth : ℕ) (cells : List ℕ) (r : ℕ) → length cells ≡ depth * width → r < depth
    → row_at width cells r ≡ map (λ c. cell_at width cells r c) (range_with_len 0 width)
row_at-map width depth cells r len lt =
    let fits = row_fits r width depth width lt (omega arith) in
    fill_by_all (λ c. cell_at width cells r c) (row_at width cells r) width 0
    (omega (arith, length-take width (drop (r * width) cells), length-drop (r * width) cells))
    (λ c m. get_or-take width (drop (r * width) cells) c 0 m ∙ get_or-drop (r * width) cells c 0)

-- the sum of a row is that of its cells by their columns
pub sum-row_at : (width depth : ℕ) (cells : List ℕ) (r : ℕ) → length cells ≡ depth * width → r < depth
    → sum (row_at width cells r) ≡ sum_over (λ c. cell_at width cells r c) width
sum-row_at width depth cells r len lt = ap sum (row_at-map width depth cells r len lt)

sum_by-same : {X : Type 0} (f g : X → ℕ) (xs : List X) → ((x : X) → f x ≡ g x) → sum_by f xs ≡ sum_by g xs
sum_by-same f g [] each = refl
sum_by-same f g (x ∷ xs) each =
    sum_by-cons f x xs ∙ ap₂ (λ (a b : ℕ). a + b) (each x) (sum_by-same f g xs each) ∙ sym (sum_by-cons g x xs)

sum_by-plus : {X : Type 0} (f g : X → ℕ) (xs : List X) → sum_by (λ x. f x + g x) xs ≡ sum_by f xs + sum_by g xs
sum_by-plus f g [] = refl
sum_by-plus f g (x ∷ xs) =
    omega (arith, sum_by-plus f g xs, sum_by-cons (λ y. f y + g y) x xs, sum_by-cons f x xs, sum_by-cons g x xs)

-- a sum of sums is the sum of the two
pub sum_over-plus : (f g : ℕ → ℕ) (n : ℕ) → sum_over (λ c. f c + g c) n ≡ sum_over f n + sum_over g n
sum_over-plus f g n =
    let xs = range_with_len 0 n in
    sum-map (λ c. f c + g c) xs ∙ sum_by-plus f g xs ∙ sym (ap₂ (λ (a b : ℕ). a + b) (sum-map f xs) (sum-map g xs))

nothing_after : (k w a n : ℕ) → k < a → sum_by (λ c. cond (eqb k c) w 0) (range_with_len a n) ≡ 0
nothing_after k w a zero lt = refl
nothing_after k w a (suc n) lt =
    let here : cond (eqb k a) w 0 ≡ 0 = grind (arith, nat_tests) in
    let cons = sum_by-cons (λ c. cond (eqb k c) w 0) a (range_with_len (a + 1) n) in
    omega (arith, here, nothing_after k w (a + 1) n (omega arith), cons)

once_within : (k w a n : ℕ) → a ≤ k → k < a + n → sum_by (λ c. cond (eqb k c) w 0) (range_with_len a n) ≡ w
once_within k w a zero le lt = absurd (omega arith)
once_within k w a (suc n) le lt =
    let cons = sum_by-cons (λ c. cond (eqb k c) w 0) a (range_with_len (a + 1) n) in
    elim (cases_eq k a) [
      | inl e ↦
          let here : cond (eqb k a) w 0 ≡ w = grind (arith, nat_tests) in
          omega (arith, here, nothing_after k w (a + 1) n (omega arith), cons)
      | inr ne ↦
          let here : cond (eqb k a) w 0 ≡ 0 = grind (arith, nat_tests) in
          let above : a + 1 ≤ k = omega arith in
          omega (arith, here, once_within k w (a + 1) n above (omega arith), cons)
    ]

-- one cell of a row has the weight
pub sum_over-one : (k w n : ℕ) → k < n → sum_over (λ c. cond (eqb k c) w 0) n ≡ w
sum_over-one k w n lt =
    sum-map (λ c. cond (eqb k c) w 0) (range_with_len 0 n) ∙ once_within k w 0 n (omega arith) (omega arith)

-- ---- cell sums

-- a key's cell lies within the width
pub cell_of-below : (family : Coefficients) (r : ℕ) (key : List ℕ) (width : ℕ) → 1 ≤ width
    → cell_of family r key width < width
cell_of-below family r key width some = mod_below _ width some

sum_over-none : (n a : ℕ) → sum_by (λ _. 0) (range_with_len a n) ≡ 0
sum_over-none zero a = refl
sum_over-none (suc n) a = omega (arith, sum_by-cons (λ _. 0) a (range_with_len (a + 1) n), sum_over-none n (a + 1))

-- what items add to the cells of one row is their total
pub sum_over-cell_sum : (family : Coefficients) (width r : ℕ) (xs : List Entry) → 1 ≤ width
    → sum_over (λ c. cell_sum family width r c xs) width ≡ total_of xs
sum_over-cell_sum family width r [] some =
    sum-map (λ c. cell_sum family width r c []) (range_with_len 0 width) ∙ sum_over-none width 0
sum_over-cell_sum family width r (e ∷ xs) some =
    let here : ℕ → ℕ = λ c. at_cell family width r c e in
    let rest : ℕ → ℕ = λ c. cell_sum family width r c xs in
    let split : sum_over (λ c. cell_sum family width r c (e ∷ xs)) width ≡ sum_over (λ c. here c + rest c) width =
    sum-map (λ c. cell_sum family width r c (e ∷ xs)) (range_with_len 0 width)
    ∙ sum_by-same (λ c. cell_sum family width r c (e ∷ xs)) (λ c. here c + rest c) (range_with_len 0 width)
    (λ c. sum_by-cons (at_cell family width r c) e xs)
    ∙ sym (sum-map (λ c. here c + rest c) (range_with_len 0 width)) in
    split
    ∙ sum_over-plus here rest width
    ∙ ap₂ (λ (a b : ℕ). a + b) (sum_over-one (cell_of family r e.0 width) e.1 width
    (cell_of-below family r e.0 width some)) (sum_over-cell_sum family width r xs some)
    ∙ sym (sum_by-cons (λ d. d.1) e xs)

-- ---- cells that fit

-- cells whose rows add up to the total fit
pub fits_by : (f : ℕ → ℕ → ℕ) (family : Coefficients) (width total : ℕ) → in_range width max_width ≡ true
    → total < 2 ^ 63
    → ((r : ℕ) → r < length family.rows → sum_over (f r) width ≡ total)
    → FitsTable family width total (cells_by f (length family.rows) width)
fits_by f family width total is_width small each =
    let depth = length family.rows in
    let cells = cells_by f depth width in
    let len = length-cells_by f depth width in
    record {
      width_in_range = is_width;
      total_in_range = small;
      all_cells = len;
      rows_sum = λ r lt.
          ap sum (row_at-map width depth cells r len lt
          ∙ fill_by_all (f r) (map (λ c. cell_at width cells r c) (range_with_len 0 width)) width 0
          (length-map-range_with_len (λ c. cell_at width cells r c) 0 width)
          (λ c m. get_or-map-range_with_len (λ c. cell_at width cells r c) 0 width c c 0 m (omega arith)
          ∙ cell_at-cells_by f depth width r c lt m))
          ∙ each r lt;
    }

length-row_at : (width depth : ℕ) (cells : List ℕ) (r : ℕ) → length cells ≡ depth * width → r < depth
    → length (row_at width cells r) ≡ width
length-row_at width depth cells r len lt =
    ap length (row_at-map width depth cells r len lt) ∙ length-map-range_with_len (λ c. cell_at width cells r c) 0 width

-- no cell is above the total
pub cell-le-total : (family : Coefficients) (width total : ℕ) (cells : List ℕ) → FitsTable family width total cells
    → (i : ℕ) → i < length cells → get_or cells i 0 ≤ total
cell-le-total family width total cells fits i lt =
    let depth = length family.rows in
    by_place (λ k. get_or cells k 0 ≤ total) depth width i (omega (arith, fits.all_cells))
    (λ r c below in_row.
    let row = row_at width cells r in
    let is : get_or row c 0 ≡ cell_at width cells r c =
    get_or-take width (drop (r * width) cells) c 0 in_row ∙ get_or-drop (r * width) cells c 0 in
    omega (
      arith,
      is,
      get_or-le-sum_by (λ x. x) row c 0
          (omega (arith, length-row_at width depth cells r fits.all_cells below)),
      fits.rows_sum r below,
    ))

-- cells that fit, with a weight more in one cell of each row
pub fits_raised : (family : Coefficients) (width total : ℕ) (cells : List ℕ) (weight : ℕ) (cell : ℕ → ℕ)
    → FitsTable family width total cells → total + weight < 2 ^ 63 → ((r : ℕ) → cell r < width)
    → FitsTable family width (total + weight) (raised cell weight (length family.rows) width cells)
fits_raised family width total cells weight cell fits small in_row =
    fits_by (λ r c. cell_at width cells r c + cond (eqb (cell r) c) weight 0) family width (total + weight)
    fits.width_in_range small
    (λ r lt.
    sum_over-plus (λ c. cell_at width cells r c) (λ c. cond (eqb (cell r) c) weight 0) width
    ∙ ap₂ (λ (a b : ℕ). a + b) (sym (sum-row_at width (length family.rows) cells r fits.all_cells lt)
    ∙ fits.rows_sum r lt) (sum_over-one (cell r) weight width (in_row r)))

-- the cells of two tables, one by one
pub fits_summed : (family : Coefficients) (width m n : ℕ) (a b : List ℕ) → FitsTable family width m a
    → FitsTable family width n b → m + n < 2 ^ 63 → FitsTable family width (m + n)
    (cells_by (λ r c. cell_at width a r c + cell_at width b r c) (length family.rows) width)
fits_summed family width m n a b p q small =
    fits_by (λ r c. cell_at width a r c + cell_at width b r c) family width (m + n) p.width_in_range small
    (λ r lt.
    sum_over-plus (λ c. cell_at width a r c) (λ c. cell_at width b r c) width
    ∙ ap₂ (λ (s t : ℕ). s + t) (sym (sum-row_at width (length family.rows) a r p.all_cells lt)
    ∙ p.rows_sum r lt) (sym (sum-row_at width (length family.rows) b r q.all_cells lt) ∙ q.rows_sum r lt))

-- cells that are added one by one are the table of the sums
pub summed_cells : (depth width : ℕ) (a b new : List ℕ) → length new ≡ depth * width
    → EachIndex new (λ i. get_or new i 0 ≡ get_or a i 0 + get_or b i 0)
    → new ≡ cells_by (λ r c. cell_at width a r c + cell_at width b r c) depth width
summed_cells depth width a b new len each =
    same_cells (λ r c. cell_at width a r c + cell_at width b r c) depth width new len
    (λ r c lt in_row. each (r * width + c) (omega (arith, len, mul-add-lt r width c depth lt in_row)))

-- the same cells fit the same family and width
pub fits_same : (f g : Coefficients) (v w total : ℕ) (cells : List ℕ) → f ≡ g → v ≡ w → FitsTable g w total cells
    → FitsTable f v total cells
fits_same f g v w total cells same_family same_width fits = rw (same_family, same_width) fits

-- ---- the place of a cell
range-high : (n most : ℕ) → in_range n most ≡ true → n ≤ most
range-high n most e = grind (arith, nat_tests)

pub range-low : (width : ℕ) → in_range width max_width ≡ true → 0 < width
range-low width e = grind (arith, nat_tests)

-- cell c of row r has a small place
pub place-small : (family : Coefficients) (width r c : ℕ) → IsFamily family → in_range width max_width ≡ true
    → r < length family.rows → c < width → r * width + c < 2097152
place-small family width r c is wide lt in_row =
    let w : width ≤ 65536 = range-high width max_width wide in
    let rows : length family.rows ≤ 16 = range-high (length family.rows) 16 is.depth in
    let below : r ≤ 16 = omega (arith, lt, rows) in
    let most : r * width ≤ 16 * 65536 = mul-le-mul below w in
    omega (arith, most)
