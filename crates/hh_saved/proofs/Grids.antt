-- Rows of cells and tables: what is read is spelled so, and what is spelled so is read.
use Rattle.std.proofs.Common.{◌≡◌, ℕ, zero, suc, ◌+◌, ◌*◌, ◌^◌, ◌<◌, true, eqb, eq-eqb, List, [], ◌∷◌, ◌++◌, length, take, drop, Ok, refl, sym, ap, subst, ◌∙◌, append_assoc, arith, sum}
use Rattle.std.specs.List.{flat_map, AllByRecursion}
use Rattle.std.specs.Int.{w8, w32, w64, from_be_bytes, to_be_bytes}
use Rattle.std.proofs.lemmas.Bool.{eqb-true}
use Rattle.std.proofs.lemmas.List.{take_at, drop_at, take-append-drop, length-take, length-drop, drop-drop, nil_from_length}
use Rattle.std.proofs.lemmas.List.Sums.{sum_by-cons}
use Rattle.std.proofs.lemmas.Grind.{flat_map-append}
use Rattle.std.proofs.lemmas.Bool.Decides.{nat_tests}
use Rattle.hh_stream.specs.Ranges.{in_range}
use Rattle.hh_countmin.specs.Family.{Coefficients, IsFamily, max_depth, max_width}
use Rattle.hh_countmin.specs.Table.{TableView, FitsTable, row_at as row_cells}
use Rattle.hh_faults.specs.declared.saved.SavedFault.TheVariants as faults
use Rattle.hh_saved.specs.Spelling.{pair_bytes, cells_bytes, grid_bytes}
use Rattle.hh_saved.specs.Reading.{cells_in, row_at, rows_at, grid_at}
use Rattle.hh_saved.proofs.Fields.{IsBytes, bind_ok, passed, ok_is, Takes, Takes-then, wide8, wide32, wide64, where_takes, where_again, bytes_take, bytes_again}
use Rattle.hh_saved.proofs.Blocks.{IsCode, length-blocks_in, flat_map-blocks_in, length-flat_map, blocks_in-flat_map}
use Rattle.hh_saved.proofs.Entries.{total_takes, total_again}
use Rattle.hh_saved.proofs.Families.{family_bytes, family_takes, family_again}

-- a cell is a 64-bit number
abbrev IsSmall : ℕ → Type 0
IsSmall n = n < 2 ^ 64

-- 8 bytes are a cell, and it is these bytes
pub cell_code : IsCode (from_be_bytes w64) (to_be_bytes w64) 8 IsSmall
cell_code =
    record { len = λ n. refl; back = λ block len fits. wide64.back block len fits; again = λ n lt. wide64.again n lt }

-- where the sum is a 64-bit number, so is each cell
small_cells : (cells : List ℕ) → sum cells < 2 ^ 64 → AllByRecursion IsSmall cells
small_cells [] lt = tt
small_cells (c ∷ cells) lt =
    let all = sum_by-cons (λ x. x) c cells in
    (omega arith, small_cells cells (omega arith))

-- ---- rows

-- a row that is read is spelled so, and adds up to the total
row_takes : (width total : ℕ) (bytes : List ℕ) (x : List ℕ × List ℕ) → IsBytes bytes → row_at width total bytes ≡ Ok x
    → Takes bytes (cells_bytes x.0) x.1 × (length x.0 ≡ width) × (sum x.0 ≡ total)
unfolding row_at
row_takes width total bytes x fits e =
    let a = bind_ok _ _ x e in
    let field = a.0 in
    let cells = cells_in width field.0 in
    let g = passed _ _ _ x a.2 in
    let t = bytes_take _ _ _ fits a.1 in
    let whole : cells_bytes cells ≡ field.0 = flat_map-blocks_in _ _ _ _ cell_code width field.0 t.1 t.2 in
    rw (← g.1) (
      rw whole t.0,
      length-blocks_in (from_be_bytes w64) 8 width field.0,
      eqb-true _ _ g.0,
    )

-- and a row that is spelled so is read
row_again : (width total : ℕ) (cells rest : List ℕ) → length cells ≡ width → sum cells ≡ total → total < 2 ^ 64
    → row_at width total (cells_bytes cells ++ rest) ≡ Ok (cells, rest)
unfolding row_at
row_again width total cells rest len sums small =
    let field = cells_bytes cells in
    let field_len : length field ≡ 8 * width = omega (arith, length-flat_map _ _ _ _ cell_code cells) in
    let same : cells_in width field ≡ cells =
    ap (λ (n : ℕ). cells_in n field) (sym len)
    ∙ blocks_in-flat_map _ _ _ _ cell_code cells (small_cells cells (omega (arith, sums))) in
    let pass : eqb (sum cells) total ≡ true = eq-eqb (sum cells) total sums in
    rw (bytes_again (8 * width) field rest field_len, same, pass) refl

-- so many rows of cells, each of which adds up to the total
abbrev pub AreRows : ℕ → ℕ → ℕ → List ℕ → Type 0
AreRows zero width total cells = cells ≡ []
AreRows (suc n) width total cells =
    (length (take width cells) ≡ width) × (sum (take width cells) ≡ total) × AreRows n width total (drop width cells)

-- rows that are read are spelled so
pub rows_take : (n width total : ℕ) (bytes : List ℕ) (x : List ℕ × List ℕ) → IsBytes bytes
    → rows_at n width total bytes ≡ Ok x
    → Takes bytes (cells_bytes x.0) x.1 × AreRows n width total x.0
unfolding rows_at
rows_take zero width total bytes x fits e =
    rw (← ok_is ([], bytes) x e)
    (record { parts = refl; rest_fits = fits }, refl)
rows_take (suc n) width total bytes x fits e =
    let a = bind_ok _ _ x e in
    let first = a.0 in
    let b = bind_ok _ _ x a.2 in
    let others = b.0 in
    let one = row_takes _ _ _ _ fits a.1 in
    let more = rows_take n _ _ _ _ one.0.rest_fits b.1 in
    let both = Takes-then _ _ _ _ _ one.0 more.0 in
    let front : take width (first.0 ++ others.0) ≡ first.0 = take_at first.0 others.0 width one.1 in
    let back : drop width (first.0 ++ others.0) ≡ others.0 = drop_at first.0 others.0 width one.1 in
    rw (← ok_is (first.0 ++ others.0, others.1) x b.2) (
      rw flat_map-append both,
      (ap length front ∙ one.1, ap sum front ∙ one.2, rw back more.1),
    )

-- and rows that are spelled so are read
rows_again : (n width total : ℕ) (cells rest : List ℕ) → AreRows n width total cells → total < 2 ^ 64
    → rows_at n width total (cells_bytes cells ++ rest) ≡ Ok (cells, rest)
unfolding rows_at
rows_again zero width total cells rest are small = rw are refl
rows_again (suc n) width total cells rest are small =
    let front = take width cells in
    let back = drop width cells in
    let whole : front ++ back ≡ cells = take-append-drop width cells in
    let regrouped : cells_bytes cells ++ rest ≡ cells_bytes front ++ (cells_bytes back ++ rest) =
    ap (λ (t : List ℕ). cells_bytes t ++ rest) (sym whole)
    ∙ ap (λ (t : List ℕ). t ++ rest) (flat_map-append (to_be_bytes w64) front back)
    ∙ append_assoc (cells_bytes front) (cells_bytes back) rest in
    ap (rows_at (suc n) width total) regrouped
    ∙ rw (
      row_again width total front (cells_bytes back ++ rest) are.0 are.1 small,
      rows_again n width total back rest are.2 small,
    ) (ap (λ (t : List ℕ). Ok (t, rest)) whole)

-- ---- rows and the cells of a table

-- so many rows have so many cells
rows_len : (n width total : ℕ) (cells : List ℕ) → AreRows n width total cells → length cells ≡ n * width
rows_len zero width total cells are = omega (arith, ap length are)
rows_len (suc n) width total cells are =
    omega
    (arith, are.0, length-take width cells, length-drop width cells, rows_len n width total (drop width cells) are.2)

-- the next row's cells lie after the first row's
row_cells-suc : (width r : ℕ) (cells : List ℕ) → row_cells width cells (suc r) ≡ row_cells width (drop width cells) r
row_cells-suc width r cells =
    let place : suc r * width ≡ width + r * width = omega arith in
    ap (λ (k : ℕ). take width (drop k cells)) place
    ∙ ap (λ (t : List ℕ). take width t) (sym (drop-drop (r * width) width cells))

-- each row adds up to the total
rows_sum : (n width total : ℕ) (cells : List ℕ) → AreRows n width total cells → (r : ℕ) → r < n
    → sum (row_cells width cells r) ≡ total
rows_sum zero width total cells are r lt = absurd (omega arith)
rows_sum (suc n) width total cells are zero lt =
    let none : 0 * width ≡ 0 = omega arith in
    rw none are.1
rows_sum (suc n) width total cells are (suc r) lt =
    ap sum (row_cells-suc width r cells) ∙ rows_sum n width total (drop width cells) are.2 r (omega arith)

-- such rows are the cells of a table
pub cells_fit : (family : Coefficients) (width total : ℕ) (cells : List ℕ) → in_range width max_width ≡ true
    → total < 2 ^ 63 → AreRows (length family.rows) width total cells → FitsTable family width total cells
cells_fit family width total cells wide small are = record {
  width_in_range = wide;
  total_in_range = small;
  all_cells = rows_len (length family.rows) width total cells are;
  rows_sum = rows_sum (length family.rows) width total cells are;
}

-- and the cells of a table are such rows
rows_from : (n width total : ℕ) (cells : List ℕ) → length cells ≡ n * width
    → ((r : ℕ) → r < n → sum (row_cells width cells r) ≡ total) → AreRows n width total cells
rows_from zero width total cells len sums = nil_from_length cells (omega (arith, len))
rows_from (suc n) width total cells len sums =
    let none : 0 * width ≡ 0 = omega arith in
    let here : sum (take width cells) ≡ total = rw none at (sums 0 (omega arith)) in (
      omega (arith, length-take width cells),
      here,
      rows_from n width total (drop width cells) (omega (arith, length-drop width cells))
          (λ r lt. sym (ap sum (row_cells-suc width r cells)) ∙ sums (suc r) (omega arith)),
    )

-- ---- tables

-- a table that is read is spelled so
pub grid_takes : (bytes : List ℕ) (x : TableView × List ℕ) → IsBytes bytes → grid_at bytes ≡ Ok x
    → Takes bytes (grid_bytes x.0) x.1 × IsFamily x.0.family × FitsTable x.0.family x.0.width x.0.total x.0.cells
unfolding grid_at
grid_takes bytes x fits e =
    let a = bind_ok _ _ x e in
    let width = a.0 in
    let b = bind_ok _ _ x a.2 in
    let depth = b.0 in
    let c = bind_ok _ _ x b.2 in
    let family = c.0 in
    let d = bind_ok _ _ x c.2 in
    let total = d.0 in
    let f = bind_ok _ _ x d.2 in
    let cells = f.0 in
    let t0 = where_takes _ _ wide32 _ _ _ _ fits a.1 in
    let t1 = where_takes _ _ wide8 _ _ _ _ t0.0.rest_fits b.1 in
    let t2 = family_takes _ _ _ t1.0.rest_fits c.1 in
    let t3 = total_takes _ _ t2.0.rest_fits d.1 in
    let t4 = rows_take _ _ _ _ _ t3.0.rest_fits f.1 in
    let tail = to_be_bytes w64 total.0 ++ cells_bytes cells.0 in
    let rows = flat_map pair_bytes family.0.rows in
    let e34 = Takes-then _ _ _ _ _ t3.0 t4.0 in
    let e24 = Takes-then _ _ _ _ _ t2.0 e34 in
    let e14 =
    subst (λ (n : ℕ). Takes width.1 (to_be_bytes w8 n ++ (to_be_bytes w64 family.0.z ++ (rows ++ tail))) cells.1)
    (sym t2.2) (Takes-then _ _ _ _ _ t1.0 (rw (append_assoc (to_be_bytes w64 family.0.z) rows tail) at e24)) in
    let e04 = Takes-then _ _ _ _ _ t0.0 e14 in
    let is_family : IsFamily family.0 =
    record { depth = rw t2.2 t1.2; coefficients = t2.1 } in
    let are = subst (λ (n : ℕ). AreRows n width.0 total.0 cells.0) (sym t2.2) t4.1 in
    let made : TableView × List ℕ =
    (record { family = family.0; width = width.0; total = total.0; cells = cells.0 }, cells.1) in
    rw (← ok_is made x f.2)
    (e04, is_family, cells_fit family.0 width.0 total.0 cells.0 t0.2 t3.1 are)

-- and a table that is spelled so is read
pub grid_again : (t : TableView) (rest : List ℕ) → IsFamily t.family → FitsTable t.family t.width t.total t.cells
    → grid_at (grid_bytes t ++ rest) ≡ Ok (t, rest)
unfolding grid_at
grid_again t rest family fits =
    let depth = length t.family.rows in
    let total = to_be_bytes w64 t.total in
    let cells = cells_bytes t.cells in
    let regrouped : grid_bytes t ++ rest ≡ to_be_bytes w32 t.width
    ++ (to_be_bytes w8 depth ++ (family_bytes t.family ++ (total ++ (cells ++ rest)))) = simp append_assoc in
    let are = rows_from depth t.width t.total t.cells fits.all_cells fits.rows_sum in
    ap grid_at regrouped
    ∙ rw (
      where_again _ _ wide32 (λ n. in_range n max_width) faults.BadWidth t.width
          (to_be_bytes w8 depth ++ (family_bytes t.family ++ (total ++ (cells ++ rest))))
          (grind (arith, nat_tests, fits.width_in_range)) fits.width_in_range,
      where_again _ _ wide8 (λ n. in_range n max_depth) faults.BadDepth depth
          (family_bytes t.family ++ (total ++ (cells ++ rest))) (grind (arith, nat_tests, family.depth))
          family.depth,
      family_again t.family (total ++ (cells ++ rest)) family.coefficients,
      total_again t.total (cells ++ rest) fits.total_in_range,
      rows_again depth t.width t.total t.cells rest are (omega (arith, fits.total_in_range)),
    ) refl
