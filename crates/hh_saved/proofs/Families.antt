-- Hash families: what is read is spelled so, and what is spelled so is read.
use Rattle.std.proofs.Common.{◌≡◌, ℕ, ◌+◌, ◌*◌, Bool, false, cond, List, ◌++◌, length, take, drop, Result, Ok, Err, Decides, refl, sym, ap, ap₂, ◌∙◌, arith}
use Rattle.std.specs.List.{flat_map, list_all}
use Rattle.std.specs.Int.{w64, from_be_bytes, to_be_bytes}
use Rattle.std.proofs.lemmas.Bool.Decides.{same_from_decides, Decides-and, Decides-like, Decides-ltb, Decides-by_and}
use Rattle.std.proofs.lemmas.List.{take_at, drop_at, take-append-drop, length-take, length-drop, length-append}
use Rattle.std.proofs.lemmas.List.Elements.{recursion_from_All}
use Rattle.hh_countmin.specs.Family.{Coefficients, modulus, IsRow, AreCoefficients}
use Rattle.hh_faults.specs.declared.saved.SavedFault.{SavedFault}
use Rattle.hh_faults.specs.declared.saved.SavedFault.TheVariants as faults
use Rattle.hh_saved.specs.Spelling.{pair_bytes}
use Rattle.hh_saved.specs.Reading.{bytes_at, blocks_in, pair_of, family_in, is_row, has_coefficients, family_at}
use Rattle.hh_saved.proofs.Fields.{Decides-leb, IsBytes, IsBytes-take, IsBytes-drop, bind_ok, passed, Takes, wide64, bytes_take, bytes_again}
use Rattle.hh_saved.proofs.Blocks.{IsCode, length-blocks_in, flat_map-blocks_in, length-flat_map, blocks_in-flat_map}

-- what the test of a row tells
is_row-Decides : (row : ℕ × ℕ) → Decides (is_row row) (IsRow row)
is_row-Decides row =
    Decides-like _ (λ p. (p.0.0, p.0.1, p.1)) (λ p. ((p.0, p.1), p.2))
    (Decides-and _ _ (Decides-and _ _ (Decides-leb 1 row.0) (Decides-ltb row.0 modulus)) (Decides-ltb row.1 modulus))

-- what the test of a family tells
pub has_coefficients-Decides : (family : Coefficients)
    → Decides (has_coefficients family) (AreCoefficients family.z family.rows)
has_coefficients-Decides family =
    Decides-like _ (λ p. (p.0.0, p.0.1, p.1)) (λ p. ((p.0, p.1), p.2))
    (Decides-and _ _ (Decides-and _ _ (Decides-leb 1 family.z) (Decides-ltb family.z modulus))
    (Decides-by_and is_row IsRow (list_all is_row) is_row-Decides refl (λ _ _. refl) family.rows))

-- what a family's bytes give, as its test went
pub family_at-is : (depth : ℕ) (bytes field rest : List ℕ) (family : Coefficients) (b : Bool)
    → bytes_at (8 + 16 * depth) bytes ≡ Ok (field, rest) → family ≡ family_in depth field → has_coefficients family ≡ b
    → family_at depth bytes ≡ cond b (Ok (family, rest)) (Err faults.BadCoefficient)
unfolding family_at
family_at-is depth bytes field rest family b read is test =
    let answer : Coefficients → Bool → Result (Coefficients × List ℕ) SavedFault =
    λ f t. cond t (Ok (f, rest)) (Err faults.BadCoefficient) in
    rw read (ap (λ (f : Coefficients). answer f (has_coefficients f)) (sym is) ∙ ap (answer family) test)

-- a family that was refused is out of range
pub has_coefficients-refused : (family : Coefficients) → (AreCoefficients family.z family.rows → ⊥)
    → has_coefficients family ≡ false
has_coefficients-refused family refused =
    same_from_decides (has_coefficients family) false (has_coefficients-Decides family)
    (λ e. absurd cc, λ are. absurd (refused are))

-- 16 bytes are a row's coefficients, and these are the bytes
pub pair_code : IsCode pair_of pair_bytes 16 IsRow
pair_code = record {
  len = λ row. refl;
  back = λ block len fits.
      let front : to_be_bytes w64 (from_be_bytes w64 (take 8 block)) ≡ take 8 block =
      wide64.back (take 8 block) (omega (arith, length-take 8 block)) (IsBytes-take 8 block fits) in
      let back : to_be_bytes w64 (from_be_bytes w64 (drop 8 block)) ≡ drop 8 block =
      wide64.back (drop 8 block) (omega (arith, length-drop 8 block)) (IsBytes-drop 8 block fits) in
      ap₂ (λ (x y : List ℕ). x ++ y) front back ∙ take-append-drop 8 block;
  again = λ row is.
      ap₂ (λ (a b : ℕ). (a, b))
      (ap (from_be_bytes w64) (take_at (to_be_bytes w64 row.0) (to_be_bytes w64 row.1) 8 refl)
      ∙ wide64.again row.0 (omega (arith, is.1)))
      (ap (from_be_bytes w64) (drop_at (to_be_bytes w64 row.0) (to_be_bytes w64 row.1) 8 refl)
      ∙ wide64.again row.1 (omega (arith, is.2)));
}

-- the bytes of a family
abbrev pub family_bytes : Coefficients → List ℕ
family_bytes family = to_be_bytes w64 family.z ++ flat_map pair_bytes family.rows

-- a family that is read is spelled so
pub family_takes : (depth : ℕ) (bytes : List ℕ) (x : Coefficients × List ℕ) → IsBytes bytes
    → family_at depth bytes ≡ Ok x
    → Takes bytes (family_bytes x.0) x.1 × AreCoefficients x.0.z x.0.rows × (length x.0.rows ≡ depth)
unfolding family_at
family_takes depth bytes x fits e =
    let a = bind_ok _ _ x e in
    let field = a.0 in
    let family = family_in depth field.0 in
    let g = passed _ _ _ x a.2 in
    let t = bytes_take _ _ _ fits a.1 in
    let front : to_be_bytes w64 family.z ≡ take 8 field.0 =
    wide64.back (take 8 field.0) (omega (arith, length-take 8 field.0, t.1)) (IsBytes-take 8 field.0 t.2) in
    let back =
    flat_map-blocks_in _ _ _ _ pair_code depth (drop 8 field.0) (omega (arith, length-drop 8 field.0, t.1))
    (IsBytes-drop 8 field.0 t.2) in
    let whole : family_bytes family ≡ field.0 =
    ap₂ (λ (x y : List ℕ). x ++ y) front back ∙ take-append-drop 8 field.0 in
    rw (← g.1) (
      rw whole t.0,
      (has_coefficients-Decides family).0 g.0,
      length-blocks_in pair_of 16 depth (drop 8 field.0),
    )

-- and a family that is spelled so is read
pub family_again : (family : Coefficients) (rest : List ℕ) → AreCoefficients family.z family.rows
    → family_at (length family.rows) (family_bytes family ++ rest) ≡ Ok (family, rest)
family_again family rest are =
    let depth = length family.rows in
    let rows = flat_map pair_bytes family.rows in
    let field = family_bytes family in
    let rows_len : length rows ≡ 16 * depth = length-flat_map _ _ _ _ pair_code family.rows in
    let z_len : length (to_be_bytes w64 family.z) ≡ 8 = refl in
    let len : length field ≡ 8 + 16 * depth =
    omega (arith, length-append (to_be_bytes w64 family.z) rows, z_len, rows_len) in
    let z : from_be_bytes w64 (take 8 field) ≡ family.z =
    ap (from_be_bytes w64) (take_at (to_be_bytes w64 family.z) rows 8 refl)
    ∙ wide64.again family.z (omega (arith, are.1)) in
    let pairs : blocks_in pair_of 16 depth (drop 8 field) ≡ family.rows =
    ap (blocks_in pair_of 16 depth) (drop_at (to_be_bytes w64 family.z) rows 8 refl)
    ∙ blocks_in-flat_map _ _ _ _ pair_code family.rows (recursion_from_All IsRow family.rows are.2) in
    let is : family ≡ family_in depth field =
    sym (ap₂ (λ (n : ℕ) (rows : List (ℕ × ℕ)). record { z = n; rows = rows }) z pairs) in
    family_at-is depth _ _ _ _ _ (bytes_again (8 + 16 * depth) field rest len) is
    ((has_coefficients-Decides family).1 are)
