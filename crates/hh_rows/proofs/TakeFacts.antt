-- Bytes taken in two steps.
use Rattle.std.proofs.Common.{◌≡◌, ◌+◌, ◌≤◌, ◌<◌, ◌∙◌, ◌||◌, ℕ, Bool, false, true, List, [], length, append-nil, take, drop, Option, Result, Ok, Err, IfOk, arith, refl, sym}
use Rattle.std.proofs.Math.Seq.{take-add}
use Rattle.std.proofs.lemmas.List.{length-drop}
use Rattle.std.proofs.lemmas.Bool.{ne_eqb}
use Rattle.std.proofs.KnownBytes.{Appends-kept, Appends-trans}
use Rattle.std.specs.Io.KnownBytes.{Appends, WriteAppends}
use Rattle.std.specs.Result.{result_unwrap_or}
use Rattle.hh_rows.specs.Sinks.{take_fails}

-- the first w bytes, and then the first n of the others
pub takes-more : (a b c : Option (List ℕ)) (bytes : List ℕ) (w n : ℕ) → Appends a b (take w bytes)
    → Appends b c (take n (drop w bytes)) → Appends a c (take (w + n) bytes)
takes-more a b c bytes w n f g =
    rw (take-add w n bytes) (Appends-trans a b c (take w bytes) (take n (drop w bytes)) f g)

-- one call of `take` on what is left, which took something
pub take-step : {E : Type 0} (a b c : Option (List ℕ)) (bytes rest : List ℕ) (w n : ℕ) (r : Result ℕ E) (f0 f1 : Bool)
    → rest ≡ drop w bytes → w ≤ length bytes → Appends a b (take w bytes)
    → IfOk r (λ n. n ≤ length rest) → WriteAppends b c r rest → f1 ≡ (f0 || take_fails r rest) → f0 ≡ false
    → n ≡ result_unwrap_or r 0 → (n ≡ 0 → ⊥)
    → (w + n ≤ length bytes) × (f1 ≡ false) × Appends a c (take (w + n) bytes)
take-step a b c bytes rest w n (Ok m) f0 f1 er le t count g ef e0 en ne =
    let size = length-drop w bytes in
    let bound : m ≤ length (drop w bytes) = rw (← er) count in
    let zero : (m ≡ 0 → ⊥) = rw en at ne in (
      rw en (omega (arith, size, bound, le)),
      rw (ef, e0, ne_eqb m 0 zero) refl,
      rw en (takes-more a b c bytes w m t (rw er at g)),
    )
take-step a b c bytes rest w n (Err e) f0 f1 er le t count g ef e0 en ne = absurd (ne en)

-- a call that took nothing of what is left
pub take-stopped : {E : Type 0} (a b c : Option (List ℕ)) (bytes rest : List ℕ) (w n : ℕ) (r : Result ℕ E)
    → Appends a b (take w bytes) → WriteAppends b c r rest → n ≡ result_unwrap_or r 0 → n ≡ 0 → Appends a c (take w bytes)
take-stopped a b c bytes rest w n (Ok m) t g en none =
    let zero : m ≡ 0 = sym en ∙ none in
    let nothing : Appends b c [] = rw zero at g in
    rw append-nil at (Appends-trans a b c (take w bytes) [] t nothing)
take-stopped a b c bytes rest w n (Err e) t g en none = Appends-kept a b c (take w bytes) t g

-- it has failed, since something is left
pub take-failed : {E : Type 0} (bytes rest : List ℕ) (w n : ℕ) (r : Result ℕ E) (f0 f1 : Bool) → rest ≡ drop w bytes
    → w < length bytes → f1 ≡ (f0 || take_fails r rest) → f0 ≡ false → n ≡ result_unwrap_or r 0 → n ≡ 0 → true ≡ f1
take-failed bytes rest w n (Ok m) f0 f1 er l ef e0 en none =
    let zero : m ≡ 0 = sym en ∙ none in
    let size = length-drop w bytes in
    let some : (length (drop w bytes) ≡ 0 → ⊥) = λ e. absurd (omega (arith, size, l, e)) in
    rw (ef, e0, zero, er, ne_eqb (length (drop w bytes)) 0 some) refl
take-failed bytes rest w n (Err e) f0 f1 er l ef e0 en none = rw (ef, e0) refl
