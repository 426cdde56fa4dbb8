-- A part of a buffer.
use Rattle.std.proofs.Common.{◌≡◌, ◌≤◌, ◌+◌, ◌-◌, ◌++◌, ◌∙◌, ℕ, List, length, length-drop, take, drop, refl, sym, ap, arith}
use Rattle.std.proofs.lemmas.List.{drop-append-le, drop-drop, drop-take, drop_at, length-take-le, take-append-le, take_at}
use Rattle.std.proofs.lemmas.List.Edits.{take-paste}
use lib.Seq.{paste, take-add}

-- what is held grows by what was read into the room after it
pub held-grown : (xs buffer tail : List ℕ) (from held count : ℕ) → from + held ≤ length xs → count ≤ length buffer
    → take (held + count) (drop from (take (from + held) xs ++ (buffer ++ tail))) ≡ take held (drop from xs) ++ take count buffer
held-grown xs buffer tail from held count within fits =
    let front : List ℕ = take (from + held) xs in
    let len : length front ≡ from + held = length-take-le (from + held) xs within in
    let part : List ℕ = take held (drop from xs) in
    let after : List ℕ = buffer ++ tail in
    let short : length part ≡ held = length-take-le held (drop from xs) (omega (arith, within, length-drop from xs)) in
    ap (take (held + count)) (drop-append-le from front after (omega (arith, len))
    ∙ ap (λ (ys : List ℕ). ys ++ after) (drop-take from held xs))
    ∙ take-add held count (part ++ after)
    ∙ rw (take_at part after held short, drop_at part after held short, take-append-le count buffer tail fits) refl

-- what is moved to the front
pub held-moved : (xs : List ℕ) (from held : ℕ) → from + held ≤ length xs
    → take held (paste xs 0 (drop from xs) held) ≡ take held (drop from xs)
held-moved xs from held within =
    let same : held ≡ 0 + held = omega arith in
    ap (λ k. take k (paste xs 0 (drop from xs) held)) same
    ∙ take-paste xs 0 (drop from xs) held (omega arith) (omega (arith, within, length-drop from xs))

-- what is removed
pub held-less : (xs : List ℕ) (from held count : ℕ) → count ≤ held
    → take (held - count) (drop (from + count) xs) ≡ drop count (take held (drop from xs))
held-less xs from held count some =
    let parts : held ≡ count + (held - count) = omega (arith, some) in
    ap (take (held - count)) (sym (drop-drop count from xs))
    ∙ sym (ap (λ j. drop count (take j (drop from xs))) parts ∙ drop-take count (held - count) (drop from xs))
