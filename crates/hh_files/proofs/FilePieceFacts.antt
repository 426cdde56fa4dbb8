-- Pieces of files, and what workers find in them.
use Rattle.std.proofs.Common.{◌≡◌, ◌≤◌, ◌<◌, ◌+◌, ◌++◌, ◌∷◌, ◌∙◌, ℕ, List, [], length, map, get_or, Option, Some, None, Result, Ok, Err, refl, sym, ap, arith}
use Rattle.std.specs.Prelude.{IfSome, IsSome, OnOk}
use Rattle.std.proofs.lemmas.List.{get_or-map, length-map}
use Rattle.std.proofs.lemmas.List.Sums.{sum_by-append}
use Rattle.hh_stream.specs.Cuttings.{whole_of}
use Rattle.hh_stream.specs.Taking.{Takes}
use Rattle.hh_stream.specs.Weights.{Entry, max_total, total_of}
use Rattle.hh_files.specs.FilePieces.{items_or_too_many, lists_of}

-- where the pieces are not too many, each can be read by itself
pub each_is_read : (pieces : List (Option (List Entry))) → total_of (whole_of (map items_or_too_many pieces)) ≤ max_total
    → pieces ≡ map Some (map items_or_too_many pieces)
each_is_read [] few = refl
each_is_read (p ∷ pieces) few =
    let lists = map items_or_too_many pieces in
    let sum : total_of (items_or_too_many p ++ whole_of lists) ≡ total_of (items_or_too_many p) + total_of (whole_of lists) =
    sum_by-append (λ (e : Entry). e.1) (items_or_too_many p) (whole_of lists) in
    first p (omega (arith, sum, few)) (each_is_read pieces (omega (arith, sum, few)))
  where
    first : (p : Option (List Entry)) → total_of (items_or_too_many p) ≤ max_total
        → pieces ≡ map Some (map items_or_too_many pieces)
        → p ∷ pieces ≡ Some (items_or_too_many p) ∷ map Some (map items_or_too_many pieces)
    first None few others = absurd (omega (arith, few))
    first (Some xs) few others = ap (λ (ps : List (Option (List Entry))). Some xs ∷ ps) others

-- a piece that was read has its items
pub read_piece : (count i : ℕ) (o : Option (List (Option (List Entry)))) (xs : List Entry) → i < length (lists_of count o)
    → IfSome o (λ pieces. get_or pieces i None ≡ Some xs) → IsSome o → xs ≡ get_or (lists_of count o) i []
read_piece count i None xs l is known = absurd (cc known)
read_piece count i (Some pieces) xs l is known =
    let l2 : i < length pieces = omega (arith, l, length-map pieces items_or_too_many) in
    sym (get_or-map items_or_too_many pieces i None [] l2 ∙ ap items_or_too_many is)

-- what follows of the items that a call hands over is given of them too
pub hands-over : {A R E : Type 0} (f : A → Entry → A) (w : A → ℕ) (old new : A) (P Q : List Entry → Type 0) (r : Result R E)
    → OnOk r (Takes f w old new P) → ((xs : List Entry) → P xs → Q xs) → OnOk r (Takes f w old new Q)
hands-over f w old new P Q (Ok x) t follows = record {
  xs = t.xs;
  given = follows t.xs t.given;
  positive = t.positive;
  weight = t.weight;
  taken = t.taken;
}
hands-over f w old new P Q (Err e) t follows = tt
