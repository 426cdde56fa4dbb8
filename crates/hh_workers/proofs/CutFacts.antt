-- How many pieces a cutting makes.
use Rattle.std.proofs.Common.{◌≡◌, ℕ, suc, List, [], ◌∷◌, length, refl, ap}
use Rattle.hh_stream.specs.Cuttings.{pieces_of}

-- a cutting gives as many pieces as it has lengths
pub length-pieces_of : {A : Type 0} (ns : List ℕ) (xs : List A) → length (pieces_of ns xs) ≡ length ns
length-pieces_of [] xs = refl
length-pieces_of (n ∷ ns) xs = ap suc (length-pieces_of ns _)
