-- What a loop writes, one item after the other.
use Rattle.std.proofs.Common.{◌≡◌, ℕ, ◌+◌, ◌<◌, ◌∙◌, List, [], ◌∷◌, ◌++◌, length, take, get_or, ap, sym}
use Rattle.std.specs.List.{flat_map}
use Rattle.std.proofs.lemmas.List.{flat_map_more, take_more}

-- one item more is written
pub written_more : {X : Type 0} (f : X → List ℕ) (front before after : List ℕ) (xs : List X) (i : ℕ) (x d : X)
    → i < length xs → x ≡ get_or xs i d → before ≡ front ++ flat_map f (take i xs) → after ≡ before ++ f x
    → after ≡ front ++ flat_map f (take (i + 1) xs)
written_more {X} f front before after xs i x d lt is so_far more =
    more ∙ ap (λ (out : List ℕ). out ++ f x) so_far ∙ flat_map_more f front (take i xs) x
    ∙ ap (λ (y : X). front ++ flat_map f (take i xs ++ y ∷ [])) is
    ∙ ap (λ (ys : List X). front ++ flat_map f ys) (sym (take_more xs i d lt))
