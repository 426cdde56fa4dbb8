-- What a taker is after some more items.
use Rattle.std.proofs.Common.{List, [], ◌∷◌, ◌++◌, append_assoc, append-nil, fold, subst, sym}
use Rattle.hh_stream.specs.Weights.{Entry}

module _ {A : Type 0} (is_of : List Entry → A → Type 0) (add : A → Entry → A)
    (more : (a : A) (xs : List Entry) (e : Entry) → is_of xs a → is_of (xs ++ e ∷ []) (add a e)) where
  -- where one that has taken an item more is of one item more, one that takes many is of all of them
  pub follows : (ys xs : List Entry) (a : A) → is_of xs a → is_of (xs ++ ys) (fold add a ys)
  follows [] xs a p = subst (λ zs. is_of zs a) (sym (append-nil xs)) p
  follows (y ∷ ys) xs a p =
      subst (λ zs. is_of zs (fold add (add a y) ys)) (append_assoc xs (y ∷ []) ys)
      (follows ys (xs ++ y ∷ []) (add a y) (more a xs y p))
