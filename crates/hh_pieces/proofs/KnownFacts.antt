-- What is known of the elements of two lists.
use Rattle.std.proofs.Common.{◌≡◌, ◌∷◌, ◌++◌, ◌∙◌, List, [], Option, Some, None, refl, sym, ap, append_assoc, append-nil}
use Rattle.std.specs.Prelude.{IfSome, option_and_then, option_map}
use Rattle.hh_pieces.specs.Sources.{IsKnownStill}
use Rattle.hh_records.specs.Layouts.{every}
use Rattle.hh_records.proofs.LayoutFacts.{every-push}
use Rattle.hh_records.proofs.OpenFacts.{every-first, some-is}

module _ {A B C : Type 0} (f : A → Option C) (g : B → Option C) where
  -- what f tells of all but the rest, g tells of these
  abbrev pub KnownSoFar : List A → List A → List B → Type 0
  KnownSoFar all rest ys =
      IfSome (every f all) (λ cs. (before : List C) × (after : List C)
      × (every g ys ≡ Some before) × (every f rest ≡ Some after) × (cs ≡ before ++ after))

  pub known-start : (all : List A) → KnownSoFar all all []
  unfolding every
  known-start all = by (every f all) refl
    where
      by : (o : Option (List C)) → every f all ≡ o
          → IfSome o (λ cs. (before : List C) × (after : List C)
          × (every g [] ≡ Some before) × (every f all ≡ Some after) × (cs ≡ before ++ after))
      by None e = tt
      by (Some cs) e = ([], cs, refl, e, refl)

  -- one more
  pub known-more : (all : List A) (x : A) (rest : List A) (ys : List B) (y : B) → KnownSoFar all (x ∷ rest) ys
      → IsKnownStill (f x) (g y) → KnownSoFar all rest (ys ++ y ∷ [])
  known-more all x rest ys y h k = by (every f all) h
    where
      by : (o : Option (List C))
          → IfSome o (λ cs. (before : List C) × (after : List C)
          × (every g ys ≡ Some before) × (every f (x ∷ rest) ≡ Some after) × (cs ≡ before ++ after))
          → IfSome o (λ cs. (before : List C) × (after : List C)
          × (every g (ys ++ y ∷ []) ≡ Some before) × (every f rest ≡ Some after) × (cs ≡ before ++ after))
      by None h = tt
      by (Some cs) (before, after, told, left, is) =
          let (c, later, one, others, all) = every-first f x rest after left in
          let still : Some c ≡ g y = sym (rw one at k) in (
            before ++ c ∷ [],
            later,
            every-push g ys y c before told still,
            others,
            is ∙ ap (λ l. before ++ l) all ∙ sym (append_assoc before (c ∷ []) later),
          )

  pub known-end : (all : List A) (ys : List B) → KnownSoFar all [] ys → IsKnownStill (every f all) (every g ys)
  unfolding every
  known-end all ys h = by (every f all) h
    where
      by : (o : Option (List C))
          → IfSome o (λ cs. (before : List C) × (after : List C)
          × (every g ys ≡ Some before) × (every f [] ≡ Some after) × (cs ≡ before ++ after))
          → IsKnownStill o (every g ys)
      by None h = tt
      by (Some cs) (before, after, told, left, is) =
          let none : [] ≡ after = some-is left in
          told ∙ ap Some (sym (is ∙ ap (λ l. before ++ l) (sym none) ∙ append-nil before))

  -- what f tells of the first and of the others, g tells of theirs
  pub known-first : (x : A) (xs : List A) (y : B) (ys : List B) → IsKnownStill (f x) (g y)
      → IsKnownStill (every f xs) (every g ys) → IsKnownStill (every f (x ∷ xs)) (every g (y ∷ ys))
  unfolding every
  known-first x xs y ys h k = by (f x) (every f xs) h k
    where
      by : (o : Option C) (p : Option (List C)) → IsKnownStill o (g y) → IsKnownStill p (every g ys)
          → IsKnownStill (option_and_then (λ z. option_map (λ zs. z ∷ zs) p) o)
          (option_and_then (λ z. option_map (λ zs. z ∷ zs) (every g ys)) (g y))
      by None p h k = tt
      by (Some z) None h k = tt
      by (Some z) (Some zs) h k = rw (h, k) refl
