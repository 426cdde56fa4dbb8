-- What some texts have, one text after the other.
use Rattle.std.proofs.Common.{◌≡◌, ◌+◌, ◌∷◌, ◌++◌, ◌∙◌, ℕ, List, [], length, Option, Some, None, Result, Ok, Err, refl, sym, ap, arith, append_assoc, append-nil}
use Rattle.std.specs.Prelude.{option_map, option_and_then}
use Rattle.hh_stream.specs.Weights.{Entry, total_of}
use Rattle.hh_records.specs.declared.layout.Layout.{Layout}
use Rattle.hh_faults.specs.declared.records.BadRecordCause.{BadRecordCause}
use Rattle.hh_records.specs.Layouts.{adding_next, adds, every, gathered, items_after, joined}
use Rattle.hh_records.specs.Streams.{Parts, Reading}

option-or : {A : Type 0} → A → Option A → A
option-or d None = d
option-or d (Some x) = x

pub some-is : {A : Type 0} {x y : A} → ◌≡◌ {A = Option A} (Some x) (Some y) → x ≡ y
unfolding option-or
some-is {x = x} e = ap (option-or x) e

pub nothing-left : {A : Type 0} (xs : List A) → 0 ≡ length xs → [] ≡ xs
nothing-left [] e = refl
nothing-left (x ∷ xs) e = absurd (omega (arith, e))

pub map-nothing : {A : Type 0} (o : Option (List A)) → option_map (λ (qs : List A). [] ++ qs) o ≡ o
map-nothing None = refl
map-nothing (Some qs) = refl

pub map-twice : {A : Type 0} (ps qs : List A) (o : Option (List A))
    → option_map (λ (rs : List A). ps ++ rs) (option_map (λ (rs : List A). qs ++ rs) o)
    ≡ option_map (λ (rs : List A). (ps ++ qs) ++ rs) o
map-twice ps qs None = refl
map-twice ps qs (Some rs) = ap Some (sym (append_assoc ps qs rs))

module _ {A B : Type 0} (f : A → Option (List B)) where
  -- one more that f gives something of
  pub gathered-push : (xs : List A) (x : A) (ps qs : List B) → gathered f xs ≡ Some ps → f x ≡ Some qs
      → gathered f (xs ++ x ∷ []) ≡ Some (ps ++ qs)
  unfolding gathered
  gathered-push [] x ps qs e h =
      let none : [] ≡ ps = some-is e in
      rw (h, ← none) (ap Some (append-nil qs))
  gathered-push (z ∷ xs) x ps qs e h = by (f z) (gathered f xs) refl e (λ zs q. gathered-push xs x zs qs q h)
    where
      by : (o p : Option (List B)) → gathered f xs ≡ p
          → option_and_then (λ z. option_map (λ zs. z ++ zs) p) o ≡ Some ps
          → ((zs : List B) → gathered f xs ≡ Some zs → gathered f (xs ++ x ∷ []) ≡ Some (zs ++ qs))
          → option_and_then (λ z. option_map (λ zs. z ++ zs) (gathered f (xs ++ x ∷ []))) o ≡ Some (ps ++ qs)
      by None p q e more = cc e
      by (Some z) None q e more = cc e
      by (Some z) (Some zs) q e more =
          let all : z ++ zs ≡ ps = some-is e in
          rw (more zs q, ← all) (ap Some (sym (append_assoc z zs qs)))

  -- what f gives of the first, and of the others
  pub gathered-first : (x : A) (xs : List A) (ps : List B) → gathered f (x ∷ xs) ≡ Some ps
      → (qs : List B) × (rs : List B) × (f x ≡ Some qs) × (gathered f xs ≡ Some rs) × (ps ≡ qs ++ rs)
  unfolding gathered
  gathered-first x xs ps e = by (f x) (gathered f xs) refl refl e
    where
      by : (o p : Option (List B)) → f x ≡ o → gathered f xs ≡ p
          → option_and_then (λ z. option_map (λ zs. z ++ zs) p) o ≡ Some ps
          → (qs : List B) × (rs : List B) × (f x ≡ Some qs) × (gathered f xs ≡ Some rs) × (ps ≡ qs ++ rs)
      by None p h q e = cc e
      by (Some z) None h q e = cc e
      by (Some z) (Some zs) h q e = (z, zs, h, q, sym (some-is e))

pub every-first : {A B : Type 0} (f : A → Option B) (x : A) (xs : List A) (ys : List B) → every f (x ∷ xs) ≡ Some ys
    → (z : B) × (zs : List B) × (f x ≡ Some z) × (every f xs ≡ Some zs) × (ys ≡ z ∷ zs)
unfolding every
every-first {A} {B} f x xs ys e = by (f x) (every f xs) refl refl e
  where
    by : (o : Option B) (p : Option (List B)) → f x ≡ o → every f xs ≡ p
        → option_and_then (λ z. option_map (λ zs. z ∷ zs) p) o ≡ Some ys
        → (z : B) × (zs : List B) × (f x ≡ Some z) × (every f xs ≡ Some zs) × (ys ≡ z ∷ zs)
    by None p h q e = cc e
    by (Some z) None h q e = cc e
    by (Some z) (Some zs) h q e = (z, zs, h, q, sym (some-is e))

-- ---- texts that are read
-- a record that fails ends the reading, whatever comes after it
pub items-refused : (layout : Layout) (n t : ℕ) (ps qs : List Parts) (x : ℕ × BadRecordCause) → items_after layout n t ps ≡ Err x
    → items_after layout n t (ps ++ qs) ≡ Err x
unfolding items_after
items-refused layout n t [] qs x e = cc e
items-refused layout n t (p ∷ ps) qs x e =
    by (adds layout t p) e (λ es. items-refused layout (n + 1) (t + total_of es) ps qs x)
  where
    go : (es : List Entry) (r : Reading) → items_after layout (n + 1) (t + total_of es) ps ≡ r → joined es r ≡ Err x
        → (items_after layout (n + 1) (t + total_of es) ps ≡ Err x → items_after layout (n + 1) (t + total_of es) (ps ++ qs) ≡ Err x)
        → joined es (items_after layout (n + 1) (t + total_of es) (ps ++ qs)) ≡ Err x
    go es (Ok ys) f e more = cc e
    go es (Err y) f e more = ap (joined es) (more (f ∙ e))

    by : (o : Result (List Entry) BadRecordCause)
        → adding_next o n (λ es. items_after layout (n + 1) (t + total_of es) ps) ≡ Err x
        → ((es : List Entry) → items_after layout (n + 1) (t + total_of es) ps ≡ Err x
        → items_after layout (n + 1) (t + total_of es) (ps ++ qs) ≡ Err x)
        → adding_next o n (λ es. items_after layout (n + 1) (t + total_of es) (ps ++ qs)) ≡ Err x
    by (Ok es) e more = go es (items_after layout (n + 1) (t + total_of es) ps) refl e (more es)
    by (Err y) e more = e
