-- The fields at some places of a record.
use Rattle.std.proofs.Common.{◌≡◌, ◌<◌, ◌+◌, ◌∷◌, ◌++◌, ◌∙◌, ℕ, zero, suc, List, [], length, Option, Some, None, refl, sym, ap, arith, append_assoc, append-nil}
use Rattle.std.specs.Prelude.{◌==◌, drop, get_or, false, true, option_map, option_and_then}
use Rattle.std.specs.Str.{bytes_eq}
use Rattle.std.proofs.lemmas.Bool.{ne_eqb}
use Rattle.csv.specs.Records.{field_at}
use Rattle.csv.specs.Writing.{default_writer, field_text, fields_text, next_sep, row_body}
use Rattle.hh_records.specs.Formats.{Part, part_of, with_part}
use Rattle.hh_records.specs.Layouts.{every, fields_at, key_of, named_from}
use Rattle.hh_records.specs.Streams.{Fields}

module _ {A B : Type 0} (f : A → Option B) where
  -- one more that f gives something of
  pub every-push : (xs : List A) (x : A) (y : B) (ys : List B) → every f xs ≡ Some ys → Some y ≡ f x
      → every f (xs ++ x ∷ []) ≡ Some (ys ++ y ∷ [])
  unfolding every
  every-push [] x y ys e h = rw (← h) (cc e)
  every-push (z ∷ xs) x y ys e h = by (f z) (every f xs) refl e (λ zs q. every-push xs x y zs q h)
    where
      by : (o : Option B) (p : Option (List B)) → every f xs ≡ p
          → option_and_then (λ z. option_map (λ zs. z ∷ zs) p) o ≡ Some ys
          → ((zs : List B) → every f xs ≡ Some zs → every f (xs ++ x ∷ []) ≡ Some (zs ++ y ∷ []))
          → option_and_then (λ z. option_map (λ zs. z ∷ zs) (every f (xs ++ x ∷ []))) o ≡ Some (ys ++ y ∷ [])
      by None p q e more = cc e
      by (Some z) None q e more = cc e
      by (Some z) (Some zs) q e more = rw (more zs q) (cc e)

  -- one that f gives nothing of
  pub every-none : (xs : List A) (x : A) (rest : List A) → None ≡ f x → every f (xs ++ x ∷ rest) ≡ None
  unfolding every
  every-none [] x rest h = rw (← h) refl
  every-none (z ∷ xs) x rest h = rw (every-none xs x rest h) (by (f z))
    where
      by : (o : Option B) → option_and_then (λ (z : B). option_map (λ (zs : List B). z ∷ zs) None) o ≡ None
      by None = refl
      by (Some z) = refl

  -- they are as many
  pub every-length : (xs : List A) (ys : List B) → every f xs ≡ Some ys → length ys ≡ length xs
  unfolding every
  every-length [] ys e = cc e
  every-length (z ∷ xs) ys e = by (f z) (every f xs) refl e (every-length xs)
    where
      by : (o : Option B) (p : Option (List B)) → every f xs ≡ p
          → option_and_then (λ z. option_map (λ zs. z ∷ zs) p) o ≡ Some ys
          → ((zs : List B) → every f xs ≡ Some zs → length zs ≡ length xs) → length ys ≡ suc (length xs)
      by None p q e more = cc e
      by (Some z) None q e more = cc e
      by (Some z) (Some zs) q e more = let same = more zs q in cc (e, same)

fields-push : (fs : Fields) (f : List ℕ)
    → fields_text default_writer fs ++ 44 ∷ field_text default_writer f ≡ fields_text default_writer (fs ++ f ∷ [])
unfolding fields_text
fields-push [] f = ap (λ (u : List ℕ). 44 ∷ u) (sym (append-nil (field_text default_writer f)))
fields-push (g ∷ fs) f =
    ap (λ (u : List ℕ). 44 ∷ u) (append_assoc (field_text default_writer g) (fields_text default_writer fs) _
    ∙ ap (λ (u : List ℕ). field_text default_writer g ++ u) (fields-push fs f))

-- one more field after those that are written
pub body-push : (fs : Fields) (f : List ℕ)
    → row_body default_writer fs ++ (next_sep default_writer (length fs) ++ field_text default_writer f)
    ≡ row_body default_writer (fs ++ f ∷ [])
unfolding fields_text
body-push [] f = sym (append-nil (field_text default_writer f))
body-push (g ∷ fs) f =
    let later : (suc (length fs) == 0) ≡ false = ne_eqb (suc (length fs)) 0 (λ e. omega (arith, e)) in
    rw later (append_assoc (field_text default_writer g) (fields_text default_writer fs) _
    ∙ ap (λ (u : List ℕ). field_text default_writer g ++ u) (fields-push fs f))

text-or : List ℕ → Option (List ℕ) → List ℕ
text-or d None = d
text-or d (Some x) = x

pub body-written : (old new : List ℕ) (fs : Fields) (f : List ℕ)
    → ◌≡◌ {A = Option (List ℕ)} (Some old) (Some (row_body default_writer fs))
    → new ≡ old ++ (next_sep default_writer (length fs) ++ field_text default_writer f)
    → ◌≡◌ {A = Option (List ℕ)} (Some new) (Some (row_body default_writer (fs ++ f ∷ [])))
unfolding text-or
body-written old new fs f e g =
    let same : old ≡ row_body default_writer fs = ap (text-or old) e in
    ap Some (g ∙ ap (λ u. u ++ (next_sep default_writer (length fs) ++ field_text default_writer f)) same
    ∙ body-push fs f)

-- a record's key of several fields, or of none
pub key-many : (r : Fields) (is : List ℕ) (part : Part) (k : Option (List ℕ)) → (length is ≡ 1 → ⊥)
    → k ≡ option_map (λ fs. row_body default_writer (with_part part fs)) (fields_at r is)
    → k ≡ option_map (λ fs. key_of (with_part part fs)) (fields_at r is)
unfolding with_part
key-many r is part k n e = e ∙ by (fields_at r is) refl
  where
    by : (o : Option Fields) → fields_at r is ≡ o
        → option_map (λ fs. row_body default_writer (with_part part fs)) o ≡ option_map (λ fs. key_of (with_part part fs)) o
    by None e = refl
    by (Some []) e = refl
    by (Some (f ∷ [])) e = absurd (n (sym (every-length (field_at r) is (f ∷ []) e)))
    by (Some (f ∷ g ∷ [])) e = refl
    by (Some (f ∷ g ∷ h ∷ fs)) e = refl

-- a record's key of one field
pub key-one : (r : Fields) (is : List ℕ) (part : Part) (k : Option (List ℕ)) → length is ≡ 1
    → k ≡ field_at r (get_or is 0 0)
    → option_map (part_of part) k ≡ option_map (λ fs. key_of (with_part part fs)) (fields_at r is)
unfolding every with_part
key-one r [] part k one e = absurd (omega (arith, one))
key-one r (j ∷ []) part None one e = rw (← e) refl
key-one r (j ∷ []) part (Some k) one e = rw (← e) refl
key-one r (j ∷ l ∷ is) part k one e = absurd (omega (arith, one))

-- ---- the columns of a header
-- a field that is there stands first in what begins with it
pub field-drop : (r : Fields) (i : ℕ) (f : List ℕ) → Some f ≡ field_at r i → drop i r ≡ f ∷ drop (i + 1) r
unfolding field_at
field-drop [] i f e = cc e
field-drop (g ∷ r) zero f e = cc e
field-drop (g ∷ r) (suc i) f e =
    let next : suc (i + 1) ≡ suc i + 1 = omega arith in rw (← next) (field-drop r i f e)

pub field-there : (r : Fields) (i : ℕ) → i < length r → None ≡ field_at r i → ⊥
unfolding field_at
field-there [] i l e = absurd (omega (arith, l))
field-there (g ∷ r) zero l e = cc e
field-there (g ∷ r) (suc i) l e = field-there r i (omega (arith, l)) e

-- the first of these fields is like the name, or one after it
pub named-here : (name : List ℕ) (i : ℕ) (r : Fields) (f : List ℕ) → Some f ≡ field_at r i → bytes_eq f name ≡ true
    → named_from name i (drop i r) ≡ Some i
named-here name i r f e same = rw (field-drop r i f e, same) refl

pub named-later : (name : List ℕ) (i : ℕ) (r : Fields) (f : List ℕ) → Some f ≡ field_at r i → bytes_eq f name ≡ false
    → named_from name i (drop i r) ≡ named_from name (i + 1) (drop (i + 1) r)
named-later name i r f e other = rw (field-drop r i f e, other) refl
