-- The last member of a name.
use Rattle.std.proofs.Common.{◌≡◌, ℕ, List, Bool, true, false, Option, None, Some, refl}
use Rattle.std.specs.Str.{bytes_eq}
use Rattle.std.proofs.lemmas.Slice.Eq.{bytes_eq-Decides}
use Rattle.json.specs.Find.{get_member, later_or}
use Rattle.json.specs.Json.{Json, Members, member}

-- names that differ
differ : (a b : List ℕ) → (a ≡ b → ⊥) → bytes_eq a b ≡ false
differ a b other = by (bytes_eq a b) refl
  where
    by : (r : Bool) → bytes_eq a b ≡ r → bytes_eq a b ≡ false
    by true e = absurd (other ((bytes_eq-Decides a b).0 e))
    by false e = e

pub nothing-earlier : (o : Option Json) → o ≡ later_or o None
nothing-earlier None = refl
nothing-earlier (Some j) = refl

-- a member of that name takes the place of an earlier one
pub member-here : (name k : List ℕ) (j : Json) (rest : Members) (earlier : Option Json) → k ≡ name
    → later_or (get_member name (member k j rest)) earlier ≡ later_or (get_member name rest) (Some j)
member-here name k j rest earlier same = rw ((bytes_eq-Decides k name).1 same) (by (get_member name rest))
  where
    by : (o : Option Json) → later_or (later_or o (Some j)) earlier ≡ later_or o (Some j)
    by None = refl
    by (Some i) = refl

-- one of another name doesn't
pub member-other : (name k : List ℕ) (j : Json) (rest : Members) (earlier : Option Json) → (k ≡ name → ⊥)
    → later_or (get_member name (member k j rest)) earlier ≡ later_or (get_member name rest) earlier
member-other name k j rest earlier other = rw (differ k name other) (by (get_member name rest))
  where
    by : (o : Option Json) → later_or (later_or o None) earlier ≡ later_or o earlier
    by None = refl
    by (Some i) = refl
