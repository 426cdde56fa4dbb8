-- The members of an object, by names and fields that are borrowed.
use Rattle.std.proofs.Common.{◌≡◌, ◌++◌, List, ℕ, [], ◌∷◌, map, Bor, refl, ap}
use Rattle.std.specs.List.{flat_map, zip}
use Rattle.hh_rows.specs.Json.{next_member}

-- the member of a name and a field
abbrev pub member_at : Bor (List ℕ) × Bor (List ℕ) → List ℕ
member_at p = next_member (p.0.now, p.1.now)

pub members_at : (names fields : List (Bor (List ℕ)))
    → flat_map member_at (zip names fields)
    ≡ flat_map next_member (zip (map (λ name. name.now) names) (map (λ field. field.now) fields))
members_at [] fields = refl
members_at (name ∷ names) [] = refl
members_at (name ∷ names) (field ∷ fields) = ap (λ rest. member_at (name, field) ++ rest) (members_at names fields)
