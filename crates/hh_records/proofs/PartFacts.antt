-- A record of one or two fields, read field by field.
use Rattle.std.proofs.Common.{◌≡◌, ◌≤◌, ◌∷◌, ℕ, List, [], length, Option, Some, None, arith, refl, ap}
use Rattle.csv.specs.Records.{field_at}
use Rattle.hh_records.specs.Streams.{Fields, parts_of}

-- the key of one or two fields, and the field after it
pub parts-some : (r : Fields) (k : List ℕ) (f : Option (List ℕ)) → (length r ≡ 0 → ⊥) → length r ≤ 2
    → Some k ≡ field_at r 0 → f ≡ field_at r 1 → Some (k, f) ≡ parts_of r
unfolding field_at
parts-some [] k f n m a b = absurd (n refl)
parts-some (x ∷ []) k f n m a b = rw b (ap (λ o. opt o) a)
  where
    opt : Option (List ℕ) → Option (List ℕ × Option (List ℕ))
    opt None = None
    opt (Some x) = Some (x, None)
parts-some (x ∷ y ∷ []) k f n m a b = rw b (ap (λ o. opt o) a)
  where
    opt : Option (List ℕ) → Option (List ℕ × Option (List ℕ))
    opt None = None
    opt (Some x) = Some (x, Some y)
parts-some (x ∷ y ∷ z ∷ rest) k f n m a b = absurd (omega (arith, m))

-- no key is no record
pub parts-none : (r : Fields) → (length r ≡ 0 → ⊥) → None ≡ field_at r 0 → None ≡ parts_of r
unfolding field_at
parts-none [] n a = absurd (n refl)
parts-none (x ∷ rest) n a = cc a
