-- Equal families are one.
use Rattle.std.proofs.Common.{◌≡◌, ℕ, List, ap, ap₂}
use Rattle.std.proofs.Common.{Decides, refl}
use Rattle.std.proofs.lemmas.Bool.Decides.{Decides-eqb, Decides-and, Decides-like}
use Rattle.std.proofs.lemmas.Slice.Eq.{slice_eq-Decides}
use lib.Pointwise.{pointwise}
use Rattle.hh_countmin.specs.Family.{Coefficients, same_row, same_family}

same_row-Decides : (p q : ℕ × ℕ) → Decides (same_row p q) (p ≡ q)
same_row-Decides p q =
    Decides-like _ (λ e. ap₂ (λ (a b : ℕ). (a, b)) e.0 e.1)
    (λ e. (ap (λ (r : ℕ × ℕ). r.0) e, ap (λ (r : ℕ × ℕ). r.1) e))
    (Decides-and _ _ (Decides-eqb p.0 q.0) (Decides-eqb p.1 q.1))

-- families are the same exactly where they are equal
pub same_family-Decides : (f g : Coefficients) → Decides (same_family f g) (f ≡ g)
same_family-Decides f g =
    Decides-like _ (λ e. ap₂ (λ (z : ℕ) (rows : List (ℕ × ℕ)). record { z = z; rows = rows }) e.0 e.1)
    (λ e. (ap (λ (h : Coefficients). h.z) e, ap (λ (h : Coefficients). h.rows) e))
    (Decides-and _ _ (Decides-eqb f.z g.z) (slice_eq-Decides same_row-Decides f.rows g.rows
    (pointwise same_row f.rows g.rows) refl))
