-- `==` of two families is an equivalence.
use Rattle.std.specs.Cmp.{IsEquivalence}
use Rattle.std.proofs.lemmas.Cmp.{nat_eq_equiv, on_equiv, and_equiv, lists_equiv}
use Rattle.hh_countmin.specs.Family.{same_row, same_family}

same_row_equiv : IsEquivalence same_row
same_row_equiv = and_equiv (on_equiv (λ p. p.0) nat_eq_equiv) (on_equiv (λ p. p.1) nat_eq_equiv)

pub same_family_equiv : IsEquivalence same_family
same_family_equiv = and_equiv (on_equiv (λ f. f.z) nat_eq_equiv) (on_equiv (λ f. f.rows) (lists_equiv same_row_equiv))
