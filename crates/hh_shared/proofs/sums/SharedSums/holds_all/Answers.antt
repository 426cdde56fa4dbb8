use Rattle.std.proofs.Common.{◌≡◌, ℕ, List, sym, ap, ◌∙◌, subst}
use Rattle.std.proofs.lemmas.Bool.Decides.{Decides-eqb}
use Rattle.hh_shared.specs.Numbers.{IsDistinctBelow, HasAllBelow}
use Rattle.hh_shared.proofs.NumberFacts.{distinct-all, all-length}
use Rattle.hh_shared.proofs.sums.SharedSums.holds_all.Goals as goal

pub returns : goal.returns
returns c =
    let sums = ap (λ h. h.sums) c.seat.view_is ∙ (c.requires.seat ∙ sym c.self.view_is) in
    let counts = ap (λ s. s.claims) sums in
    let whole : c.seat.inside.seat.me.0.counts.0 ≡ c.args.self.now.claims = counts
    ∙ ap (λ s. s.claims) c.self.view_is in
    let mine : c.seat.inside.seat.me.0.claims ≡ c.args.seat.now.claims = ap (λ h. h.claims) c.seat.view_is in
    let counted = c.seat.invariant.counted in
    let distinct = c.seat.invariant.distinct in
    record {
      all = (
        (λ t. subst (λ (z : ℕ × List ℕ). HasAllBelow z.0 z.1) (λ i. (whole i, mine i))
            (distinct-all _ _ distinct (sym counted ∙ ((Decides-eqb _ _).0 t ∙ sym counts)))),
        λ all. (Decides-eqb _ _).1 (counted
            ∙ (all-length _ _ distinct (subst (λ (z : ℕ × List ℕ). HasAllBelow z.0 z.1) (λ i. (sym whole i, sym mine i))
            all) ∙ counts)),
      );
      distinct = subst (λ (z : ℕ × List ℕ). IsDistinctBelow z.0 z.1) (λ i. (whole i, mine i)) distinct;
    }
