use Rattle.std.proofs.Common.{◌++◌, ◌∙◌, ap, subst, sym}
use Rattle.hh_tally.specs.Tallies.{AreBounds, TallyView}
use Rattle.hh_tally.proofs.tally.TallySketch.merge.Goals as goal

pub returns-clause-both : goal.returns-clause-both
returns-clause-both c s xs ys p q =
    let is = c.in_ok-merge.ensures in (
      ap (λ (t : TallyView). t.room) is ∙ p.0,
      subst (λ (t : TallyView). AreBounds t (xs ++ ys)) (sym is)
          (c.tallies_bound_weights.ensures.merge c.args.self c.args.other xs ys p.1 q.1),
    )
