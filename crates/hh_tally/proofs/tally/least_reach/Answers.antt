use Rattle.std.proofs.Common.{◌-◌, ◌*◌, ◌/◌, ◌∙◌, ap, arith, nat_lt}
use Rattle.hh_tally.proofs.Reporting.{reach_test}
use Rattle.hh_tally.proofs.tally.least_reach.Goals as goal

pub returns : goal.returns
returns c = λ n positive.
    ap (λ m. nat_lt m n) (c.saturating_sub.ensures
    ∙ (λ i. c.from.ensures i * c.from-2.ensures i / c.from-3.ensures i - c.args.lost))
    ∙ reach_test (c.args.p * c.args.total) c.args.q c.args.lost n
    (omega (arith, c.requires.share.0, c.requires.share.1)) positive
