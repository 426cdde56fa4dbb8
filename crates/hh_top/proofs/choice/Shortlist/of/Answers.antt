use Rattle.std.proofs.Common.{arith}
use Rattle.hh_top.proofs.Chosen.{uncounted_fits}
use Rattle.hh_top.proofs.choice.Shortlist.of.Goals as goal

pub overflow_add-most : goal.overflow_add-most
overflow_add-most c = omega (
  arith,
  uncounted_fits c.args.k c.args.tally c.requires.share c.lost.ensures.loss,
  c.lost.ensures.lost,
  c.in_ok-other.ensures,
  c.total-total.ensures.total,
  c.total-total.ensures.bounded,
)
