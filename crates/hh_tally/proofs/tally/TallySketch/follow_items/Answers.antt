use Rattle.std.proofs.Common.{◌∷◌, []}
use Rattle.hh_tally.proofs.tally.TallySketch.follow_items.Goals as goal

pub returns-clause-more : goal.returns-clause-more
returns-clause-more c s t xs e p = (p.0, c.tallies_bound_weights.ensures.follow.1 t xs (e ∷ []) p.1)
