use Rattle.std.proofs.Common.{◌∙◌}
use Rattle.hh_stream.specs.Weights.{Entry}
use Rattle.hh_pool.proofs.Closed.{whole_weights}
use Rattle.hh_workers.proofs.PieceSums.{sum_by-all_items}
use Rattle.hh_pool.proofs.second.SecondPass.sequential.Goals as goal

pub returns-clause-weights : goal.returns-clause-weights
returns-clause-weights g c =
    let (numbers, each, made) = c.in_ok-counts.ensures.made in
    c.into_weights.ensures ∙ (made.weights ∙ whole_weights c.args.self.now.pieces.now c.args.self.now.candidates.now numbers each)

pub returns-clause-total : goal.returns-clause-total
returns-clause-total g c = λ some.
    let (numbers, each, made) = c.in_ok-counts.ensures.made in
    c.total-total.ensures.total ∙ (made.whole some
    ∙ sum_by-all_items (λ (e : Entry). e.1) c.args.self.now.pieces.now numbers each.distinct each.all)
