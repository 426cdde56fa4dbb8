use Rattle.std.proofs.Common.{◌≡◌, ◌+◌, ◌∙◌, sym, ap, arith}
use Rattle.std.specs.Prelude.{unwrap_or}
use Rattle.hh_stream.specs.Weights.{weight_of}
use Rattle.hh_summaries.proofs.Weights.{weight_of-lookup}
use Rattle.hh_tally.specs.Tallies.{TallyView}
use Rattle.hh_tally.proofs.Keeping.{lost_and_left}
use Rattle.hh_tally.proofs.Raising.{found-le-total}
use Rattle.hh_tally.proofs.tally.Tally.sure_weight.Goals as goal

pub overflow_add-result : goal.overflow_add-result
overflow_add-result c =
    let es = c.self.inside.index.entries in
    omega (
      arith,
      found-le-total es c.args.key.now c.in-Some.counter.now (sym c.in-Some.ensures.value),
      lost_and_left c.self.invariant.0,
      c.self.invariant.0.bounded_total,
    )

pub returns-in-Some-clause-weight : goal.returns-in-Some-clause-weight
returns-in-Some-clause-weight c = λ xs bounds.
    let x = c.args.key.now in
    let es = c.self.inside.index.entries in
    let counter : weight_of x es ≡ c.in-Some.counter.now =
    weight_of-lookup x es c.self.invariant.0.distinct ∙ ap (λ o. unwrap_or o 0) (sym c.in-Some.ensures.value) in
    omega (
      arith,
      bounds.sure x (sym c.is_sure.ensures ∙ c.if-not-is_sure.false),
      counter,
      ap (λ (v : TallyView). weight_of x v.counters + v.lost) c.self.view_is,
    )

pub returns-in-None-clause-weight : goal.returns-in-None-clause-weight
returns-in-None-clause-weight c = λ xs bounds.
    let x = c.args.key.now in
    let es = c.self.inside.index.entries in
    let none : weight_of x es ≡ 0 =
    weight_of-lookup x es c.self.invariant.0.distinct ∙ ap (λ o. unwrap_or o 0) (sym c.in-None.ensures.value) in
    omega (
      arith,
      bounds.sure x (sym c.is_sure.ensures ∙ c.if-not-is_sure.false),
      none,
      ap (λ (v : TallyView). weight_of x v.counters + v.lost) c.self.view_is,
    )
