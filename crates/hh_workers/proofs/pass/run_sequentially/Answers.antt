use Rattle.std.proofs.Common.{◌++◌, ◌∷◌, [], arith, rules, IsErrOf}
use Rattle.hh_stream.specs.declared.taking.PieceFault.TheVariants as fault
use Rattle.hh_workers.proofs.ClaimFacts.{distinct_below, each_more}
use Rattle.hh_workers.proofs.pass.run_sequentially.Goals as goal

pub returns-in_err-made-2-clause-refused : goal.returns-in_err-made-2-clause-refused
returns-in_err-made-2-clause-refused g c is =
    let (numbers, each, made) = c.loop-piece.invariant in
    let more = each_more c.loop-piece.piece numbers each in
    let refused : IsErrOf c.take.result fault.Refused = search rules in
    c.take.ensures.refused refused numbers (distinct_below _ _ _ (omega arith) more.distinct) made

pub loop-piece-preserved : goal.loop-piece-preserved
loop-piece-preserved g c =
    let (numbers, each, made) = c.loop-piece.invariant in
    let more = each_more c.loop-piece.piece numbers each in (
      numbers ++ c.loop-piece.piece ∷ [],
      more,
      c.in_ok-made-2.ensures.more numbers (distinct_below _ _ _ (omega arith) more.distinct) made,
    )
