use Rattle.std.proofs.lemmas.List.{take_rest}
use Rattle.hh_rows.proofs.TakeFacts.{take-failed, take-step, take-stopped}
use Rattle.hh_rows.proofs.sink.put.Goals as goal

pub loop-written-preserved : goal.loop-written-preserved
loop-written-preserved g c =
    let inv = c.loop-written.invariant in
    let e = c.take.ensures in
    take-step _ _ _ c.args.bytes.now _ c.loop-written.written c.unwrap_or-count.result c.take.result _ _
    (take_rest c.args.bytes.now c.loop-written.written) inv.0 inv.2 e.count e.takes e.fails inv.1
    c.unwrap_or-count.ensures c.if-count-eq0.false

pub returns-then-count-eq0-clause-part : goal.returns-then-count-eq0-clause-part
returns-then-count-eq0-clause-part g c =
    let inv = c.loop-written.invariant in (
      inv.0,
      take-stopped _ _ _ c.args.bytes.now _ c.loop-written.written c.unwrap_or-count.result c.take.result inv.2
          c.take.ensures.takes c.unwrap_or-count.ensures c.if-count-eq0.true,
    )

pub returns-then-count-eq0-clause-failed : goal.returns-then-count-eq0-clause-failed
returns-then-count-eq0-clause-failed g c =
    take-failed c.args.bytes.now _ c.loop-written.written c.unwrap_or-count.result c.take.result _ _
    (take_rest c.args.bytes.now c.loop-written.written) c.loop-written-test.true c.take.ensures.fails
    c.loop-written.invariant.1 c.unwrap_or-count.ensures c.if-count-eq0.true
