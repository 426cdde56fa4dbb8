use Rattle.std.proofs.Common.{length, true≢false, sym, ap, arith}
use Rattle.hh_tally.proofs.Raising.{bytes_more}
use Rattle.hh_tally.proofs.lowering.key_bytes.Goals as goal
use Rattle.hh_tally.proofs.lowering.key_bytes.Goals.{in-Some, in_default}

pub loop-i-preserved : goal.loop-i-preserved
loop-i-preserved c =
    let es = c.args.index.now.entries in
    let i = c.loop-i.i in
    elim c.match-get_index.branch [
      | in-Some w ↦
          let more = bytes_more es i (w.in-Some.key.now, w.in-Some.field-0-1.now) w.in-Some.ensures.entry in
          let len = ap length w.bytes.ensures.bytes in (
            omega (arith, w.bytes-is, c.loop-i.invariant.0, more, len),
            omega (arith, w.bytes-is, c.loop-i.invariant.1, w.bytes.ensures.key.few),
          )
      | in_default w ↦ absurd (true≢false (sym (w.in_default.ensures.found.1 (omega (arith, c.loop-i-test.true, c.len-i-end.ensures.len)))))
    ]
