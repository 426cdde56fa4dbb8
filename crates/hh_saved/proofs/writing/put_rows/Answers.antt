use Rattle.std.proofs.Common.{arith}
use Rattle.hh_saved.specs.Spelling.{pair_bytes}
use Rattle.hh_saved.proofs.Written.{written_more}
use Rattle.hh_saved.proofs.writing.put_rows.Goals as goal

pub loop-r-preserved : goal.loop-r-preserved
loop-r-preserved c =
    written_more pair_bytes _ _ _ c.args.family.now.rows c.loop-r.r c.row.result _
    (omega (arith, c.loop-r-test.true, c.depth-r-end.ensures.depth)) c.row.ensures.row c.loop-r.invariant
    c.in_ok-put_row.ensures
