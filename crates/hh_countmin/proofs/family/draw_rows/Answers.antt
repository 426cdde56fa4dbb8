use Rattle.std.proofs.Common.{arith}
use Rattle.hh_countmin.proofs.Drawing.{drawn_more, drawn_all}
use Rattle.hh_countmin.proofs.family.draw_rows.Goals as goal

pub loop-preserved : goal.loop-preserved
loop-preserved c =
    rw c.in_ok-push.ensures.items
    (drawn_more c.loop.rows.items c.draw_row.result c.args.depth c.loop.counter c.loop.generator
    c.draw_row.new.generator _ c.loop-test.true c.draw_row.ensures.row c.draw_row.ensures.after c.loop.invariant)

pub returns : goal.returns
returns c = drawn_all c.loop.rows.items c.args.depth c.loop.counter c.loop.generator _ (omega arith) c.loop.invariant
