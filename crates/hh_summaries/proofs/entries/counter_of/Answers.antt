use Rattle.hh_summaries.proofs.Places.{weight_at, weight_absent}
use Rattle.hh_summaries.proofs.entries.counter_of.Goals as goal

pub returns-in-Ok : goal.returns-in-Ok
returns-in-Ok c =
    let at = c.in-Ok.ensures.found in
    weight_at c.args.entries.now c.in-Ok.place c.index-entries-place.result c.args.key.now c.requires at.0 (at.1 _)

pub returns-in-Err : goal.returns-in-Err
returns-in-Err c =
    let gap = c.in-Err.ensures.absent in
    weight_absent c.args.entries.now c.in-Err.field-0 c.args.key.now gap.1 gap.2
