use Rattle.hh_library.proofs.AccumulatorFacts.{monitor_added, monitor_grows}
use Rattle.hh_library.proofs.accumulator.Form.add_within.Goals as goal

pub returns-in_ok-add_within-in-Monitored-clause-added : goal.returns-in_ok-add_within-in-Monitored-clause-added
returns-in_ok-add_within-in-Monitored-clause-added c =
    monitor_added c.args.self.now c.in-Monitored.field-0 c.in-Monitored.monitor _ (c.args.key.now, c.args.weight)
    c.in-Monitored.is c.requires.grows c.requires.positive c.in_ok-add_within-in-Monitored.ensures.added
    c.summaries_follow_items.ensures.monitors c.summaries_follow_items.ensures.summaries

pub returns-in_ok-add_within-in-Monitored-clause-grows : goal.returns-in_ok-add_within-in-Monitored-clause-grows
returns-in_ok-add_within-in-Monitored-clause-grows c =
    monitor_grows c.args.self.now c.in-Monitored.field-0 c.in-Monitored.monitor _ (c.args.key.now, c.args.weight)
    c.in-Monitored.is c.requires.grows c.requires.positive c.in_ok-add_within-in-Monitored.ensures.added
    c.summaries_follow_items.ensures.monitors c.requires.room
