use Rattle.std.proofs.Common.{[], ap, ◌∙◌, sym}
use Rattle.hh_counters.specs.SpaceSaving.{monitor_of, monitor_with, translation_of}
use Rattle.hh_records.proofs.TakenFacts.{taken_all}
use Rattle.hh_commands.proofs.commands.summarise.summary_by_monitoring.Goals as goal

pub returns-in-Ok-clause-summary : goal.returns-in-Ok-clause-summary
returns-in-Ok-clause-summary g c =
    let k = c.args.k in
    let law = c.summaries_follow_items.ensures.monitors k in
    let t = c.in_ok-monitor.ensures.items in
    let all = taken_all monitor_with (monitor_of k) (λ xs e. (law xs e).1) t
    (c.in_ok-start.ensures ∙ sym (law [] ([], 0)).0) in
    (t.xs, t.reads, c.in-Ok.ensures.translated ∙ ap translation_of all ∙ (law t.xs ([], 0)).2 t.positive)
