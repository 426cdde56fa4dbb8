use Rattle.std.proofs.Common.{◌≡◌, ◌∙◌, take, sym, ap, ◌<◌}
use Rattle.hh_stream.specs.Weights.{Entry}
use Rattle.hh_summaries.specs.Counters.{SummaryView}
use Rattle.hh_counters.specs.SpaceSaving.{monitor_of, monitor_with}
use Rattle.hh_counters.proofs.Monitoring.{monitor_more, monitored_all, positive_more}
use Rattle.hh_counters.proofs.monitor.monitored_summary.Goals as goal

pub loop-item-preserved : goal.loop-item-preserved
loop-item-preserved g c =
    let i = c.loop-item.item-index in
    let k = (g.M.Monitor.seen c.args.monitor).k in
    let item : Entry = c.item-item.result in
    let taken : Entry = (c.bytes.result.now, c.weight.result) in
    let same : taken ≡ item = λ j. ((c.bytes.ensures.bytes ∙ c.key.ensures) j, c.weight.ensures.weight j) in
    let before = monitor_of k (take i c.args.items.now) in
    let positive : 0 < item.1 = rw (← c.weight.ensures.weight) c.weight.ensures.positive in (
      c.in_ok-add_within.ensures.added
          ∙ ap (λ (s : SummaryView). monitor_with s taken) c.loop-item.invariant.0
          ∙ ap (monitor_with before) same
          ∙ sym (monitor_more k c.args.items.now i item c.loop-item-test.true c.item-item.is),
      positive_more c.args.items.now i item c.loop-item-test.true c.item-item.is positive c.loop-item.invariant.1,
    )

pub returns-in-Ok : goal.returns-in-Ok
returns-in-Ok g c =
    c.in-Ok.ensures.translated
    ∙ monitored_all (g.M.Monitor.seen c.args.monitor).k c.args.items.now c.loop-item.item-index
    (g.M.Monitor.seen c.loop-item.monitor) c.loop-item.auto.item-index-end c.loop-item-test.false
    c.loop-item.invariant.0 c.loop-item.invariant.1
