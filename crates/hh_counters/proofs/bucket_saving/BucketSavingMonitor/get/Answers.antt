use Rattle.std.proofs.Common.{sym, ap, ◌∙◌}
use Rattle.std.specs.Prelude.{unwrap_or}
use Rattle.std.specs.Map.{lookup}
use Rattle.hh_stream.specs.Weights.{same_key}
use Rattle.hh_counters.proofs.Linked.{weight_of-view}
use Rattle.hh_counters.proofs.bucket_saving.BucketSavingMonitor.get.Goals as goal

pub returns : goal.returns
returns c =
    let es = c.self.inside.index.entries in
    let finds = weight_of-view c.args.key.now es c.self.invariant.bounds.1.distinct in
    rw (← c.self.view_is) (c.unwrap_or.ensures ∙ ap (λ o. unwrap_or o 0) (c.copied.ensures ∙ c.get.ensures.value)
    ∙ ap (λ q. unwrap_or (lookup (same_key q) es) 0) c.bytes.ensures.bytes ∙ sym finds)
