use Rattle.std.proofs.Common.{sym, subst, Some}
use Rattle.std.specs.List.{IsDistinct}
use Rattle.std.specs.Cmp.{eq_by_cmp_equiv}
use Rattle.indexmap.specs.IndexMap.{Updates, with_value_at}
use Rattle.indexmap.proofs.CallerLemmas.{keys-with_value_at, updates-with_value_at}
use Rattle.hh_stream.specs.Weights.{Bytes, same_key}
use Rattle.hh_summaries.proofs.Weights.{key_total}
use Rattle.hh_counters.proofs.Linked.{stored_key}
use Rattle.hh_counters.proofs.bucket_saving.set_counter.Goals as goal

pub returns-clause-set : goal.returns-clause-set
returns-clause-set c =
    let index = c.args.index.now in
    let pair = c.pair_mut-counter in
    subst (λ (k : Bytes). Updates same_key index (with_value_at index c.args.place c.args.to) k (Some c.args.to))
    (stored_key index.entries c.args.key.now c.args.place pair.result.0.now pair.result.1.now c.requires.place
    pair.ensures.value)
    (updates-with_value_at index c.args.place c.args.to (eq_by_cmp_equiv key_total) pair.ensures.unique _ _
    pair.ensures.value)

pub returns-clause-distinct : goal.returns-clause-distinct
returns-clause-distinct c =
    λ unique. subst (IsDistinct same_key) (sym (keys-with_value_at c.args.index.now c.args.place c.args.to)) unique
