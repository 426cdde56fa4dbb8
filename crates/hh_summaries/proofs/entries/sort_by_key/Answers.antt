use Rattle.std.proofs.Common.{is_lt, rules, sym}
use Rattle.std.proofs.lemmas.Fn.{always_returns_same}
use Rattle.std.proofs.lemmas.List.Sorted.{length_permutation, ranks_by}
use Rattle.hh_stream.specs.Weights.{Entry, key_cmp}
use Rattle.hh_summaries.proofs.Reports.{counters_from_sort}
use Rattle.hh_summaries.proofs.Weights.{counters-tally, key_total, weight_of-tally}
use Rattle.hh_summaries.proofs.entries.sort_by_key.Goals as goal

pub returns-clause-sorted : goal.returns-clause-sorted
returns-clause-sorted c =
    let es = c.args.entries.now.items in
    let sorted = c.sort_unstable_by.ensures.sorted (λ x y. is_lt (key_cmp x.0 y.0))
    (ranks_by key_total (λ (e : Entry). e.0)) (always_returns_same _ _ _ (λ a r f k. search rules)) in
    counters_from_sort es _ _ c.requires.distinct c.requires.positive c.sort_unstable_by.ensures.permutation sorted
    (counters-tally es c.requires.positive) (λ q. sym (weight_of-tally q es))

pub returns-clause-count : goal.returns-clause-count
returns-clause-count c = length_permutation _ _ c.sort_unstable_by.ensures.permutation
