use Rattle.std.proofs.Common.{◌∙◌, ap, is_lt, rules, IsSortedBy}
use Rattle.std.proofs.lemmas.Fn.{always_returns_same}
use Rattle.std.proofs.lemmas.List.Sorted.{ranks_by}
use Rattle.hh_stream.specs.Weights.{Entry}
use Rattle.hh_summaries.specs.Report.{by_rank, rank_cmp}
use Rattle.hh_summaries.proofs.Reports.{rank_total, ranked_from_sort}
use Rattle.hh_changes.proofs.ListFacts.{ranked_from}
use Rattle.hh_changes.proofs.changed.changes.Goals as goal

-- what was listed was sorted
sorted : (c : goal.After-sort_unstable_by) → IsSortedBy (λ x y. is_lt (rank_cmp x y)) c.sort_unstable_by.new.self.items
sorted c = c.sort_unstable_by.ensures.sorted (λ x y. is_lt (rank_cmp x y)) (ranks_by rank_total (λ (e : Entry). e))
    (always_returns_same _ _ _ (λ a r f k. search rules))

pub returns-clause-changes : goal.returns-clause-changes
returns-clause-changes c =
    ranked_from_sort c.push_changes.new.changes.items c.sort_unstable_by.new.self.items c.in_ok-push_changes.ensures.rising
    c.sort_unstable_by.ensures.permutation (sorted c) ∙ ap by_rank c.in_ok-push_changes.ensures.listed

pub returns-clause-ranked : goal.returns-clause-ranked
returns-clause-ranked c =
    ranked_from c.push_changes.new.changes.items c.sort_unstable_by.new.self.items c.in_ok-push_changes.ensures.rising
    c.sort_unstable_by.ensures.permutation (sorted c)
