use Rattle.std.proofs.Common.{List, ap, is_lt, rules, subst, ◌++◌, ◌∙◌, IsPermutation}
use Rattle.std.proofs.lemmas.Fn.{always_returns_same}
use Rattle.std.proofs.lemmas.List.Sorted.{ranks_by, sum_by-IsPermutation}
use Rattle.hh_stream.specs.Weights.{Entry}
use Rattle.hh_summaries.specs.Report.{rank_cmp}
use Rattle.hh_summaries.proofs.Reports.{rank_total, ranked_from_sort}
use Rattle.hh_summaries.proofs.entries.ranked.Goals as goal

-- the copies were sorted
permuted : (c : goal.After-sort_unstable_by) → IsPermutation c.args.entries.now c.sort_unstable_by.new.self.items
permuted c =
    let sorted = c.sort_unstable_by.new.self.items in
    let copies = c.in_ok-push_copies.ensures.pushed
    ∙ ap (λ (es : List Entry). es ++ c.args.entries.now) c.new-ranked.ensures.items in
    subst (λ (es : List Entry). IsPermutation es sorted) copies c.sort_unstable_by.ensures.permutation

pub returns-clause-ranked : goal.returns-clause-ranked
returns-clause-ranked c =
    let rows = c.sort_unstable_by.new.self.items in
    let sorted = c.sort_unstable_by.ensures.sorted (λ x y. is_lt (rank_cmp x y))
    (ranks_by rank_total (λ (e : Entry). e)) (always_returns_same _ _ _ (λ a r f k. search rules)) in
    ranked_from_sort c.args.entries.now rows c.requires (permuted c) sorted

pub returns-clause-sum : goal.returns-clause-sum
returns-clause-sum c =
    sum_by-IsPermutation (λ (e : Entry). e.1) c.args.entries.now c.sort_unstable_by.new.self.items (permuted c)
