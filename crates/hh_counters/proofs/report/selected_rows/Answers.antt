use Rattle.std.proofs.Common.{List, Bool, is_lt, subst, rules, zip, filter, IsPermutation}
use Rattle.std.proofs.lemmas.Bool.{false≢true}
use Rattle.std.proofs.lemmas.Fn.{always_returns_same}
use Rattle.std.proofs.lemmas.List.Sorted.{ranks_by}
use Rattle.hh_stream.specs.Weights.{Entry}
use Rattle.hh_summaries.specs.Report.{rank_cmp, is_heavy}
use Rattle.hh_summaries.proofs.Reports.{rank_total, ranked_from_sort, rising-zip, by_rank_nothing}
use Rattle.hh_counters.proofs.report.selected_rows.Goals as goal

pub returns-clause-rows : goal.returns-clause-rows
returns-clause-rows c =
    let keys = c.args.keys.now in
    let numbers = c.args.numbers.now in
    let heavy : Entry → Bool = is_heavy c.args.p c.args.q c.args.total in
    let rows = c.sort_unstable_by.new.self.items in
    let sorted = c.sort_unstable_by.ensures.sorted (λ x y. is_lt (rank_cmp x y))
    (ranks_by rank_total (λ (e : Entry). e)) (always_returns_same _ _ _ (λ a r f k. search rules)) in
    ranked_from_sort (filter heavy (zip keys numbers)) rows
    (rising-zip heavy keys numbers c.requires.lengths c.requires.rising)
    (subst (λ (l : List Entry). IsPermutation l rows) c.in_ok-rows.ensures.rows c.sort_unstable_by.ensures.permutation)
    sorted

pub returns-in_err-rows-clause-none : goal.returns-in_err-rows-clause-none
returns-in_err-rows-clause-none c = λ none. absurd (false≢true (c.in_err-rows.ensures.none (by_rank_nothing _ none)))
