use Rattle.std.proofs.Common.{◌≡◌, List, ap, ◌∙◌, length, sym, subst, arith, zip}
use Rattle.std.specs.List.Sorted.{IsStrictlySortedBy}
use Rattle.std.specs.Map.{keys_of, values_of}
use Rattle.std.proofs.lemmas.Map.Entries.{length-values_of}
use Rattle.hh_stream.specs.Weights.{Entry, key_cmp}
use Rattle.hh_summaries.specs.Counters.{tally}
use Rattle.hh_summaries.proofs.Reports.{rising-filter}
use Rattle.hh_summaries.proofs.Weights.{rising-tally}
use Rattle.hh_tally.specs.Tallies.{AreBounds}
use Rattle.hh_top.specs.Top.{ShortlistView, rows_over, top}
use Rattle.hh_top.proofs.Chosen.{exact_top, rows_again, zip_again}
use Rattle.hh_top.proofs.choice.Shortlist.greatest_counters.Goals as goal

pub rows_over-requires-clause-rising : goal.rows_over-requires-clause-rising
rows_over-requires-clause-rising c =
    let es = c.self.inside.tally.counters in
    subst (λ (ds : List Entry). IsStrictlySortedBy key_cmp (keys_of ds)) (sym c.in_ok-entries.ensures.entries)
    (rising-filter _ (tally es) (rising-tally es))

-- the counters are those of the entries
pub rows_over-requires-clause-count : goal.rows_over-requires-clause-count
rows_over-requires-clause-count c =
    ap length (c.deref-2.ensures.value ∙ c.in_ok-counters.ensures ∙ ap (λ (ds : List Entry). values_of ds) c.deref.ensures.value)
    ∙ length-values_of c.in_ok-entries.entries.items

pub returns : goal.returns
returns c = λ xs bounds none.
    let t = c.self.inside.tally in
    let floor = c.saturating_sub-floor.result in
    let es = c.in_ok-entries.entries.items in
    let counters = c.deref-2.ensures.value ∙ c.in_ok-counters.ensures ∙ ap (λ (ds : List Entry). values_of ds) c.deref.ensures.value in
    let rows : c.in_ok-rows.rows.items ≡ rows_over floor (tally t.counters) =
    c.in_ok-rows.ensures
    ∙ ap (rows_over floor) (ap (zip (keys_of es)) counters ∙ zip_again es ∙ c.in_ok-entries.ensures.entries)
    ∙ rows_again floor (tally t.counters) in
    let theirs = subst (λ (v : ShortlistView). AreBounds v.tally xs) (sym c.self.view_is) bounds in
    let nothing = ap (λ (v : ShortlistView). v.tally.lost) c.self.view_is ∙ none in
    exact_top c.self.inside.n floor t xs theirs nothing
    (omega (arith, c.saturating_sub-floor.ensures, c.self.invariant.2)) _ _ rows c.first_of.ensures
    ∙ ap (λ (v : ShortlistView). top v.n xs) c.self.view_is
