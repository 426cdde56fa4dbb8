use Rattle.std.proofs.Common.{◌+◌, ◌*◌, ◌≤◌, sym, ap, ◌∙◌, subst, arith}
use Rattle.std.proofs.lemmas.Bool.Decides.{nat_tests}
use Rattle.hh_summaries.specs.Counters.{Fits, IsCounters, IsHonest, SummaryView, max_k}
use Rattle.hh_summaries.proofs.Weights.{counters-tally}
use Rattle.hh_tally.specs.Tallies.{AreBounds, TallyView, pruned, view_of}
use Rattle.hh_tally.proofs.Reporting.{all_above, cut_above, pruned_fits, pruned_honest}
use Rattle.hh_tally.proofs.tally.Tally.into_summary.Goals as goal

pub cut-requires : goal.cut-requires
cut-requires c =
    let es = c.self.inside.index.entries in
    subst IsCounters (sym (c.in_ok-entries.ensures.entries ∙ all_above es c.self.invariant.0.positive))
    (counters-tally es c.self.invariant.0.positive)

pub from_entries-requires : goal.from_entries-requires
from_entries-requires c =
    let t = c.self.inside in
    let es = t.index.entries in
    let left = cut_above es _ _ c.args.k c.self.invariant.0.positive c.in_ok-entries.ensures.entries c.in_ok-cut.ensures.lowered in
    let some : 1 ≤ c.args.k = grind (arith, nat_tests, c.requires) in
    let most : c.args.k ≤ max_k = grind (arith, nat_tests, c.requires) in
    subst (Fits c.args.k t.total) (sym left)
    (pruned_fits es c.args.k t.total some most c.self.invariant.0.bounded_total (omega (arith, c.self.invariant.0.loss)))

pub returns-clause-summary : goal.returns-clause-summary
returns-clause-summary c =
    let t = c.self.inside in
    let es = t.index.entries in
    let left = cut_above es _ _ c.args.k c.self.invariant.0.positive c.in_ok-entries.ensures.entries c.in_ok-cut.ensures.lowered in
    c.from_entries.ensures
    ∙ (λ i. record { k = c.args.k; total = t.total; counters = left i })
    ∙ ap (pruned c.args.k) c.self.view_is

pub returns-clause-honest : goal.returns-clause-honest
returns-clause-honest c = λ room xs bounds.
    let t = c.self.inside in
    let es = t.index.entries in
    let k = c.args.k in
    let left = cut_above es _ _ k c.self.invariant.0.positive c.in_ok-entries.ensures.entries c.in_ok-cut.ensures.lowered in
    let inside : TallyView = view_of t.room t.total t.lost t.sure.items es in
    let theirs = subst (λ (v : TallyView). AreBounds v xs) (sym c.self.view_is) bounds in
    let enough = subst (λ (v : TallyView). 2 * (k + 1) ≤ v.room.few) (sym c.self.view_is) room in
    let honest = pruned_honest inside xs k theirs c.self.invariant.0.loss enough in
    subst (λ (s : SummaryView). IsHonest s.counters s.total xs s.k)
    (sym (c.from_entries.ensures ∙ (λ i. record { k = k; total = t.total; counters = left i }))) honest
