use Rattle.std.proofs.Common.{◌++◌, ◌∷◌, ◌∙◌, ℕ, List, [], length, map, is_lt, sym, ap, arith, rules}
use Rattle.std.specs.Ordering.{nat_cmp}
use Rattle.std.proofs.lemmas.Cmp.{nat_cmp_total}
use Rattle.std.proofs.lemmas.Fn.{always_returns_same}
use Rattle.std.proofs.lemmas.List.{append_assoc, append-nil, nil_from_length}
use Rattle.std.proofs.lemmas.List.MinMax.{ranks_by}
use Rattle.hh_summaries.specs.Counters.{SummaryView, sketch_of}
use Rattle.hh_workers.specs.Pieces.{piece_of}
use Rattle.hh_pool.proofs.Closed.{by_number}
use Rattle.hh_pool.proofs.Ordered.{ordered}
use Rattle.hh_pool.proofs.first.FirstPass.in_order.Goals as goal

-- the summaries of numbered ones
abbrev alone : List (ℕ × SummaryView) → List SummaryView
alone found = map (λ (it : ℕ × SummaryView). it.1) found

pub loop-summary-init : goal.loop-summary-init
loop-summary-init g c = ap (λ taken. taken ++ alone c.into_iter-summary-iterator.result.rest.items)
    (sym c.new-summaries.ensures.items)

pub loop-summary-preserved : goal.loop-summary-preserved
loop-summary-preserved g c =
    let taken = c.loop-summary.summaries.items in
    let left = c.next.new.self.rest.items in
    c.loop-summary.invariant ∙ (ap (λ found. taken ++ alone found) c.in-Some.ensures.steps.0
    ∙ (sym (append_assoc taken (c.in-Some.summary ∷ []) (alone left))
    ∙ ap (λ (more : List SummaryView). more ++ alone left) (sym c.in_ok-push.ensures.items)))

pub returns : goal.returns
returns g c =
    let k = c.args.self.now.options.now.k in
    let lists = c.args.self.now.pieces.now in
    let ours = c.requires in
    let none = nil_from_length c.loop-summary.summary-iterator.rest.items
    (omega (arith, c.in-None.ensures.steps.0, c.loop-summary.summary-iterator.rest.ok)) in
    let sorted = c.sort_unstable_by.ensures.sorted (λ x y. is_lt (nat_cmp x.0 y.0))
    (ranks_by nat_cmp_total (λ (it : ℕ × SummaryView). it.0)) (always_returns_same _ _ _ (λ a r g k. search rules)) in
    let taken = c.loop-summary.summaries.items in
    sym (c.loop-summary.invariant ∙ (ap (λ found. taken ++ alone found) none ∙ append-nil taken))
    ∙ (ap alone c.into_iter-summary-iterator.ensures.into_iter_gives.0
    ∙ (ordered (λ i. sketch_of k (piece_of lists i)) (length lists) c.args.found.items _ ours.theirs ours.distinct ours.all
    c.sort_unstable_by.ensures.permutation sorted ∙ by_number k lists))
