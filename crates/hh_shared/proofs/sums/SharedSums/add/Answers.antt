use Rattle.std.proofs.Common.{◌≢◌, ◌<◌, [], length, sym, ap, ◌∙◌, arith}
use Rattle.hh_shared.proofs.Steps.{add_step}
use Rattle.hh_shared.proofs.sums.SharedSums.add.Goals as goal

pub fetch_add-requires : goal.fetch_add-requires
fetch_add-requires c =
    let sums = ap (λ h. h.sums) c.seat.view_is ∙ (c.requires.seat ∙ sym c.self.view_is) in
    let laid = c.self.invariant in
    let counts = (λ i. ((sums i).claims, (sums i).cells)) ∙ sym laid.counts in
    let first = ap (λ k. k.0) laid.counts in
    let cells = ap (λ k. k.1) laid.counts in
    let cells_now = ap (λ s. s.cells) c.self.view_is in
    let some_claim : c.seat.inside.seat.me.0.claims ≢ [] =
    λ none.
    let mine = ap (λ h. length h.claims) c.seat.view_is in
    absurd (omega (arith, mine, ap length none, c.requires.holds_a_claim)) in
    let inside : c.args.cell < c.self.inside.table.shared.key.1 = omega (arith, c.requires.cell) in
    (ap (λ s. s.table) sums, omega (arith, laid.words), add_step _ _ _ _ _ _ _ (sym first) counts some_claim inside)
