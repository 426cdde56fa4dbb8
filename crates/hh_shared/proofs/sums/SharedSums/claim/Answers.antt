use Rattle.std.proofs.Common.{◌<◌, [], ◌∷◌, length, length-append, sym, ap, ◌∙◌, arith}
use Rattle.hh_shared.proofs.Steps.{claim_step}
use Rattle.hh_shared.proofs.NumberFacts.{distinct-le}
use Rattle.hh_shared.proofs.sums.SharedSums.claim.Goals as goal

pub fetch_or-found-requires : goal.fetch_or-found-requires
fetch_or-found-requires c =
    let sums = ap (λ h. h.sums) c.seat.view_is ∙ (c.requires.seat ∙ sym c.self.view_is) in
    let laid = c.self.invariant in
    let counts = (λ i. ((sums i).claims, (sums i).cells)) ∙ sym laid.counts in
    let claims = ap (λ k. k.0) laid.counts in
    let claims_now = ap (λ s. s.claims) c.self.view_is in
    let low : c.args.number < c.self.inside.table.shared.key.0 = omega (arith, c.requires.number) in
    (ap (λ s. s.table) sums, omega (arith, laid.words), claim_step _ _ _ _ _ counts low)

pub overflow_add-seat : goal.overflow_add-seat
overflow_add-seat c =
    let sums = ap (λ h. h.sums) c.seat.view_is ∙ (c.requires.seat ∙ sym c.self.view_is) in
    let claimed = c.fetch_or-found.ensures.2.0 in
    let is = claimed.free c.if-found-eq0.true in
    let long = ap (λ v. length v.claims) is in
    let counts = ap (λ v. v.counts.0) is ∙ ap (λ s. s.claims) sums in
    let more = length-append c.seat.inside.seat.me.0.claims (c.args.number ∷ []) in
    omega (arith, distinct-le _ _ claimed.distinct, c.self.invariant.few_claims, c.seat.invariant.counted, more)
