use Rattle.std.proofs.Common.{length, length-append, sym, ap, ◌∙◌, arith}
use Rattle.hh_shared.specs.Numbers.{times}
use Rattle.hh_shared.proofs.Steps.{join_step, look_step}
use Rattle.hh_shared.proofs.NumberFacts.{distinct-le, times-append}
use Rattle.hh_shared.proofs.sums.SharedSums.join.Goals as goal

pub join_seat-requires : goal.join_seat-requires
join_seat-requires c =
    let sums = ap (λ h. h.sums) c.seat.view_is ∙ (c.requires.seat ∙ sym c.self.view_is) in
    let theirs = ap (λ h. h.sums) c.other.view_is ∙ (c.requires.other ∙ sym c.self.view_is) in
    let laid = c.self.invariant in
    let mine = ap (λ s. s.table) sums in
    let other = ap (λ s. s.table) theirs in
    (mine, other, c.other.invariant.no_slot, omega (arith, laid.words, laid.some_claim), join_step _ _ _ _ _)

pub load-requires : goal.load-requires
load-requires c =
    let sums = ap (λ h. h.sums) c.seat.view_is ∙ (c.requires.seat ∙ sym c.self.view_is) in
    let laid = c.self.invariant in
    let joined = c.join_seat.ensures in
    let counts = (λ i. ((sums i).claims, (sums i).cells)) ∙ sym laid.counts in
    let look = look_step _ _ _ _ (ap (λ m. m.0.counts) joined.2 ∙ counts) in
    (joined.0 ∙ ap (λ s. s.table) sums, omega (arith, laid.words, laid.some_claim), look)

pub overflow_add-seat : goal.overflow_add-seat
overflow_add-seat c =
    let sums = ap (λ h. h.sums) c.seat.view_is ∙ (c.requires.seat ∙ sym c.self.view_is) in
    let looked = c.load.ensures.2.0 in
    let is = looked.0 ∙ ap (λ m. m.0) c.join_seat.ensures.2 in
    let long = ap (λ v. length v.claims) is in
    let counts = ap (λ v. v.counts.0) is ∙ ap (λ s. s.claims) sums in
    let both = length-append c.seat.inside.seat.me.0.claims c.other.inside.seat.me.0.claims in
    let few = c.self.invariant.few_claims in
    omega (arith, distinct-le _ _ looked.1, few, c.seat.invariant.counted, c.other.invariant.counted, both)

pub returns-clause-disjoint : goal.returns-clause-disjoint
returns-clause-disjoint c j some =
    let looked = c.load.ensures.2.0 in
    let is = looked.0 ∙ ap (λ m. m.0) c.join_seat.ensures.2 in
    let both = ap (λ v. times j v.claims) is in
    let mine = ap (λ h. times j h.claims) c.seat.view_is in
    let theirs = ap (λ h. times j h.claims) c.other.view_is in
    omega (arith, looked.1.once j, times-append j c.seat.inside.seat.me.0.claims c.other.inside.seat.me.0.claims)
