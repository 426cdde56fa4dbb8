use Rattle.std.proofs.Common.{arith, sym, ap, ◌∙◌}
use Rattle.hh_shared.proofs.Steps.{split_step}
use Rattle.hh_shared.proofs.sums.SharedSums.split.Goals as goal

pub split_seat-half-requires : goal.split_seat-half-requires
split_seat-half-requires c =
    let sums = ap (λ h. h.sums) c.seat.view_is ∙ (c.requires.seat ∙ sym c.self.view_is) in
    let laid = c.self.invariant in
    (ap (λ s. s.table) sums, omega (arith, laid.words, laid.some_claim), split_step _ _ _)
