use Rattle.std.proofs.Common.{◌∙◌, ◌++◌, ◌∷◌, [], ap, subst}
use Rattle.hh_shared.specs.Numbers.{IsDistinctBelow}
use Rattle.hh_workers.proofs.ClaimFacts.{one_more_claimed, one_more_met}
use Rattle.hh_workers.proofs.pass.run_worker.Goals as goal

pub loop-piece-preserved-then-not-claim : goal.loop-piece-preserved-then-not-claim
loop-piece-preserved-then-not-claim g c =
    let met = c.if-not-claim.ensures.claimed_or_met in
    let before = c.loop-piece.invariant in
    record {
      sums = ap (λ h. h.sums) met ∙ before.sums;
      so_far = one_more_met _ c.loop-piece.piece c.loop-piece.seat _ met before.so_far;
      made = rw met before.made;
    }

pub loop-piece-preserved : goal.loop-piece-preserved
loop-piece-preserved g c =
    let claimed = c.if-not-claim.ensures.claimed_or_met in
    let before = c.loop-piece.invariant in
    let numbers = c.loop-piece.seat.claims ++ c.loop-piece.piece ∷ [] in
    let distinct = subst (λ n. IsDistinctBelow n c.claim.new.seat.claims) c.requires.fits.claims c.if-not-claim.ensures.distinct in
    let here : IsDistinctBelow (g.P.Pass.pieces c.args.pass.now) numbers = rw claimed at distinct in
    record {
      sums = ap (λ h. h.sums) claimed ∙ before.sums;
      so_far = one_more_claimed _ c.loop-piece.piece c.loop-piece.seat _ claimed distinct before.so_far;
      made = rw claimed (c.in_ok-made-2.ensures.more c.loop-piece.seat.claims here before.made);
    }
