use Rattle.std.proofs.Common.{◌∙◌, refl}
use Rattle.std.proofs.lemmas.Simd.{splat_is_map}
use Rattle.hh_counters.proofs.counts.Counts.new.Goals as goal

-- no items weigh nothing
pub returns : goal.returns
returns c =
    let zeros = c.in_ok-weights.ensures.items_if_clones_equal (λ y e. e) in
    let weights = rw c.len.ensures.len at zeros ∙ splat_is_map _ _ 0 refl in
    λ i. record { keys = c.args.candidates.now; weights = weights i; total = 0 }
