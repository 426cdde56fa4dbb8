use Rattle.std.proofs.Common.{◌∙◌, ap}
use Rattle.std.specs.Prelude.{◌/◌}
use Rattle.hh_records.proofs.DecimalFacts.{one-fewer}
use Rattle.hh_records.proofs.decimals.without.Goals as goal

pub loop-place-preserved : goal.loop-place-preserved
loop-place-preserved c =
    ap (λ n. n / 10) c.loop-place.invariant ∙ one-fewer c.args.number c.loop-place._place
