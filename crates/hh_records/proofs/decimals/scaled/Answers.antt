use Rattle.std.proofs.Common.{◌*◌, ◌∙◌, ap, min}
use Rattle.hh_records.proofs.DecimalFacts.{cut-more}
use Rattle.hh_records.proofs.decimals.scaled.Goals as goal

pub loop-place-preserved : goal.loop-place-preserved
loop-place-preserved c =
    c.saturating_mul-units.ensures ∙ ap (λ n. min (n * 10) 18446744073709551615) c.loop-place.invariant
    ∙ cut-more c.args.number c.loop-place._place 18446744073709551615
