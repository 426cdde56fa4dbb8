use Rattle.std.proofs.Common.{arith}
use Rattle.std.proofs.lemmas.Bool.Decides.{nat_tests}
use Rattle.serde_json.specs.Find.{index_of}
use Rattle.hh_json.proofs.paths.index_of.Goals as goal
use Rattle.hh_json.proofs.paths.index_of.Goals.{then-len-part-via-then-len-part, then-len-part-via-else-len-part+then-part-eq48, then-part-gt1, else-part-gt1}

pub returns-in_err-index : goal.returns-in_err-index
unfolding index_of
returns-in_err-index c = rw (← c.scan-numeral.ensures.parts) (grind (arith, nat_tests))

pub returns-then-len-part : goal.returns-then-len-part
unfolding index_of
returns-then-len-part c =
    rw (← c.scan-numeral.ensures.parts)
    (elim c.then-len-part.branch [
      | then-len-part-via-then-len-part w ↦ grind (arith, nat_tests)
      | then-len-part-via-else-len-part+then-part-eq48 w ↦ grind (arith, nat_tests)
    ])

pub returns : goal.returns
unfolding index_of
returns c =
    rw (← c.scan-numeral.ensures.parts)
    (elim c.if-part-gt1.branch [
      | then-part-gt1 w ↦ grind (arith, nat_tests)
      | else-part-gt1 w ↦ grind (arith, nat_tests)
    ])
