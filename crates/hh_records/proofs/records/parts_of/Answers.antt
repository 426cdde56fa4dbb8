use Rattle.hh_records.proofs.PartFacts.{parts-some, parts-none}
use Rattle.hh_records.proofs.records.parts_of.Goals as goal

pub returns : goal.returns
returns c =
    parts-some _ _ _ (rw c.len.ensures at c.if-len-eq0.false) (rw c.len-else-len-eq0.ensures at c.if-len-gt2.false)
    c.in_ok-key.ensures.value
    c.get-2.ensures.value

pub returns-in_err-key : goal.returns-in_err-key
returns-in_err-key c =
    rw c.from_residual.ensures (parts-none _ (rw c.len.ensures at c.if-len-eq0.false) c.in_err-key.ensures.value)
