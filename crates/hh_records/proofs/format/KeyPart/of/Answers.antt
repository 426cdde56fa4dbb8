use Rattle.std.proofs.Common.{◌∙◌, ap}
use Rattle.std.specs.Prelude.{take}
use Rattle.std.proofs.lemmas.List.{take_min}
use Rattle.hh_records.proofs.format.KeyPart.of.Goals as goal

pub returns-in-Some : goal.returns-in-Some
returns-in-Some c =
    let before = rw c.as_slice.ensures.value at c.before-field.ensures in
    rw (c.in-Some.is, c.min.ensures)
    (take_min c.in-Some.most c.before-field.result.now ∙ ap (λ f. take c.in-Some.most f) before)
