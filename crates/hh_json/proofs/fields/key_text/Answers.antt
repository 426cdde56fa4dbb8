use Rattle.std.proofs.Common.{refl}
use Rattle.hh_json.proofs.FieldFacts.{key-kind}
use Rattle.hh_json.proofs.fields.key_text.Goals as goal

pub returns-in-Some : goal.returns-in-Some
returns-in-Some c j begins = rw (key-kind j, ← c.in-Some.ensures j begins, c.as_bytes.ensures.value) refl

pub returns-in-Some-as_number : goal.returns-in-Some-as_number
returns-in-Some-as_number c j begins =
    rw (
      key-kind j,
      ← c.in_default.ensures j begins,
      ← c.in-Some-as_number.ensures j begins,
      c.as_bytes-in-Some-as_number.ensures.value,
    ) refl

pub returns-in_err-as_bool : goal.returns-in_err-as_bool
returns-in_err-as_bool c j begins =
    rw (
      c.from_residual.ensures,
      key-kind j,
      ← c.in_default.ensures j begins,
      ← c.in_default-as_number.ensures j begins,
      ← c.in_err-as_bool.ensures j begins,
    ) refl

pub returns-then-branch : goal.returns-then-branch
returns-then-branch c j begins =
    rw (
      key-kind j,
      ← c.in_default.ensures j begins,
      ← c.in_default-as_number.ensures j begins,
      ← c.in_ok-as_bool.ensures j begins,
      c.if-branch.true,
    ) refl

pub returns-else-branch : goal.returns-else-branch
returns-else-branch c j begins =
    rw (
      key-kind j,
      ← c.in_default.ensures j begins,
      ← c.in_default-as_number.ensures j begins,
      ← c.in_ok-as_bool.ensures j begins,
      c.if-branch.false,
    ) refl
