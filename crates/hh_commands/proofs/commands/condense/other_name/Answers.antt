use Rattle.std.proofs.Common.{◌≡◌, ◌∙◌, IfOk, subst}
use Rattle.hh_stream.specs.Weights.{Bytes}
use Rattle.hh_counters.specs.Condensed.{other_name}
use Rattle.hh_commands.proofs.NameFacts.{numbered_name, plain_name}
use Rattle.hh_commands.proofs.commands.condense.other_name.Goals as goal
use Rattle.hh_commands.proofs.commands.condense.other_name.Goals.{then-number-gt0+in_ok-extend_from_slice, else-number-gt0}

pub returns : goal.returns
returns c =
    let name : c.as_slice.result.now ≡ other_name c.args.number =
    c.as_slice.ensures.value ∙ elim c.if-number-gt0.branch [
      | then-number-gt0+in_ok-extend_from_slice w ↦
          rw (
            w.name-is,
            w.in_ok-extend_from_slice.ensures.items,
            c.in_ok-name.ensures.items,
            w.as_bytes.ensures.value,
            w.format.ensures.text,
          )
          (numbered_name c.args.number w.if-number-gt0.true c.ranges.number.fits)
      | else-number-gt0 w ↦ rw (w.name-is, c.in_ok-name.ensures.items) (plain_name c.args.number w.if-number-gt0.false)
    ] in
    subst (λ (bytes : Bytes). IfOk c.of_bytes.result (λ key. key ≡ bytes)) name c.of_bytes.ensures.key
