use Rattle.std.proofs.Common.{◌≡◌, take}
use Rattle.hh_rows.specs.Outputs.{no_rows, with_rows}
use Rattle.hh_commands.specs.Ask.{answer_fields, bound_columns}
use Rattle.hh_commands.proofs.commands.ask.answers_text.Given as goal

abbrev pub invariant-loop-word : goal.invariant-loop-word
invariant-loop-word l = l.rows
    ≡ with_rows (no_rows l.output bound_columns) (λ word. answer_fields l.output l.saved word.items)
    (take l.word-index l.words)
