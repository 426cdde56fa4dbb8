use Rattle.std.proofs.Common.{◌≡◌, take}
use Rattle.hh_rows.specs.Outputs.{no_rows, with_rows}
use Rattle.hh_commands.specs.Ask.{bound_columns}
use Rattle.hh_commands.specs.List.{entry_fields}
use Rattle.hh_commands.proofs.commands.list.entries_text.Given as goal

abbrev pub invariant-loop-key : goal.invariant-loop-key
invariant-loop-key l = l.rows
    ≡ with_rows (no_rows l.output bound_columns) (entry_fields l.output.decimals l.summary) (take l.key-index l.entries)
