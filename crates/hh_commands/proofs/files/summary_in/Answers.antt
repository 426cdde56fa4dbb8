use Rattle.std.proofs.Common.{◌≡◌, ◌∙◌, ap, rules}
use Rattle.hh_commands.specs.Files.{file_fault}
use Rattle.hh_commands.proofs.FileFacts.{summary_refused}
use Rattle.hh_commands.proofs.files.summary_in.Goals as goal

pub returns-clause-refused : goal.returns-clause-refused
returns-clause-refused c =
    rw c.file_fault.ensures (summary_refused c.args.file.now c.in-Err.fault c.in-Err.ensures.exact)

pub returns-clause-early : goal.returns-clause-early
returns-clause-early c = λ f fails.
    let same : c.in-Err.fault ≡ f = cc (c.in-Err.ensures.early f fails) in
    c.file_fault.ensures ∙ ap (file_fault 1) same

pub returns-in-Ok-Cells-clause-summary : goal.returns-in-Ok-Cells-clause-summary
returns-in-Ok-Cells-clause-summary c = search rules

pub returns-in-Ok-Cells-clause-spelled : goal.returns-in-Ok-Cells-clause-spelled
returns-in-Ok-Cells-clause-spelled c = search rules
