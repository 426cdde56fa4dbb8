use Rattle.std.proofs.Common.{◌≡◌, ◌∙◌, ap}
use Rattle.hh_commands.specs.Files.{file_fault}
use Rattle.hh_commands.proofs.FileFacts.{file_refused}
use Rattle.hh_commands.proofs.files.file_of.Goals as goal

pub returns-in-Err-clause-refused : goal.returns-in-Err-clause-refused
returns-in-Err-clause-refused c =
    rw c.file_fault.ensures (file_refused c.args.number c.args.bytes.now c.in-Err.fault c.in-Err.ensures.exact)

pub returns-in-Err-clause-early : goal.returns-in-Err-clause-early
returns-in-Err-clause-early c = λ f fails.
    let same : c.in-Err.fault ≡ f = cc (c.in-Err.ensures.early f fails) in
    c.file_fault.ensures ∙ ap (file_fault c.args.number) same
