use Rattle.std.proofs.Common.{Err, ap}
use Rattle.hh_commands.proofs.FileFacts.{ok-no_err, cells-merged, cells-other_family, cells-other_width, cells-too_large}
use Rattle.hh_commands.proofs.commands.merge.merge_cells.Goals as goal

pub returns-in-Ok-clause-merged : goal.returns-in-Ok-clause-merged
returns-in-Ok-clause-merged c =
    let e = c.in-Ok.ensures in
    let one = c.equal_families_are_one.ensures c.args.table.now.family c.args.other.now.family in
    rw e.merged
    (cells-merged c.args.number c.args.table.now c.args.other.now one
    (λ h. ok-no_err (e.different_family.1 h)) (λ h. ok-no_err (e.different_width.1 h))
    (λ h. ok-no_err (e.too_large.1 h)))

pub returns-in-Err-DifferentFamily-clause-merged : goal.returns-in-Err-DifferentFamily-clause-merged
returns-in-Err-DifferentFamily-clause-merged c =
    let one = c.equal_families_are_one.ensures c.args.table.now.family c.args.other.now.family in
    let arm = c.in-Err-DifferentFamily in
    cells-other_family c.args.number c.args.table.now c.args.other.now one
    (arm.ensures.different_family.0 (ap Err arm.field-0-is))

pub returns-in-Err-DifferentWidth-clause-merged : goal.returns-in-Err-DifferentWidth-clause-merged
returns-in-Err-DifferentWidth-clause-merged c =
    let one = c.equal_families_are_one.ensures c.args.table.now.family c.args.other.now.family in
    let arm = c.in-Err-DifferentWidth in
    let h = arm.ensures.different_width.0 (ap Err arm.field-0-is) in
    cells-other_width c.args.number c.args.table.now c.args.other.now one h.0 h.1

pub returns-in-Err-TotalTooLarge-clause-merged : goal.returns-in-Err-TotalTooLarge-clause-merged
returns-in-Err-TotalTooLarge-clause-merged c =
    let one = c.equal_families_are_one.ensures c.args.table.now.family c.args.other.now.family in
    let arm = c.in-Err-TotalTooLarge in
    let h = arm.ensures.too_large.0 (ap Err arm.field-0-is) in
    cells-too_large c.args.number c.args.table.now c.args.other.now one h.0 h.1 h.2
