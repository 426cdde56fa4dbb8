use Rattle.std.proofs.Common.{◌≡◌, refl}
use Rattle.hh_workers.specs.Plans.{shape}
use Rattle.hh_workers.specs.Trees.{leaves}
use Rattle.hh_workers.proofs.NumberFacts.{all-came, missing}
use Rattle.hh_workers.proofs.parsing.check_numbers.Goals as goal

pub returns-in-None-clause-merges : goal.returns-in-None-clause-merges
returns-in-None-clause-merges c =
    let numbers : c.deref.result.now ≡ leaves (shape c.args.tree.now) =
    rw (c.deref.ensures.value, c.in_ok-add_numbers.ensures, c.new-numbers.ensures.items) refl in
    let marked = c.in_ok-marks.ensures in
    all-came (shape c.args.tree.now) c.in_ok-marks.marks.items c.args.pieces (rw numbers at marked.marks)
    (rw numbers at marked.own) (rw c.deref-2.ensures.value at c.in-None.ensures.none)

pub returns-clause-refused : goal.returns-clause-refused
returns-clause-refused c =
    let numbers : c.deref.result.now ≡ leaves (shape c.args.tree.now) =
    rw (c.deref.ensures.value, c.in_ok-add_numbers.ensures, c.new-numbers.ensures.items) refl in
    let marked = c.in_ok-marks.ensures in
    let least = rw c.deref-2.ensures.value at c.in-Some.ensures.least in
    missing c.in_ok-marks.marks.items c.args.pieces c.in-Some.i _ (rw numbers at marked.marks)
    (rw numbers at marked.own) least.0 least.1 least.2
