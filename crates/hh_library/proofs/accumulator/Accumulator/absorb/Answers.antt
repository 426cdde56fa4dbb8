use Rattle.std.proofs.Common.{refl}
use Rattle.std.proofs.lemmas.Result.{err_from_is_err_and}
use Rattle.hh_library.proofs.AccumulatorFacts.{merge_ends, unread_one}
use Rattle.hh_library.proofs.accumulator.Accumulator.absorb.Goals as goal

pub returns-in_err-next-clause-refused : goal.returns-in_err-next-clause-refused
returns-in_err-next-clause-refused c =
    let p = err_from_is_err_and c.from_residual.result c.from_residual.ensures.1 in
    rw (p.1, p.2) (unread_one c.args.self.now c.args.file.now c.in_err-next.field-0.0 c.in_err-next.ensures.refused)

pub returns-clause-merged : goal.returns-clause-merged
returns-clause-merged c =
    (merge_ends c.args.self.now c.args.file.now c.in_ok-next.next c.in_ok-next.ensures.value c.args.self.now refl
    c.merge.result c.merge.new.self).0 (rw c.of-other.ensures at c.merge.ensures.merged)

pub returns-clause-refused : goal.returns-clause-refused
returns-clause-refused c =
    (merge_ends c.args.self.now c.args.file.now c.in_ok-next.next c.in_ok-next.ensures.value c.args.self.now refl
    c.merge.result c.merge.new.self).1 (rw c.of-other.ensures at c.merge.ensures.refused)
