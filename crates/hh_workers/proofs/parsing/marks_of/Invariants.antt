use Rattle.std.proofs.Common.{take}
use Rattle.hh_shared.specs.Numbers.{IsDistinctBelow}
use Rattle.hh_workers.specs.PlanTexts.{AreMarked}
use Rattle.hh_workers.proofs.parsing.marks_of.Given as goal

abbrev pub invariant-loop-number : goal.invariant-loop-number
invariant-loop-number l =
    let came = take l.number-index l.numbers in AreMarked l.marks.items l.pieces came × IsDistinctBelow l.pieces came
