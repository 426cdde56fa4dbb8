use Rattle.std.proofs.Common.{◌≡◌, Some, take}
use Rattle.hh_workers.specs.Plans.{reading_of}
use Rattle.hh_workers.specs.PlanTexts.{first_reading, steps}
use Rattle.hh_workers.proofs.parsing.tree_of.Given as goal

abbrev pub invariant-loop-i : goal.invariant-loop-i
invariant-loop-i l = steps first_reading (take l.i l.text) ≡ Some (reading_of l.reading)
