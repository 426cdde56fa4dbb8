-- The files so far are opened.
use Rattle.std.proofs.Common.{map, take}
use Rattle.heavy_host.specs.Files.{AreRead}
use Rattle.heavy_answers.specs.Answers.{opens_file}
use Rattle.heavy_answers.proofs.saved_files.opened_files.Given as goal

abbrev pub invariant-loop-i : goal.invariant-loop-i
invariant-loop-i l = AreRead opens_file (map (λ w. w.items) (take l.i l.files)) (map (λ f. f.items) l.saved.items)
