-- The files so far are read.
use Rattle.std.proofs.Common.{map, take}
use Rattle.heavy_host.specs.Files.{AreRead}
use Rattle.heavy_host.proofs.files.read_files.Given as goal

abbrev pub invariant-loop-i : goal.invariant-loop-i
invariant-loop-i g l = AreRead (g.F.FileSource.gives l.source) (map (λ w. w.items) (take l.i l.names)) (map (λ f. f.items) l.files.items)
