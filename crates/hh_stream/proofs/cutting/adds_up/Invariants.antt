use Rattle.std.proofs.Common.{◌≡◌, ◌+◌, take, sum}
use Rattle.hh_stream.proofs.cutting.adds_up.Given as goal

abbrev pub invariant-loop-length : goal.invariant-loop-length
invariant-loop-length l = l.left + sum (take l.length-index l.lengths) ≡ l.len
