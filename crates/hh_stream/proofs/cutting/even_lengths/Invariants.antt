use Rattle.std.proofs.Common.{◌≡◌, map}
use Rattle.std.specs.List.{range_with_len}
use Rattle.hh_stream.specs.Cuttings.{even_length}
use Rattle.hh_stream.proofs.cutting.even_lengths.Given as goal

abbrev pub invariant-loop-i : goal.invariant-loop-i
invariant-loop-i l = l.lengths.items ≡ map (even_length l.len l.pieces) (range_with_len 0 l.i)
