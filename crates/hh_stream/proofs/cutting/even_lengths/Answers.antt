use Rattle.std.proofs.Common.{zero-add, arith}
use Rattle.std.proofs.lemmas.Grind.{common_steps}
use Rattle.std.proofs.lemmas.List.FromFn.{map-range_with_len_more}
use Rattle.hh_stream.specs.Cuttings.{even_length}
use Rattle.hh_stream.proofs.cutting.even_lengths.Goals as goal

pub loop-i-preserved : goal.loop-i-preserved
loop-i-preserved c =
    rw (map-range_with_len_more (even_length c.args.len c.args.pieces) 0 c.loop-i.i c.loop-i.i (zero-add c.loop-i.i))
    (grind (arith, common_steps))
