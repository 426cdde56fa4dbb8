use Rattle.std.proofs.Common.{◌≤◌, sym, arith}
use Rattle.std.proofs.lemmas.Bool.Decides.{nat_tests}
use Rattle.std.proofs.lemmas.List.FromFn.{length-map-range_with_len}
use Rattle.hh_stream.specs.Cuttings.{even_length, max_pieces}
use Rattle.hh_stream.proofs.CuttingFacts.{sum-even}
use Rattle.hh_stream.proofs.cutting.Cutting.of_pieces.Goals as goal

pub invariant_of-result : goal.invariant_of-result
invariant_of-result c =
    let p = c.args.pieces in
    let count = length-map-range_with_len (even_length c.args.len p) 0 p in
    let low : 1 ≤ p = grind (arith, nat_tests, c.requires) in
    let high : p ≤ max_pieces = grind (arith, nat_tests, c.requires) in
    let all = sum-even c.args.len p low in
    rw c.in_ok-lengths.ensures
    (record { some = rw count low; few = rw count high; fits = rw all c.ranges.len.fits }, sym all)

pub returns-clause-adds_up : goal.returns-clause-adds_up
returns-clause-adds_up c =
    rw c.in_ok-lengths.ensures (sum-even c.args.len c.args.pieces (grind (arith, nat_tests, c.requires)))

pub returns-clause-pieces : goal.returns-clause-pieces
returns-clause-pieces c =
    rw c.in_ok-lengths.ensures (length-map-range_with_len (even_length c.args.len c.args.pieces) 0 c.args.pieces)
