use Rattle.std.proofs.Common.{◌≡◌, ◌+◌, fold, take}
use Rattle.hh_stream.specs.Weights.{total_of}
use Rattle.hh_workers.proofs.pieces.CutStreamPieces.feed.Given as goal

abbrev pub invariant-loop-item : goal.invariant-loop-item
invariant-loop-item g l = record {
  taken : l.taker ≡ fold g.T.TakeItems.with_item l.initial.taker (take l.item-index l.item-items);
  total : g.T.TakeItems.weight_taken l.taker
      ≡ g.T.TakeItems.weight_taken l.initial.taker + total_of (take l.item-index l.item-items);
}
