use Rattle.std.proofs.Common.{◌∙◌, length, sym, ap}
use Rattle.hh_workers.proofs.CutFacts.{length-pieces_of}
use Rattle.hh_workers.proofs.pieces.CutStreamPieces.count.Goals as goal

pub returns : goal.returns
returns c =
    let now = c.self.inside in
    c.count.ensures.count ∙ sym (length-pieces_of now.cutting.now now.stream.now) ∙ ap length c.self.view_is
