use Rattle.hh_pieces.proofs.WindowFacts.{held-less}
use Rattle.std.proofs.Common.{arith, drop, length-drop}
use Rattle.std.proofs.lemmas.List.{length-take-le}
use Rattle.hh_pieces.proofs.window.Window.remove.Goals as goal

pub returns : goal.returns
returns c =
    let window = c.args.self.now in
    let held = length-take-le window.held (drop window.from window.bytes.items)
    (omega (arith, window.within, length-drop window.from window.bytes.items)) in
    held-less window.bytes.items window.from window.held c.args.count (omega (arith, held, c.requires))
