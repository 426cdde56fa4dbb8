use Rattle.std.proofs.Common.{◌≡◌, ◌<◌, ◌≤◌, ◌-◌, ◌+◌, length, List}
use Rattle.std.specs.Prelude.{All, fold}
use Rattle.hh_stream.specs.Weights.{Entry, total_of, max_total}
use Rattle.hh_records.specs.Formats.{part_said}
use Rattle.hh_pieces.specs.Lines.{line_parts}
use Rattle.hh_pieces.proofs.SplitFacts.{LinesRead}
use Rattle.hh_pieces.proofs.lines.read_lines.Given as goal

abbrev pub invariant-loop-from : goal.invariant-loop-from
invariant-loop-from g l = (g.T.TakeItems.weight_taken l.taker ≤ max_total)
    × (l.number ≤ l.before + l.from)
    × ((xs : List Entry)
    × (g.T.TakeItems.weight_taken l.taker ≡ g.T.TakeItems.weight_taken l.initial.taker + total_of xs)
    × All (λ (e : Entry). 0 < e.1) xs × (l.taker ≡ fold g.T.TakeItems.with_item l.initial.taker xs)
    × LinesRead l.fn.layout (line_parts (part_said l.fn.layout.part) l.fn.cut) l.before (g.T.TakeItems.weight_taken l.initial.taker) l.fn.text l.from xs l.number)

abbrev pub decreases-loop-from : goal.decreases-loop-from
decreases-loop-from g l = length l.fn.text - l.from
