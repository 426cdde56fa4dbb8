use Rattle.std.proofs.Common.{map, take}
use Rattle.std.specs.Prelude.{IfSome}
use Rattle.hh_pieces.specs.CutFiles.{file_piece}
use Rattle.hh_records.specs.Layouts.{every}
use Rattle.hh_pieces.proofs.CutTextFacts.{ArePiecesOf}
use Rattle.hh_pieces.proofs.cut_files.pieces_of.Given as goal

abbrev pub invariant-loop-number : goal.invariant-loop-number
invariant-loop-number g l = IfSome (every g.S.ReadAt.bytes l.sources) (λ texts.
    ArePiecesOf l.layout (take l.number texts) (map (file_piece texts) l.pieces.items))
