use Rattle.hh_pieces.proofs.LineFacts.{lines-columns}
use Rattle.hh_pieces.proofs.pieces.column_cut.Goals as goal

pub returns-in-Some-clause-parts : goal.returns-in-Some-clause-parts
returns-in-Some-clause-parts c =
    rw (c.in-Some.ensures.0, c.in-Some.ensures.1) (lines-columns c.args.layout.now c.in-Some.at c.in-Csv.is)
