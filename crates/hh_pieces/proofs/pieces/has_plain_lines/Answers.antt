use Rattle.std.proofs.lemmas.Bool.{OnTrue_from}
use Rattle.hh_records.specs.Formats.{part_said}
use Rattle.hh_records.specs.Layouts.{member_names}
use Rattle.hh_pieces.proofs.LineFacts.{lines-cut, lines-joined}
use Rattle.hh_pieces.proofs.pieces.has_plain_lines.Goals as goal

pub returns-in-Csv-clause-parts : goal.returns-in-Csv-clause-parts
returns-in-Csv-clause-parts c =
    let layout = c.args.layout.now in
    OnTrue_from c.is_separator.result _
    (λ e. lines-cut (member_names layout) (part_said layout.part) layout.format layout.delimiter c.in-Csv.is)

pub returns-in-Lines-clause-parts : goal.returns-in-Lines-clause-parts
returns-in-Lines-clause-parts c =
    rw c.in-Lines.is (lines-joined (member_names c.args.layout.now) (part_said c.args.layout.now.part))
