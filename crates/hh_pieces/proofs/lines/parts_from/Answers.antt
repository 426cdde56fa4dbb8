use Rattle.std.proofs.Common.{◌∙◌, ap}
use Rattle.hh_pieces.specs.Lines.{parts_in_line}
use Rattle.hh_pieces.proofs.SplitFacts.{alone-no-return, alone-whole}
use Rattle.hh_pieces.proofs.lines.parts_from.Goals as goal

pub plain_parts-requires-2-clause-no_return : goal.plain_parts-requires-2-clause-no_return
plain_parts-requires-2-clause-no_return c =
    alone-no-return c.args.text.now c.args.from c.any_line_end-end.result c.any_line_end-end.ensures.end

-- the line as a text by itself
pub returns-clause-parts : goal.returns-clause-parts
returns-clause-parts c =
    let line = c.plain_parts-2.ensures in
    line.parts
    ∙ ap (parts_in_line c.args.cut)
    (alone-whole c.args.text.now c.args.from c.any_line_end-end.result c.any_line_end-end.ensures.end c.plain_parts-2.result.1 line.end)
