use Rattle.std.proofs.Common.{◌≡◌, ◌∙◌, true, refl, sym}
use Rattle.hh_stream.specs.Ranges.{in_range}
use Rattle.hh_countmin.specs.Family.{max_depth, max_width}
use Rattle.hh_library.proofs.commands.grow_table.empty_table.Goals as goal

pub returns-clause-value : goal.returns-clause-value
returns-clause-value c =
    let depth : in_range c.args.depth max_depth ≡ true = sym c.in_range.ensures ∙ c.if-not-in_range.false in
    let width : in_range c.args.width max_width ≡ true = sym c.in_range-2.ensures ∙ c.if-not-in_range-2.false in
    rw (depth, width, sym c.in_ok-drawn_table.ensures.none) refl
