use Rattle.std.proofs.Common.{◌≡◌, ◌∙◌, [], true, refl, sym}
use Rattle.hh_summaries.specs.Counters.{max_k}
use Rattle.hh_stream.specs.Ranges.{in_range}
use Rattle.hh_library.proofs.commands.add.empty_summary.Goals as goal

pub returns-clause-value : goal.returns-clause-value
returns-clause-value c =
    let passes : in_range c.args.k max_k ≡ true = sym c.in_range.ensures ∙ c.if-not-in_range.false in
    let none = (c.summaries_follow_items.ensures.summaries c.args.k [] ([], 0)).0 in
    rw (passes, none, c.empty.ensures) refl
