use Rattle.std.proofs.Common.{◌≡◌, ◌∙◌, sym, rules}
use Rattle.std.specs.Map.{values_of}
use Rattle.hh_tally.proofs.lowering.level_in.Goals as goal

pub returns : goal.returns
returns c =
    let entries = c.args.index.now.entries in
    let numbers : c.in_ok-numbers.numbers.items ≡ values_of entries = search rules in
    c.level_of.ensures entries (sym numbers ∙ sym c.deref_mut.ensures.value)
