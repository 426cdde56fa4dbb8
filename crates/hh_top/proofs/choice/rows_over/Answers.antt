use Rattle.std.proofs.Common.{◌∙◌, ap, length, subst, sym, zip}
use Rattle.std.specs.List.Sorted.{IsStrictlySortedBy}
use Rattle.std.specs.Map.{keys_of}
use Rattle.std.proofs.lemmas.Map.Entries.{length-keys_of}
use Rattle.hh_stream.specs.Weights.{key_cmp}
use Rattle.hh_summaries.specs.Report.{rows_above}
use Rattle.hh_top.proofs.Ranking.{over_is_above}
use Rattle.hh_top.proofs.choice.rows_over.Goals as goal

pub selected_rows-requires-clause-rising : goal.selected_rows-requires-clause-rising
selected_rows-requires-clause-rising c =
    subst (IsStrictlySortedBy key_cmp) (sym (c.deref.ensures.value ∙ c.in_ok-keys.ensures)) c.requires.rising

pub selected_rows-requires-clause-lengths : goal.selected_rows-requires-clause-lengths
selected_rows-requires-clause-lengths c =
    c.requires.count ∙ sym (ap length (c.deref.ensures.value ∙ c.in_ok-keys.ensures) ∙ length-keys_of c.args.entries.items)

pub returns : goal.returns
returns c =
    let rows = zip (keys_of c.args.entries.items) c.args.weights.now in
    c.in_ok-rows.ensures.rows
    ∙ ap (λ ks. rows_above 1 1 c.args.floor (zip ks c.args.weights.now)) (c.deref.ensures.value ∙ c.in_ok-keys.ensures)
    ∙ sym (over_is_above c.args.floor rows)
