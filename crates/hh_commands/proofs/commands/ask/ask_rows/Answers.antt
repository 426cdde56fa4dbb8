use Rattle.std.proofs.Common.{◌≡◌, ◌∙◌, ◌++◌, List, ℕ, ap, map, refl, sym}
use Rattle.std.specs.Prelude.{vec_items}
use Rattle.std.proofs.lemmas.List.Folds.{flat_map-map}
use Rattle.hh_stream.specs.Weights.{Bytes}
use Rattle.hh_rows.specs.Outputs.{no_rows, row_in}
use Rattle.hh_commands.specs.Ask.{answer_fields, answer_rows, bound_columns}
use Rattle.hh_commands.proofs.commands.ask.ask_rows.Goals as goal

pub returns-clause-rows : goal.returns-clause-rows
returns-clause-rows c =
    let output = c.args.output.now in
    let saved = c.in_ok-saved.saved in
    let one = λ (x : Bytes). row_in output.form bound_columns (answer_fields output saved x) in
    let rows : c.in_ok-answers_text.field-0.items ≡ answer_rows output saved (map vec_items c.args.keys.now) =
    c.in_ok-answers_text.ensures
    ∙ ap (λ (text : List ℕ). (no_rows output bound_columns).text ++ text) (sym (flat_map-map one vec_items c.args.keys.now)) in
    rw (rows, c.in_ok-saved.ensures.value, c.in_ok-saved.ensures.keys) refl
