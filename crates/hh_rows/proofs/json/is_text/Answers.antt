use Rattle.std.proofs.Common.{◌∙◌}
use Rattle.hh_rows.proofs.Utf8Facts.{utf8_read}
use Rattle.hh_rows.proofs.json.is_text.Goals as goal

pub returns : goal.returns
returns c = c.is_ok.ensures.value ∙ utf8_read c.args.field.now c.from_utf8.result c.from_utf8.ensures.cases
