use Rattle.hh_rows.proofs.Utf8Facts.{strings_have_no_controls}
use Rattle.hh_rows.proofs.laws.strings_have_no_controls.Goals as goal

pub returns : goal.returns
returns c = strings_have_no_controls
