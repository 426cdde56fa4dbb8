use Rattle.hh_rows.proofs.Utf8Facts.{strings_are_utf8}
use Rattle.hh_rows.proofs.laws.strings_are_utf8.Goals as goal

pub returns : goal.returns
returns c = strings_are_utf8
