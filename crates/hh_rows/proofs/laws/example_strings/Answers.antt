use Rattle.std.proofs.Common.{refl}
use Rattle.std.specs.Str.{chars, is_utf8}
use Rattle.hh_rows.proofs.laws.example_strings.Goals as goal

pub returns : goal.returns
unfolding chars is_utf8 lib.Utf8.encode
returns c = (refl, refl, refl)
