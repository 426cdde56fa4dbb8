use Rattle.std.proofs.Common.{refl}
use Rattle.std.specs.Str.{chars, is_utf8}
use Rattle.serde_json.proofs.OnLiterals.{serde_json_on_literals}
use Rattle.hh_json.proofs.laws.example_lines.Goals as goal

pub returns : goal.returns
unfolding chars is_utf8 serde_json_on_literals
returns c = (refl, refl, refl, refl)
