use Rattle.std.proofs.Common.{refl}
use Rattle.hh_json.proofs.laws.numbers_are_keys_as_strings.Goals as goal

pub returns : goal.returns
returns c = λ s. refl
