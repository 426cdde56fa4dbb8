use Rattle.hh_seals.proofs.Sealed.{is_found, sealed_again}
use Rattle.hh_seals.proofs.laws.sealed_texts_are_opened.Goals as goal

pub returns : goal.returns
returns c = λ bytes decimals spelling. (is_found bytes decimals spelling, sealed_again bytes decimals spelling)
