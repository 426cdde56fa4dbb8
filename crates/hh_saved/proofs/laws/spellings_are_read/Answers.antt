use Rattle.std.proofs.Common.{refl}
use Rattle.hh_saved.specs.Spelling.{spelling_of}
use Rattle.hh_saved.proofs.Values.{saved_again, rewritten}
use Rattle.hh_saved.proofs.laws.spellings_are_read.Goals as goal

pub returns-clause-read : goal.returns-clause-read
returns-clause-read c =
    λ version v is. saved_again version (spelling_of version v) v (record { saved = is; spelled = refl })

pub returns-clause-rewritten : goal.returns-clause-rewritten
returns-clause-rewritten c = rewritten
