use Rattle.std.proofs.Common.{◌∙◌, IfOk}
use Rattle.hh_saved.specs.Spelling.{Spells}
use Rattle.hh_saved.specs.declared.format.Version.TheVariants as version
use Rattle.hh_saved.specs.declared.saved.Saved.TheVariants.{Cells}
use Rattle.heavy_ffi.proofs.OutcomeFacts.{came}
use Rattle.heavy_ffi.proofs.handle.proved_save.Goals as goal

pub returns-in-Some-clause-exact : goal.returns-in-Some-clause-exact
returns-in-Some-clause-exact c = λ t is done.
    let saved : IfOk c.in-Some.made (λ bytes. Spells version.Two bytes.items (Cells t)) = rw is at c.in-Some.ensures.saved in
    let (bytes, spells, size, _) = came c.in-Some.made saved (c.answer.ensures.size done) in
    size ∙ c.sizes_are_bounded.ensures.tables version.Two bytes.items t spells
