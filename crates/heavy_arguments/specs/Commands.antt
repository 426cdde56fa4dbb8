-- Commands as `clap` knows them.
use Rattle.std.specs.Prelude.{◌≡◌, false, Result, IfOk}
use Rattle.clap.specs.declared.builder.command.Command.{Command}
use Rattle.clap.specs.Simple.{App, app_of}
use Rattle.clap.specs.declared.builder.command.Command.TheViews.{out-Command as fields_of}

-- the command, if it was made, has no argument that its own commands take too
abbrev pub HasNoGlobals : {E : Type 0} → Result Command E → Type 0
HasNoGlobals made = IfOk made (λ c. (fields_of c).has_globals ≡ false)

-- the command, if it was made, is read so
abbrev pub IsApp : {E : Type 0} → App → Result Command E → Type 0
IsApp app made = IfOk made (λ c. app_of c ≡ app)
