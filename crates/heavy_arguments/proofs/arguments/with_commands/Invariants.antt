use Rattle.std.proofs.Common.{◌≡◌, false, take, map}
use Rattle.std.specs.Prelude.{fold}
use Rattle.clap.specs.Simple.{app_of, with_subcommand}
use Rattle.clap.specs.declared.builder.command.Command.TheViews.{out-Command as fields_of}
use Rattle.heavy_arguments.specs.CommandLine.{bare_program, shape_of_words}
use Rattle.heavy_arguments.proofs.arguments.with_commands.Given as goal

-- the program so far has the commands so far, of no argument that its own commands take too
abbrev pub invariant-loop-words : goal.invariant-loop-words
invariant-loop-words l = ((fields_of l.all).has_globals ≡ false)
    × (app_of l.all ≡ fold with_subcommand bare_program (map (shape_of_words l.fn.forms.names) (take l.words-index l.commands)))
