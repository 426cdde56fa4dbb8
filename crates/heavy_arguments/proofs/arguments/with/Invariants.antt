use Rattle.std.proofs.Common.{◌≡◌, false, take}
use Rattle.clap.specs.Simple.{app_of}
use Rattle.clap.specs.declared.builder.command.Command.TheViews.{out-Command as fields_of}
use Rattle.heavy_arguments.specs.CommandLine.{argument_rules, with_rules}
use Rattle.heavy_arguments.proofs.arguments.with.Given as goal

-- the command so far has the arguments so far, none of which its own commands take too
abbrev pub invariant-loop-argument : goal.invariant-loop-argument
invariant-loop-argument l = ((fields_of l.command).has_globals ≡ false)
    × (app_of l.command ≡ with_rules (app_of l.initial.command) (argument_rules (λ t. t.now) l.fn.forms.names (take l.argument-index l.arguments)))
