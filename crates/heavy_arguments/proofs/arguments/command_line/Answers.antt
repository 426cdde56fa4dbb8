-- The names of the forms lie where they were made.
use Rattle.heavy_arguments.proofs.arguments.command_line.Goals as goal

pub returns-clause-app : goal.returns-clause-app
returns-clause-app c = record { forms = c.all_forms.result.names; named = c.all_forms.ensures; is = c.in_ok-all.ensures.app }
