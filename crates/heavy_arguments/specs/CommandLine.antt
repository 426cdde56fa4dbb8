-- What `clap` reads of the program's command line: each command with its arguments, each argument with its name and how it
-- is given, all by the table of commands.
use Rattle.std.specs.Prelude.{◌≡◌, Bool, pos, true, false, List, [], ◌∷◌, ◌++◌, ℕ, Some, codes, map, fold}
use Rattle.std.specs.Borrow.{Bor}
use Rattle.clap.specs.Lexer.{usize_max}
use Rattle.clap.specs.Walk.{Rule, Text}
use Rattle.clap.specs.Simple.{App, Shape, new_rule, new_shape, on_top, with_subcommand}
use Rattle.clap.specs.declared.builder.action.ArgAction.TheVariants.{Append, SetTrue}
use Rattle.clap.specs.declared.builder.value_parser.ValueParser.TheVariants.{Names, NonEmptyString, Signed, Unsigned}
use Rattle.heavy_arguments.specs.declared.options.Argument.{Argument}
use Rattle.heavy_arguments.specs.declared.options.Kind.{Kind}
use Rattle.heavy_arguments.specs.declared.options.Kind.TheVariants as kind
use Rattle.heavy_arguments.specs.Found.{number_of_kind}
use Rattle.heavy_arguments.specs.declared.arguments.CommandWords.{CommandWords}
use Rattle.heavy_arguments.specs.declared.arguments.TheConstants.{ASK_ARGUMENTS, COLUMNS, CONDENSE_ARGUMENTS, CONFIRM_ARGUMENTS, DESCRIBE_ARGUMENTS, LIST_ARGUMENTS, MEANS, MEMORY, MERGE_ARGUMENTS, ONCE_MEMORY, REPORT_ARGUMENTS, SUMMARISE_ARGUMENTS, SUMMARY_WORKERS, TABLE_ARGUMENTS, TOP_ARGUMENTS, TOP_MEMORY, WORKERS}
use Rattle.heavy_arguments.specs.declared.verbs.Verb.{Verb}
use Rattle.heavy_arguments.specs.declared.verbs.Verb.TheVariants as verb
use Rattle.heavy_arguments.specs.declared.verbs.Pass.TheVariants as pass

-- ---- arguments

-- `--NAME VALUE`, at most once
abbrev pub option : Text → Rule
option name = record (new_rule name) { long = Some name; value_names = 1 }

-- `--NAME`, at most once
abbrev pub flag : Text → Rule
flag name = record (new_rule name) { long = Some name; action = Some SetTrue }

-- a word that has to stand there
abbrev pub word : Text → Rule
word name = record (new_rule name) { value_names = 1; required = true }

-- any number of words at the end, or none
abbrev pub words : Text → Rule
words name = record (new_rule name) {
  value_names = 1;
  action = Some Append;
  range = Some (record { start_inclusive = 1; end_inclusive = usize_max });
}

-- words, where they lie in memory
abbrev pub Words : Type 0
Words = Bor (List (Bor Text))

abbrev pub rule_of_kind : {T : Type 0} → Words → Kind T → Text → Rule
rule_of_kind forms (kind.Number default) name = record (option name) { parser = Some (Unsigned 0 18446744073709551615) }
rule_of_kind forms kind.Digit name = record (option name) { parser = Some (Signed (pos 0) (pos 9)) }
rule_of_kind forms (kind.Text value default) name = option name
rule_of_kind forms (kind.Filled value) name = record (option name) { parser = Some NonEmptyString }
rule_of_kind forms kind.Byte name = option name
rule_of_kind forms kind.Columns name = record (option name) { action = Some Append }
rule_of_kind forms kind.Share name = option name
rule_of_kind forms kind.Form name = record (option name) { parser = Some (Names forms) }
rule_of_kind forms kind.Flag name = flag name
rule_of_kind forms kind.LastFlag name = flag name
rule_of_kind forms kind.Word name = word name
rule_of_kind forms kind.Count name = record (word name) { parser = Some (Unsigned 1 18446744073709551615) }
rule_of_kind forms kind.Words name = record (words name) { required = true }
rule_of_kind forms kind.Files name = words name

-- an argument that its letter after one hyphen gives too, where it has one
abbrev pub rule_of_argument : {T : Type 0} → (T → Text) → Words → Argument T → Rule
rule_of_argument as_text forms it = record (rule_of_kind forms it.kind (as_text it.name)) { short = it.letter }

abbrev pub argument_rules : {T : Type 0} → (T → Text) → Words → List (Argument T) → List Rule
argument_rules as_text forms = map (rule_of_argument as_text forms)

-- ---- commands

-- a command with these arguments after its own
abbrev pub with_rules : App → List Rule → App
with_rules app rules = on_top (λ s. record s { rules = s.rules ++ rules }) app

abbrev pub shape_of_words : Words → CommandWords → Shape
shape_of_words forms it = record (new_shape it.name.now) {
  rules = argument_rules (λ t. t.now) forms it.arguments.now ++ argument_rules (λ t. t.now) forms it.columns.now
      ++ argument_rules (λ t. t.now) forms it.means.now;
}

-- the program before it has commands
abbrev pub bare_program : App
bare_program = record { top = record (new_shape (codes "heavy")) { has_version = true }; subs = [] }

-- the program with these commands, of which one has to be named
abbrev pub program_of : List Shape → App
program_of shapes = on_top (λ s. record s { subcommand_required = true })
    (fold with_subcommand bare_program shapes)

-- the name of the command that does this
abbrev pub name_of : Verb → Text
name_of verb.Report = codes "report"
name_of verb.Top = codes "top"
name_of (verb.Pass pass.Summarise) = codes "summarise"
name_of (verb.Pass pass.Table) = codes "table"
name_of verb.Merge = codes "merge"
name_of verb.Ask = codes "ask"
name_of verb.List = codes "list"
name_of verb.Describe = codes "describe"
name_of (verb.Pass pass.Condense) = codes "condense"
name_of (verb.Pass pass.Confirm) = codes "confirm"

-- the command that does this, with these arguments
abbrev pub command : {T : Type 0} → (T → Text) → Words → Verb → List (Argument T) → Shape
command as_text forms verb arguments = record (new_shape (name_of verb)) { rules = argument_rules as_text forms arguments }

-- the command line of the program, which prints rows in one of these forms
abbrev pub program_app : Words → App
program_app forms =
    let does = command (λ t. t.now) forms in
    program_of (
    does verb.Report (REPORT_ARGUMENTS.now ++ COLUMNS.now ++ MEANS.now)
    ∷ does verb.Top (TOP_ARGUMENTS.now ++ COLUMNS.now)
    ∷ does (verb.Pass pass.Summarise) (SUMMARISE_ARGUMENTS.now ++ COLUMNS.now)
    ∷ does (verb.Pass pass.Table) (TABLE_ARGUMENTS.now ++ COLUMNS.now)
    ∷ does verb.Merge (MERGE_ARGUMENTS.now)
    ∷ does verb.Ask (ASK_ARGUMENTS.now)
    ∷ does verb.List (LIST_ARGUMENTS.now)
    ∷ does verb.Describe (DESCRIBE_ARGUMENTS.now)
    ∷ does (verb.Pass pass.Condense) (CONDENSE_ARGUMENTS.now ++ COLUMNS.now)
    ∷ does (verb.Pass pass.Confirm) (CONFIRM_ARGUMENTS.now ++ COLUMNS.now)
    ∷ [])

-- these are the names of the forms
abbrev pub AreForms : Words → Type 0
AreForms forms = map (λ form. form.now) forms.now ≡ codes "csv" ∷ codes "tsv" ∷ codes "json" ∷ []

-- the command line of the program, wherever the names of the forms lie
pub record IsProgram (app : App) : Type 0 where
  pub forms : Words
  pub named : AreForms forms
  pub is : app ≡ program_app forms

-- how many workers read, and how many megabytes of a pipe are kept in memory or, where it is read once, of counters, if that
-- isn't given
abbrev pub workers_of : Verb → ℕ
workers_of (verb.Pass pass.Summarise) = number_of_kind SUMMARY_WORKERS.kind
workers_of _ = number_of_kind WORKERS.kind

abbrev pub memory_of : Verb → Bool → ℕ
memory_of verb.Top once = number_of_kind TOP_MEMORY.kind
memory_of _ true = number_of_kind ONCE_MEMORY.kind
memory_of _ false = number_of_kind MEMORY.kind
