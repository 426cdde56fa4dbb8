-- What a command line asks for, by what the program's own command line finds in it. What an option is called, and its
-- default, stand in the table of commands.
use Rattle.std.specs.Prelude.{ℕ, ◌≡◌, ◌≢◌, ◌⊎◌, ◌-◌, ◌*◌, ◌^◌, ◌==◌, ◌&&◌, ◌||◌, Bool, is_none, is_some, ⊤, true, false, not, List, [], Option, Some, None, bytes_eq, codes, length, map, min, drop, option_map, slice_index_or, unwrap_or, if◌then◌else◌}
use Rattle.std.specs.List.{flat_map, list_any, slice_split}
use Rattle.clap.specs.Words.{App, IsAmong, Text, fault_of, first_value, kind_of, matched_of, one_text, raw_values, rows_of, subcommand_of, takes}
use Rattle.clap.specs.declared.error.kind.ErrorKind.{ErrorKind}
use Rattle.clap.specs.declared.parser.matches.Found.{Found}
use Rattle.hh_records.specs.declared.format.Format.{Format}
use Rattle.hh_records.specs.declared.format.Format.TheVariants as format
use Rattle.hh_records.specs.declared.layout_words.LayoutWords.{LayoutWords}
use Rattle.hh_rows.specs.declared.report_options.ReportOptions.{ReportOptions}
use Rattle.hh_rows.specs.declared.report_options.Tree.{Tree}
use Rattle.hh_rows.specs.declared.report_options.Tree.TheVariants as shape
use Rattle.hh_rows.specs.declared.printed.RowOptions.{RowOptions}
use Rattle.hh_rows.specs.declared.threshold.Share.{Share}
use Rattle.hh_rows.specs.declared.threshold.Share.TheVariants as limit
use Rattle.hh_rows.specs.declared.output.Form.{Form}
use Rattle.hh_rows.specs.declared.output.Form.TheVariants as form
use Rattle.hh_rows.specs.declared.output.Output.{Output}
use Rattle.heavy_arguments.specs.CommandLine.{IsProgram, memory_of, name_of, workers_of}
use Rattle.heavy_arguments.specs.Found.{IsFlag, IsNumber, IsNumberGiven, number_of_kind, text_found}
use Rattle.heavy_arguments.specs.declared.arguments.TheConstants.{ALLOW_ZERO, BAD_AS, DECIMALS, DELIMITER, DEPTH, EXPLAIN, GREATEST, HEADER, JSON, K, KEY, KEYS, LINES, MEMORY, METHOD, NAMES, NO_QUOTES, ONCE, OUT, OUTPUT, PIECES, PREFIX, PROGRESS, RECORDS, SAVED_FILES, SEED, SHARE, SQUEEZE, THRESHOLD, TOP, TREE, UNTIL, WEIGHT, WIDTH, WORKERS}
use Rattle.heavy_arguments.specs.declared.options.Argument.{Argument}
use Rattle.heavy_arguments.specs.declared.verbs.Verb.{Verb}
use Rattle.heavy_host.specs.Words.{AreAllWords, word_of}
use Rattle.heavy_requests.specs.Fields.{fields_in}
use Rattle.heavy_requests.specs.declared.request.Asked.{Asked}
use Rattle.heavy_requests.specs.declared.request.RecordWords.{RecordWords}
use Rattle.heavy_requests.specs.declared.request.UsageError.{UsageError}
use Rattle.heavy_requests.specs.declared.request.UsageError.TheVariants as usage

-- the texts of a name, in their order
abbrev pub all_texts : Found → Text → List Text
all_texts found name = unwrap_or (option_map raw_values (matched_of found name)) []

-- its words
abbrev pub all_words : Found → Text → List (List ℕ)
all_words found name = map word_of (all_texts found name)

-- its word, where it has one
abbrev pub word_given : Found → Text → Option (List ℕ)
word_given found name = option_map word_of (first_value found name)

-- what stands between the commas of a text
abbrev pub between_commas : Text → List Text
between_commas text = slice_split (λ b. b == 44) text

-- the columns that a text names: what stands between its commas or, where it has a quote, the fields that CSV has in it
abbrev pub columns_in : Text → List (List ℕ)
columns_in text = if list_any (λ b. b == 34) text then fields_in 44 (word_of text) else map word_of (between_commas text)

-- the columns of all texts of a name, in their order
abbrev pub all_columns : Found → Text → List (List ℕ)
all_columns found name = flat_map columns_in (all_texts found name)

-- the threshold: the text that was given, or else that of the counters
abbrev pub GivesShare : Option Text → Share → Type 0
GivesShare None limit.OfCounters = ⊤
GivesShare None (limit.Text word) = ⊥
GivesShare (Some text) limit.OfCounters = ⊥
GivesShare (Some text) (limit.Text word) = word.items ≡ word_of text

-- the tree that a word names
abbrev pub NamesTree : List ℕ → Tree → Type 0
NamesTree word shape.Balanced = word ≡ codes "balanced"
NamesTree word shape.Chain = word ≡ codes "chain"
NamesTree word (shape.Text text) = (text.items ≡ word) × (word ≢ codes "balanced") × (word ≢ codes "chain")

-- a number that an option of the table has: the one that was given, or else its default
abbrev pub IsNumberOf : {T : Type 0} → (T → Text) → Found → Argument T → ℕ → Type 0
IsNumberOf as_text found it number = IsNumber found (as_text it.name) (2 ^ 64) (number_of_kind it.kind) number

-- how many digits a weight has behind its point
abbrev pub AreDecimals : Found → ℕ → Type 0
AreDecimals found decimals = IsNumber found DECIMALS.name.now (2 ^ 8) 0 decimals

-- what a report is of, and how it is made
pub record AreOptions (verb : Verb) (found : Found) (options : ReportOptions) : Type 0 where
  pub k : IsNumberOf (λ t. t.now) found K options.k
  pub threshold : GivesShare (first_value found THRESHOLD.name.now) options.threshold
  pub workers : IsNumber found WORKERS.name.now (2 ^ 64) (workers_of verb) options.workers
  pub pieces : IsNumberOf (λ t. t.now) found PIECES options.pieces
  pub tree : NamesTree (word_of (text_found (λ t. t.now) found TREE)) options.tree
  pub width : IsNumberOf (λ t. t.now) found WIDTH options.width
  pub depth : IsNumberOf (λ t. t.now) found DEPTH options.depth
  pub seed : IsNumberOf (λ t. t.now) found SEED options.seed

-- the form that a text names: CSV, where it is no other
abbrev pub NamesForm : Option Text → Form → Type 0
NamesForm text form.Csv = (text ≢ Some (codes "tsv")) × (text ≢ Some (codes "json"))
NamesForm text form.Tsv = text ≡ Some (codes "tsv")
NamesForm text form.Json = text ≡ Some (codes "json")

-- how rows are printed
pub record IsOutput (found : Found) (output : Output) : Type 0 where
  pub form : NamesForm (first_value found OUTPUT.name.now) output.form
  pub names : IsFlag found NAMES.name.now output.has_names
  pub decimals : AreDecimals found output.decimals

-- which rows are printed, and how
pub record AreRowOptions (found : Found) (rows : RowOptions) : Type 0 where
  pub top : IsNumberGiven found TOP.name.now rows.top
  pub share : IsFlag found SHARE.name.now rows.share
  pub output : IsOutput found rows.output

-- whether a flag is given
abbrev pub IsGiven : Found → Text → Type 0
IsGiven found name = one_text found name ≡ Some (codes "true")

abbrev pub IsAbsent : Found → Text → Type 0
IsAbsent found name = one_text found name ≡ None

-- how a record is written, by the first of these flags that is given
pub record IsFormat (found : Found) (written : Format) : Type 0 where
  pub json : IsGiven found JSON.name.now → written ≡ format.Json
  pub lines : IsAbsent found JSON.name.now → IsGiven found LINES.name.now → written ≡ format.Lines
  pub squeezed : IsAbsent found JSON.name.now → IsAbsent found LINES.name.now → IsGiven found SQUEEZE.name.now
      → written ≡ format.Squeezed
  pub unquoted : IsAbsent found JSON.name.now → IsAbsent found LINES.name.now → IsAbsent found SQUEEZE.name.now
      → IsGiven found NO_QUOTES.name.now → written ≡ format.Unquoted
  pub csv : IsAbsent found JSON.name.now → IsAbsent found LINES.name.now → IsAbsent found SQUEEZE.name.now
      → IsAbsent found NO_QUOTES.name.now → written ≡ format.Csv

-- the records that are read: their files in order, and where their columns stand
pub record AreRecordWords (found : Found) (records : RecordWords) : Type 0 where
  pub files : map (λ w. w.items) records.files.items ≡ all_words found RECORDS.name.now
  pub delimiter : option_map (λ w. w.items) records.layout.delimiter ≡ word_given found DELIMITER.name.now
  pub header : IsFlag found HEADER.name.now records.layout.has_header
  pub key : map (λ w. w.items) records.layout.key.items ≡ all_columns found KEY.name.now
  pub weight : option_map (λ w. w.items) records.layout.weight ≡ word_given found WEIGHT.name.now
  pub zeros : IsFlag found ALLOW_ZERO.name.now records.layout.allow_zero
  pub bad_as : option_map (λ w. w.items) records.layout.bad_as ≡ word_given found BAD_AS.name.now
  pub decimals : AreDecimals found records.layout.decimals
  pub format : IsFormat found records.layout.format
  pub until : records.layout.until.items ≡ word_of (text_found (λ t. t.now) found UNTIL)
  pub prefix : IsNumberGiven found PREFIX.name.now records.layout.prefix

-- whether an option is given
abbrev pub is_given : Found → Text → Bool
is_given found name = is_some (matched_of found name)

-- whether a plan is asked for, by one of its options
abbrev pub asks_plan : Found → Bool
asks_plan found =
    is_given found PIECES.name.now || is_given found TREE.name.now || is_given found WIDTH.name.now
    || is_given found DEPTH.name.now || is_given found SEED.name.now

-- a command with this name asks for it
pub record AsksFor (name : Text) (found : Found) (asked : Asked) : Type 0 where
  pub verb : (verb : Verb) → name ≡ name_of verb → asked.verb ≡ verb
  pub options : AreOptions asked.verb found asked.options
  pub plan : asked.by_plan ≡ asks_plan found
  pub method : asked.method.items ≡ word_of (text_found (λ t. t.now) found METHOD)
  pub greatest : IsNumberOf (λ t. t.now) found GREATEST asked.greatest
  pub once : IsFlag found ONCE.name.now asked.once
  pub memory : IsNumber found MEMORY.name.now (2 ^ 64) (memory_of asked.verb asked.once) asked.memory
  pub rows : AreRowOptions found asked.rows
  pub files : map (λ w. w.items) asked.files.items ≡ all_words found SAVED_FILES.name.now
  pub keys : map (λ w. w.items) asked.keys.items ≡ all_words found KEYS.name.now
  pub records : AreRecordWords found asked.records
  pub out : option_map (λ w. w.items) asked.out ≡ word_given found OUT.name.now
  pub progress : IsFlag found PROGRESS.name.now asked.tells_progress
  pub explained : IsFlag found EXPLAIN.name.now asked.explains

-- the bytes of a number of megabytes, or the greatest number
abbrev pub bytes_of : ℕ → ℕ
bytes_of memory = min (memory * 1000000) (2 ^ 64 - 1)

-- the name of the first saved file, or none where there is no file
abbrev pub first_file : Asked → List ℕ
first_file asked = slice_index_or (map (λ w. w.items) asked.files.items) 0 []

-- whether records are written as CSV has it
abbrev pub is_csv : Format → Bool
is_csv format.Csv = true
is_csv format.Unquoted = false
is_csv format.Squeezed = false
is_csv format.Lines = false
is_csv format.Json = false

-- whether no option of records is given
abbrev pub is_plain_layout : LayoutWords → Bool
is_plain_layout layout =
    is_none layout.delimiter && not layout.has_header && length layout.key.items == 0 && is_none layout.weight
    && length layout.until.items == 0 && is_none layout.prefix && is_csv layout.format && not layout.allow_zero
    && is_none layout.bad_as && layout.decimals == 0

-- whether no file of records and no option of them is given
abbrev pub are_plain : RecordWords → Bool
are_plain words = length words.files.items == 0 && is_plain_layout words.layout

-- these words ask for it: in their texts the program's command line has this command, with its name and its arguments
pub record IsAskedBy (words : List (List ℕ)) (asked : Asked) : Type 0 where
  pub program : App
  pub is_program : IsProgram program
  pub texts : List Text
  pub spelled : map word_of texts ≡ words
  pub name : Text
  pub found : Found
  pub command : subcommand_of program texts ≡ Some (name, rows_of found)
  pub asks : AsksFor name found asked

-- whether words, the first of which is the program's name, ask its command `help` for help, which `clap` doesn't know
abbrev pub asks_help_for_help : List (List ℕ) → Bool
asks_help_for_help words =
    let last = slice_index_or words (length words - 1) [] in
    bytes_eq (slice_index_or words 1 []) (codes "help") && (bytes_eq last (codes "--help") || bytes_eq last (codes "-h"))

-- the program's command line doesn't take the texts of these words, and this is why
pub record IsRefusedBy (words : List (List ℕ)) (why : ErrorKind) : Type 0 where
  pub program : App
  pub is_program : IsProgram program
  pub texts : List Text
  pub spelled : map word_of texts ≡ words
  pub not_taken : takes program texts ≡ false
  pub among : IsAmong why (fault_of program texts)

-- what is said of words that are refused for this reason: that one or, of words that ask `help` for help, why the same words
-- without the program's name are refused
abbrev pub IsSaidOf : List (List ℕ) → ErrorKind → ErrorKind → Type 0
IsSaidOf words why said = (said ≡ why) ⊎ ((asks_help_for_help words ≡ true) × IsRefusedBy (drop 1 words) said)

-- these words may be refused so: memory was refused, or the program's command line refuses them for a reason of which this is said
abbrev pub MayRefuse : List (List ℕ) → UsageError → Type 0
MayRefuse words usage.Memory = ⊤
MayRefuse words (usage.Reported report) = (why : ErrorKind) × IsRefusedBy words why × IsSaidOf words why (kind_of report.error)

-- all words of a source may be refused so
abbrev pub MayRefuseFrom : (ℕ → Option (List ℕ) → Type 0) → UsageError → Type 0
MayRefuseFrom gives usage.Memory = ⊤
MayRefuseFrom gives (usage.Reported report) =
    (words : List (List ℕ)) × AreAllWords gives words × MayRefuse words (usage.Reported report)

-- all words of a source ask for it
abbrev pub IsAskedFrom : (ℕ → Option (List ℕ) → Type 0) → Asked → Type 0
IsAskedFrom gives asked = (words : List (List ℕ)) × AreAllWords gives words × IsAskedBy words asked
