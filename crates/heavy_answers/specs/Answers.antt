-- What answers a request, by the bytes that are given of the files that it names.
use Rattle.std.specs.Io.KnownBytes.{Appends}
use Rattle.std.specs.Prelude.{ℕ, ◌≡◌, ◌⊎◌, ◌||◌, ⊤, Bool, true, false, not, List, Option, Some, None, Ok, map}
use Rattle.hh_summaries.specs.Counters.{sketch_of}
use Rattle.hh_countmin.specs.Family.{drawn_family}
use Rattle.hh_countmin.specs.Table.{table_of}
use Rattle.hh_saved.specs.Spelling.{Spells}
use Rattle.hh_saved.specs.declared.format.Version.TheVariants as version
use Rattle.hh_saved.specs.declared.saved.Saved.{Saved}
use Rattle.hh_saved.specs.declared.saved.Saved.TheVariants.{Cells, Counters}
use Rattle.hh_seals.specs.Opening.{unsealed}
use Rattle.hh_records.specs.Streams.{Known}
use Rattle.hh_records.specs.declared.layout.Layout.{Layout}
use Rattle.hh_rows.specs.declared.output.Output.{Output}
use Rattle.hh_rows.specs.declared.printed.RowOptions.{RowOptions}
use Rattle.hh_rows.specs.declared.threshold.Share.{Share}
use Rattle.hh_commands.specs.Ask.{answers_in}
use Rattle.hh_commands.specs.Bounds.{ComparesBounds}
use Rattle.hh_commands.specs.Condense.{CondensesIn}
use Rattle.hh_commands.specs.Confirm.{ConfirmsPrinted}
use Rattle.hh_commands.specs.Describe.{description}
use Rattle.hh_commands.specs.List.{ListsIn}
use Rattle.hh_commands.specs.Merge.{merged_files}
use Rattle.hh_commands.specs.Records.{SavesStream}
use Rattle.hh_commands.specs.Summarise.{word_of}
use Rattle.hh_commands.specs.declared.commands.summarise.Method.{Method}
use Rattle.hh_commands.specs.declared.compared.Bounds.TheVariants as bounds
use Rattle.hh_commands.specs.declared.compared.Outside.{Outside}
use Rattle.hh_files.specs.Report.{AreOptions, PrintsFileRows, PrintsRows}
use Rattle.hh_files.specs.SummaryFiles.{SavesSummary}
use Rattle.hh_files.specs.TopFiles.{PrintsTop}
use Rattle.heavy_host.specs.Files.{AreRead}
use Rattle.heavy_arguments.specs.declared.verbs.Pass.{Pass}
use Rattle.heavy_arguments.specs.declared.verbs.Pass.TheVariants as pass
use Rattle.heavy_arguments.specs.declared.verbs.Verb.{Verb}
use Rattle.heavy_arguments.specs.declared.verbs.Verb.TheVariants as verb
use Rattle.heavy_requests.specs.Request.{are_plain, first_file}
use Rattle.heavy_requests.specs.declared.request.Asked.{Asked}
use Rattle.heavy_requests.specs.declared.request.RecordWords.{RecordWords}
use Rattle.heavy_answers.specs.Inputs.{AreRecords}

-- of the records that the words name this is made
pub record OfRecords (opens : Bool → List ℕ → Option (List ℕ) → Type 0) (words : RecordWords) (Makes : Known → Type 0) : Type 0 where
  pub layout : Layout
  pub known : Known
  pub records : AreRecords opens words layout known
  pub made : Makes known

-- the bytes save the summary of the records: by one worker that of the definition, and by several one that is as good
pub record SavesByWorkers (k workers : ℕ) (known : Known) (bytes : List ℕ) : Type 0 where
  pub alone : workers ≡ 1 → SavesStream (λ xs. Counters (sketch_of k xs)) known bytes
  pub saved : SavesStream (λ xs. Counters (sketch_of k xs)) known bytes ⊎ SavesSummary k known bytes

-- the bytes save the table of the records
abbrev pub SavesTable : ℕ → ℕ → ℕ → Known → List ℕ → Type 0
SavesTable width depth seed known bytes = SavesStream (λ xs. Cells (table_of (drawn_family seed depth) width xs)) known bytes

-- a file with these bytes holds the saved one: the bytes themselves, or the spelling that they seal
abbrev pub opens_file : List ℕ → Option (List ℕ) → Type 0
opens_file file (Some saved) = unsealed file ≡ Ok saved
opens_file file None = ⊥

-- the saved file with this name, which is opened
abbrev pub gives_saved : (List ℕ → Option (List ℕ) → Type 0) → List ℕ → Option (List ℕ) → Type 0
gives_saved gives name (Some saved) = (file : List ℕ) × gives name (Some file) × opens_file file (Some saved)
gives_saved gives name None = gives name None

-- the bytes save the merge of the files with these names, in their order
pub record MakesMerge (gives : List ℕ → Option (List ℕ) → Type 0) (names : List (List ℕ)) (bytes : List ℕ) : Type 0 where
  pub files : List (List ℕ)
  pub read : AreRead (gives_saved gives) names files
  pub saved : Saved
  pub merged : merged_files files ≡ Ok saved
  pub spelled : Spells version.Two bytes saved

-- the rows are the records, condensed by a saved file
abbrev pub Condenses : List ℕ → Output → Bool → Option Outside → Known → List ℕ → Type 0
Condenses file output refuses outside known bytes =
    CondensesIn output file known bytes × ComparesBounds refuses bounds.High file known outside

-- the rows are the heavy keys of a saved file in the records
abbrev pub Confirms : List ℕ → Share → RowOptions → Bool → Option Outside → Known → List ℕ → Type 0
Confirms file share rows refuses outside known bytes =
    ConfirmsPrinted rows share file known bytes × ComparesBounds refuses bounds.Both file known outside

-- a pass by this saved file makes this of the records, where a key outside its bounds may refuse
abbrev pub MakesInOnePass : Pass → Asked → List ℕ → Bool → Option Outside → Known → List ℕ → Type 0
MakesInOnePass pass.Summarise asked file refuses outside known bytes =
    SavesByWorkers asked.options.k asked.options.workers known bytes
MakesInOnePass pass.Table asked file refuses outside known bytes =
    SavesTable asked.options.width asked.options.depth asked.options.seed known bytes
MakesInOnePass pass.Condense asked file refuses outside known bytes = Condenses file asked.rows.output refuses outside known bytes
MakesInOnePass pass.Confirm asked file refuses outside known bytes =
    Confirms file asked.options.threshold asked.rows refuses outside known bytes

-- where records are read once the first holds, and else the second
pub record IfOnce (reads_once : Bool) (Once Again : Type 0) : Type 0 where
  pub once : reads_once ≡ true → Once
  pub again : reads_once ≡ false → Again

-- these are the rows of the report of the records: they are read once, as is asked for or for a plan, or they may be read again
abbrev pub PrintsReport : Asked → Known → List ℕ → Type 0
PrintsReport asked known bytes =
    AreOptions asked.options × IfOnce (asked.once || asked.by_plan) (PrintsRows asked.rows asked.options known bytes)
    (PrintsFileRows asked.rows asked.options known bytes)

-- this holds of the first saved file
abbrev pub OfSaved : (List ℕ → Option (List ℕ) → Type 0) → Asked → (List ℕ → Type 0) → Type 0
OfSaved gives asked Holds = (file : List ℕ) × gives_saved gives (first_file asked) (Some file) × Holds file

-- a method has this name
abbrev pub NamesMethod : List ℕ → Type 0
NamesMethod word = (method : Method) × (word ≡ word_of method)

-- a pass goes by this saved file: a summary and a table by none, and a summary has a method
abbrev pub IsFileOf : (List ℕ → Option (List ℕ) → Type 0) → Pass → Asked → List ℕ → Type 0
IsFileOf gives pass.Summarise asked file = NamesMethod asked.method.items
IsFileOf gives pass.Table asked file = ⊤
IsFileOf gives pass.Condense asked file = gives_saved gives (first_file asked) (Some file)
IsFileOf gives pass.Confirm asked file = gives_saved gives (first_file asked) (Some file)

-- a pass makes this of the records that are asked for
abbrev pub MakesPass : (List ℕ → Option (List ℕ) → Type 0) → (Bool → List ℕ → Option (List ℕ) → Type 0) → Pass → Asked
    → Bool → Option Outside → List ℕ → Type 0
MakesPass gives opens pass asked refuses outside bytes =
    (file : List ℕ) × IsFileOf gives pass asked file
    × OfRecords opens asked.records (λ known. MakesInOnePass pass asked file refuses outside known bytes)

-- the bytes are what a command makes that does this
abbrev pub Answers : (List ℕ → Option (List ℕ) → Type 0) → (Bool → List ℕ → Option (List ℕ) → Type 0) → Verb → Asked
    → Bool → Option Outside → List ℕ → Type 0
Answers gives opens verb.Report asked refuses outside bytes = OfRecords opens asked.records (λ known. PrintsReport asked known bytes)
Answers gives opens verb.Top asked refuses outside bytes =
    OfRecords opens asked.records (λ known. PrintsTop asked.rows asked.greatest known bytes)
Answers gives opens (verb.Pass pass) asked refuses outside bytes = MakesPass gives opens pass asked refuses outside bytes
Answers gives opens verb.Merge asked refuses outside bytes = MakesMerge gives (map (λ w. w.items) asked.files.items) bytes
Answers gives opens verb.Ask asked refuses outside bytes =
    OfSaved gives asked (λ file. answers_in asked.rows.output file (map (λ w. w.items) asked.keys.items) ≡ Ok bytes)
Answers gives opens verb.List asked refuses outside bytes = OfSaved gives asked (λ file. ListsIn asked.rows.output file bytes)
Answers gives opens verb.Describe asked refuses outside bytes = OfSaved gives asked (λ file. description asked.rows.output file ≡ Ok bytes)

-- whether a key whose weight contradicts a saved summary refuses the records: all but plain ones on standard input
abbrev pub refuses_contradictions : RecordWords → Bool
refuses_contradictions words = not (are_plain words)

-- these bytes answer what was asked for on the command line
abbrev pub IsAnswer : (List ℕ → Option (List ℕ) → Type 0) → (Bool → List ℕ → Option (List ℕ) → Type 0) → Asked
    → Option Outside → List ℕ → Type 0
IsAnswer gives opens asked outside bytes =
    Answers gives opens asked.verb asked (refuses_contradictions asked.records) outside bytes

-- what was asked for on the command line was answered: what answers it was written, and nothing else
abbrev pub IsAnswered : (List ℕ → Option (List ℕ) → Type 0) → (Bool → List ℕ → Option (List ℕ) → Type 0) → Asked
    → Option Outside → Option (List ℕ) → Option (List ℕ) → Type 0
IsAnswered gives opens asked outside old new =
    (bytes : List ℕ) × IsAnswer gives opens asked outside bytes × Appends old new bytes
