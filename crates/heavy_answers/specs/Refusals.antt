-- What a refusal to answer a request says, by the bytes that are given of the files that it names.
use Rattle.std.specs.Io.KnownBytes.{Keeps}
use Rattle.std.specs.Prelude.{ℕ, ◌≡◌, ◌⊎◌, ◌+◌, ◌-◌, ◌^◌, ◌<◌, min, Bool, false, true, List, [], ◌∷◌, Option, Some, None, Err, map, length, slice_index_or}
use Rattle.hh_stream.specs.Ranges.{in_range}
use Rattle.hh_workers.specs.Workers.{max_workers}
use Rattle.hh_records.specs.LayoutWords.{LayoutRefused}
use Rattle.hh_records.specs.Refusals.{RefusedAfter}
use Rattle.hh_records.specs.Streams.{Known}
use Rattle.hh_records.specs.declared.layout.Layout.{Layout}
use Rattle.hh_rows.specs.Sinks.{TakesFirst}
use Rattle.hh_rows.specs.declared.threshold.Share.{Share}
use Rattle.hh_faults.specs.declared.error.ToolError.{ToolError}
use Rattle.hh_faults.specs.declared.error.ToolError.TheVariants as tool
use Rattle.hh_faults.specs.declared.saved.SavedFault.{SavedFault}
use Rattle.hh_seals.specs.Opening.{unsealed}
use Rattle.hh_commands.specs.Ask.{answers_in}
use Rattle.hh_commands.specs.Condense.{CondensePartRefused}
use Rattle.hh_commands.specs.Confirm.{ConfirmRowsRefused}
use Rattle.hh_commands.specs.Describe.{description}
use Rattle.hh_commands.specs.Files.{Refuses, SummaryRefused}
use Rattle.hh_commands.specs.Merge.{merged_files}
use Rattle.hh_commands.specs.Summarise.{word_of}
use Rattle.hh_commands.specs.declared.commands.summarise.Method.{Method}
use Rattle.hh_commands.specs.declared.compared.Outside.{Outside}
use Rattle.hh_files.specs.Report.{StartRefused, bad_option}
use Rattle.hh_files.specs.FilePasses.{CondenseFilesRefused, ConfirmFilesRefused}
use Rattle.hh_files.specs.OnceReports.{OnceRefused}
use Rattle.hh_files.specs.SummaryFiles.{bad_summary_of_files}
use Rattle.hh_files.specs.TableFiles.{bad_table_of_files}
use Rattle.hh_files.specs.TopFiles.{TopFilesRefused}
use Rattle.heavy_host.specs.Files.{AreRead}
use Rattle.heavy_host.specs.Replacing.{IsUnwritten}
use Rattle.heavy_arguments.specs.declared.verbs.Pass.{Pass}
use Rattle.heavy_arguments.specs.declared.verbs.Pass.TheVariants as pass
use Rattle.heavy_arguments.specs.declared.verbs.Verb.{Verb}
use Rattle.heavy_arguments.specs.declared.verbs.Verb.TheVariants as verb
use Rattle.heavy_requests.specs.Request.{bytes_of, first_file}
use Rattle.heavy_requests.specs.declared.request.Asked.{Asked}
use Rattle.heavy_answers.specs.Answers.{Answers, IsFileOf, OfRecords, gives_saved, refuses_contradictions}
use Rattle.heavy_answers.specs.Inputs.{AreRecords, standard_name}

-- the number of the input in this place after some saved files
abbrev pub input_number : ℕ → ℕ → ℕ
input_number saved place = min (saved + (place + 1)) (2 ^ 64 - 1)

-- the input in this place is not opened with this fault
pub record IsUnopenedAt (unopened : List ℕ → ℕ → ToolError → Type 0) (names : List (List ℕ)) (saved : ℕ) (e : ToolError) (place : ℕ) : Type 0 where
  pub within : place < length names
  pub fault : unopened (slice_index_or names place []) (input_number saved place) e

-- one of the inputs with these names, or else standard input, is not opened with this fault
abbrev pub IsUnopened : (List ℕ → ℕ → ToolError → Type 0) → List (List ℕ) → ℕ → ToolError → Type 0
IsUnopened unopened [] saved e = unopened standard_name 0 e
IsUnopened unopened (name ∷ names) saved e = (place : ℕ) × IsUnopenedAt unopened (name ∷ names) saved e place

-- there is no memory for an input, or no room where it is to be kept
abbrev pub IsUnkept : ToolError → Type 0
IsUnkept e = (e ≡ tool.Memory) ⊎ (e ≡ tool.ReadFault)

-- the inputs that are asked for can't be opened: there is no memory, the words say no layout, or an input is not opened
abbrev pub OpenRefused : (List ℕ → ℕ → ToolError → Type 0) → Asked → ToolError → Type 0
OpenRefused unopened asked e =
    (e ≡ tool.Memory) ⊎ LayoutRefused asked.records.layout e
    ⊎ IsUnopened unopened (map (λ w. w.items) asked.records.files.items) (length asked.files.items) e

-- the records that are asked for can't be had: the inputs can't be opened, or one can't be kept
abbrev pub SourcesRefused : (List ℕ → ℕ → ToolError → Type 0) → Asked → ToolError → Type 0
SourcesRefused unopened asked e = OpenRefused unopened asked e ⊎ IsUnkept e

-- the records that are asked for, where the number of workers is not refused, fail so
pub record RecordsFail (opens : Bool → List ℕ → Option (List ℕ) → Type 0) (asked : Asked) (Fails : Known → Type 0) : Type 0 where
  pub layout : Layout
  pub known : Known
  pub records : in_range asked.options.workers max_workers ≡ true → AreRecords opens asked.records layout known
  pub fails : Fails known

-- what a refusal to condense says, by workers over files or by one thread
abbrev pub CondenseFails : Bool → ℕ → List ℕ → Known → ToolError → Type 0
CondenseFails refuses workers file known e =
    CondenseFilesRefused refuses workers file known e
    ⊎ ((in_range workers max_workers ≡ true) × CondensePartRefused refuses file known e)

-- what a refusal to confirm says, by workers over files or by one thread
abbrev pub ConfirmFails : Bool → Share → ℕ → List ℕ → Known → ToolError → Type 0
ConfirmFails refuses share workers file known e =
    ConfirmFilesRefused refuses share workers file known e
    ⊎ ((in_range workers max_workers ≡ true) × ConfirmRowsRefused refuses share file known e)

-- what a refusal of a pass by this saved file says
abbrev pub FailsInOnePass : Pass → Asked → List ℕ → Bool → Known → ToolError → Type 0
FailsInOnePass pass.Summarise asked file refuses known e =
    RefusedAfter (bad_summary_of_files asked.options.k asked.options.workers) known e
FailsInOnePass pass.Table asked file refuses known e =
    RefusedAfter (bad_table_of_files asked.options.depth asked.options.width asked.options.workers) known e
FailsInOnePass pass.Condense asked file refuses known e = CondenseFails refuses asked.options.workers file known e
FailsInOnePass pass.Confirm asked file refuses known e =
    ConfirmFails refuses asked.options.threshold asked.options.workers file known e

-- no method has this name
abbrev pub NamesNoMethod : List ℕ → Type 0
NamesNoMethod word = (method : Method) → word ≡ word_of method → ⊥

-- what a refusal to open saved file n says: there is no memory, or its seal is wrong
abbrev pub SealFails : ℕ → List ℕ → ToolError → Type 0
SealFails n file e = (e ≡ tool.Memory) ⊎ ((f : SavedFault) × (unsealed file ≡ Err f) × (e ≡ tool.BadFile n f))

-- there is no memory for the first saved file, or it can't be read, or not be opened
abbrev pub IsUnread : (List ℕ → Option (List ℕ) → Type 0) → Asked → ToolError → Type 0
IsUnread gives asked e =
    (e ≡ tool.Memory) ⊎ ((e ≡ tool.FileFault 1) × gives (first_file asked) None)
    ⊎ ((file : List ℕ) × gives (first_file asked) (Some file) × SealFails 1 file e)

-- a pass is refused before its records are opened: a summary by its method, and others by their saved file
abbrev pub IsFileRefused : (List ℕ → Option (List ℕ) → Type 0) → Pass → Asked → ToolError → Type 0
IsFileRefused gives pass.Summarise asked e = NamesNoMethod asked.method.items × (e ≡ tool.BadMethod)
IsFileRefused gives pass.Table asked e = ⊥
IsFileRefused gives pass.Condense asked e = IsUnread gives asked e
IsFileRefused gives pass.Confirm asked e = IsUnread gives asked e

-- a pass is refused: before its records are opened, since these can't be had, or as they fail
abbrev pub PassFails : (List ℕ → Option (List ℕ) → Type 0) → (Bool → List ℕ → Option (List ℕ) → Type 0)
    → (List ℕ → ℕ → ToolError → Type 0) → Pass → Asked → Bool → ToolError → Type 0
PassFails gives opens unopened pass asked refuses e =
    IsFileRefused gives pass asked e
    ⊎ ((file : List ℕ) × IsFileOf gives pass asked file × (SourcesRefused unopened asked e
    ⊎ RecordsFail opens asked (λ known. FailsInOnePass pass asked file refuses known e)))

-- the greatest keys are refused: the inputs can't be opened, the workers are refused before anything is read, or behind them
-- an input can't be kept; or the library refuses them
abbrev pub TopFails : (Bool → List ℕ → Option (List ℕ) → Type 0) → (List ℕ → ℕ → ToolError → Type 0) → Asked → ToolError → Type 0
TopFails opens unopened asked e =
    OpenRefused unopened asked e ⊎ ((in_range asked.options.workers max_workers ≡ false) × (e ≡ tool.BadWorkers))
    ⊎ ((in_range asked.options.workers max_workers ≡ true) × IsUnkept e)
    ⊎ OfRecords opens asked.records (λ known. TopFilesRefused (record {
      n = asked.greatest;
      workers = asked.options.workers;
      memory = bytes_of asked.memory;
    }) known e)

-- the file in this place can't be read, which is reported by its number
pub record IsUnreadAt (gives : List ℕ → Option (List ℕ) → Type 0) (names : List (List ℕ)) (e : ToolError) (place : ℕ) : Type 0 where
  pub within : place < length names
  pub unread : gives (slice_index_or names place []) None
  pub number : e ≡ tool.FileFault (place + 1)

-- there is no memory for the saved files with these bytes, or the seal of one is wrong
abbrev pub SealsFail : List (List ℕ) → ToolError → Type 0
SealsFail files e =
    (e ≡ tool.Memory) ⊎ ((place : ℕ) × (place < length files) × SealFails (place + 1) (slice_index_or files place []) e)

-- there is no memory for the files with these names, one can't be read, one can't be opened, or they are refused
abbrev pub FilesFail : (List ℕ → Option (List ℕ) → Type 0) → List (List ℕ) → (List (List ℕ) → ToolError → Type 0) → ToolError → Type 0
FilesFail gives names Fails e =
    (e ≡ tool.Memory) ⊎ ((place : ℕ) × IsUnreadAt gives names e place)
    ⊎ ((files : List (List ℕ)) × AreRead gives names files × SealsFail files e)
    ⊎ ((files : List (List ℕ)) × AreRead (gives_saved gives) names files × Fails files e)

-- the first saved file can't be read, or is refused
abbrev pub SavedFails : (List ℕ → Option (List ℕ) → Type 0) → Asked → (List ℕ → ToolError → Type 0) → ToolError → Type 0
SavedFails gives asked Fails e =
    IsUnread gives asked e ⊎ ((file : List ℕ) × gives_saved gives (first_file asked) (Some file) × Fails file e)

-- the report can't begin: the inputs can't be opened, an option is refused, or behind the options an input can't be kept
abbrev pub BeginRefused : (List ℕ → ℕ → ToolError → Type 0) → Asked → ToolError → Type 0
BeginRefused unopened asked e =
    OpenRefused unopened asked e ⊎ (bad_option asked.options ≡ Some e) ⊎ ((bad_option asked.options ≡ None) × IsUnkept e)

-- the library refuses a report: of records that are read once, as was asked for, or of others
abbrev pub ReportRefused : Bool → Asked → Known → ToolError → Type 0
ReportRefused true asked known e = OnceRefused asked.options (bytes_of asked.memory) known e
ReportRefused false asked known e = StartRefused asked.options known e

-- the report is refused: it can't begin, or the library refuses it
abbrev pub ReportFails : (Bool → List ℕ → Option (List ℕ) → Type 0) → (List ℕ → ℕ → ToolError → Type 0) → Asked → ToolError → Type 0
ReportFails opens unopened asked e =
    BeginRefused unopened asked e ⊎ OfRecords opens asked.records (λ known. ReportRefused asked.once asked known e)

-- a command that does this is refused: by its options, by a file that can't be read, or as the library refuses what is asked for
abbrev pub Fails : (List ℕ → Option (List ℕ) → Type 0) → (Bool → List ℕ → Option (List ℕ) → Type 0)
    → (List ℕ → ℕ → ToolError → Type 0) → Verb → Asked → Bool → ToolError → Type 0
Fails gives opens unopened verb.Report asked refuses e = ReportFails opens unopened asked e
Fails gives opens unopened verb.Top asked refuses e = TopFails opens unopened asked e
Fails gives opens unopened (verb.Pass pass) asked refuses e = PassFails gives opens unopened pass asked refuses e
Fails gives opens unopened verb.Merge asked refuses e =
    FilesFail gives (map (λ w. w.items) asked.files.items) (λ files. Refuses (merged_files files)) e
Fails gives opens unopened verb.Ask asked refuses e =
    SavedFails gives asked (λ file. Refuses (answers_in asked.rows.output file (map (λ w. w.items) asked.keys.items))) e
Fails gives opens unopened verb.List asked refuses e = SavedFails gives asked SummaryRefused e
Fails gives opens unopened verb.Describe asked refuses e = SavedFails gives asked (λ file. Refuses (description asked.rows.output file)) e

-- what was asked for on the command line is refused before it is written, or its file can't be written
abbrev pub IsRefusedInFile : (List ℕ → Option (List ℕ) → Type 0) → (Bool → List ℕ → Option (List ℕ) → Type 0)
    → (List ℕ → ℕ → ToolError → Type 0) → Asked → ToolError → Type 0
IsRefusedInFile gives opens unopened asked e =
    Fails gives opens unopened asked.verb asked (refuses_contradictions asked.records) e ⊎ IsUnwritten e

-- what was asked for on the command line is refused. Nothing is written, but where the answer could not be: then a part of it
abbrev pub IsRefused : (List ℕ → Option (List ℕ) → Type 0) → (Bool → List ℕ → Option (List ℕ) → Type 0)
    → (List ℕ → ℕ → ToolError → Type 0) → Asked → Option Outside → Option (List ℕ) → Option (List ℕ) → ToolError → Type 0
IsRefused gives opens unopened asked outside old new e =
    (Fails gives opens unopened asked.verb asked (refuses_contradictions asked.records) e × Keeps old new)
    ⊎ ((bytes : List ℕ) × (n : ℕ) × Answers gives opens asked.verb asked (refuses_contradictions asked.records) outside bytes
    × TakesFirst old new bytes n × (e ≡ tool.WriteFault n))
