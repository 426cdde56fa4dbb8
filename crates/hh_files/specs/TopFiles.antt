-- The greatest keys of files, which are read more than once, so that of files whose bytes no contract knows nothing is said
-- of the keys.
use Rattle.std.specs.Prelude.{◌≡◌, ℕ, ◌/◌, ◌⊎◌, true, List, Ok}
use Rattle.hh_stream.specs.Ranges.{in_range}
use Rattle.hh_stream.specs.Weights.{Entry, total_of}
use Rattle.hh_top.specs.Rooms.{counted_in, shared_room, whole_room}
use Rattle.hh_top.specs.Top.{IsUncertain, ShortlistView, stand_out, top}
use Rattle.hh_workers.specs.Workers.{max_workers}
use Rattle.hh_records.specs.Refusals.{RecordsRefused}
use Rattle.hh_records.specs.Streams.{Known, ReadsAs}
use Rattle.hh_rows.specs.Printed.{printed_rows}
use Rattle.hh_rows.specs.declared.printed.RowOptions.{RowOptions}
use Rattle.hh_files.specs.FilePasses.{BehindWorkers, IfKnown}
use Rattle.hh_files.specs.declared.topping.TopOptions.{TopOptions}
use Rattle.hh_faults.specs.declared.error.ToolError.{ToolError}
use Rattle.hh_faults.specs.declared.error.ToolError.TheVariants as tool

-- a shortlist tells the n greatest keys, whatever those weigh that can be among them: nothing was lost, or n counters stand out
abbrev pub TellsTop : ShortlistView → Type 0
TellsTop list = (list.tally.lost ≡ 0) ⊎ (stand_out list ≡ true)

-- it tells them by what each worker has of the memory that all share evenly, or it is what one worker tells by all of it
abbrev pub IsSharedRoom : TopOptions → ShortlistView → Type 0
IsSharedRoom options list =
    (TellsTop list × (list.tally.room ≡ shared_room (options.memory / options.workers)))
    ⊎ ((list.k ≡ counted_in options.memory) × (list.tally.room ≡ whole_room options.memory))

-- where the records' bytes are known, these are their total and their n greatest keys
abbrev pub FindsTop : ℕ → Known → ℕ → List Entry → Type 0
FindsTop n known total keys =
    IfKnown known ((xs : List Entry) × ReadsAs known (Ok xs) × (total ≡ total_of xs) × (keys ≡ top n xs))

-- where the records' bytes are known, these are the rows of their n greatest keys
abbrev pub PrintsTop : RowOptions → ℕ → Known → List ℕ → Type 0
PrintsTop r n known rows =
    IfKnown known ((xs : List Entry) × ReadsAs known (Ok xs) × (rows ≡ printed_rows (total_of xs) r (top n xs)))

-- what a refusal of the n greatest keys tells: how many of them are certain where k keys are counted, or of the records
abbrev pub TopRefused : ℕ → ℕ → Known → ToolError → Type 0
TopRefused n k known (tool.TopUncertain certain most) =
    IfKnown known ((xs : List Entry) × ReadsAs known (Ok xs) × IsUncertain xs n k certain most)
TopRefused n k known e = RecordsRefused known e

-- what a refusal by a shortlist tells, where it has counted as many keys as it can; where it tells the n greatest keys that
-- holds for each number of them, so that no such refusal comes of them
abbrev pub ListRefused : ShortlistView → Known → ToolError → Type 0
ListRefused list known e = (k : ℕ) → TellsTop list ⊎ (k ≡ list.k) → TopRefused list.n k known e

-- the workers are tested before that; how many keys are counted is decided by the memory alone
abbrev pub TopFilesRefused : TopOptions → Known → ToolError → Type 0
TopFilesRefused options known e =
    BehindWorkers (in_range options.workers max_workers) (TopRefused options.n (counted_in options.memory) known) e
