-- A saved file among others, and the summary that it holds.
use Rattle.std.specs.Prelude.{◌≡◌, ℕ, List, Result, Ok, Err, ⊤}
use Rattle.hh_summaries.specs.Counters.{SummaryView}
use Rattle.hh_countmin.specs.Table.{TableView}
use Rattle.hh_saved.specs.Reading.{head_at, saved_of}
use Rattle.hh_faults.specs.declared.saved.SavedFault.{SavedFault}
use Rattle.hh_faults.specs.declared.saved.SavedFault.TheVariants as saved
use Rattle.hh_saved.specs.declared.saved.Saved.{Saved}
use Rattle.hh_saved.specs.declared.saved.Saved.TheVariants.{Counters, Cells}
use Rattle.hh_faults.specs.declared.error.ToolError.{ToolError}
use Rattle.hh_faults.specs.declared.error.ToolError.TheVariants as tool

infixl 10 ◌>>=◌
abbrev pub ◌>>=◌ : {A B : Type 0}
    → Result A ToolError → (A → Result B ToolError) → Result B ToolError
(Ok x) >>= f = f x
(Err e) >>= f = Err e

-- a refusal is the one that is defined, unless memory ran out
abbrev pub Refuses : {X : Type 0} → Result X ToolError → ToolError → Type 0
Refuses defined tool.Memory = ⊤
Refuses defined fault = defined ≡ Err fault

abbrev pub in_file : {X : Type 0} → ℕ → Result X SavedFault → Result X ToolError
in_file n (Ok x) = Ok x
in_file n (Err f) = Err (tool.BadFile n f)

-- the value that the bytes of file n spell, or their first fault
abbrev pub file_of : ℕ → List ℕ → Result Saved ToolError
file_of n bytes = in_file n (saved_of bytes)

-- the refusal that a fault of file n is
abbrev pub file_fault : ℕ → SavedFault → ToolError
file_fault n saved.Memory = tool.Memory
file_fault n fault = tool.BadFile n fault

-- where file n fails at its head, so does what read it, whatever the memory
abbrev pub StopsAtHead : {X : Type 0} → ℕ → List ℕ → Result X ToolError → Type 0
StopsAtHead n file (Ok x) = (f : SavedFault) → head_at file ≡ Err f → ⊥
StopsAtHead n file (Err e) = (f : SavedFault) → head_at file ≡ Err f → e ≡ file_fault n f

-- the file holds this summary
abbrev pub HoldsSummary : List ℕ → SummaryView → Type 0
HoldsSummary file s = saved_of file ≡ Ok (Counters s)

-- the file holds this table
abbrev pub HoldsTable : List ℕ → TableView → Type 0
HoldsTable file t = saved_of file ≡ Ok (Cells t)

-- what a refusal to read a summary tells: of the file, and of its kind
abbrev pub SummaryRefused : List ℕ → ToolError → Type 0
SummaryRefused file (tool.BadFile n f) = (n ≡ 1) × (saved_of file ≡ Err f)
SummaryRefused file tool.NotCounters = (t : TableView) × (saved_of file ≡ Ok (Cells t))
SummaryRefused file tool.Memory = ⊤
SummaryRefused file _ = ⊥

-- what a refusal tells where a file's summary is read first: of the summary, or of what follows
abbrev pub RefusedFrom : List ℕ → (SummaryView → ToolError → Type 0) → ToolError → Type 0
RefusedFrom file Follows (tool.BadFile n f) = SummaryRefused file (tool.BadFile n f)
RefusedFrom file Follows tool.NotCounters = SummaryRefused file tool.NotCounters
RefusedFrom file Follows tool.Memory = ⊤
RefusedFrom file Follows e = (s : SummaryView) × HoldsSummary file s × Follows s e
