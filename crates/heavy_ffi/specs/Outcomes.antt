-- What a call leaves that gives its answer in a room.
use Rattle.std.specs.Prelude.{◌≡◌, ◌≢◌, ◌<◌, ◌≤◌, ℕ, List, [], ◌∷◌, length, take, Option, Some, None, Result, Ok, Err, IfSome, IsOkAnd}
use Rattle.std.specs.Global.{Vec}
use Rattle.hh_saved.specs.Reading.{head_at}
use Rattle.hh_faults.specs.declared.saved.SavedFault.{SavedFault}
use Rattle.hh_saved.specs.Spelling.{spelling_of}
use Rattle.hh_saved.specs.declared.format.Version.TheVariants as version
use Rattle.hh_saved.specs.declared.saved.Saved.{Saved}
use Rattle.hh_commands.specs.Files.{file_fault}
use Rattle.hh_faults.specs.declared.error.ToolError.{ToolError}
use Rattle.heavy_ffi.specs.Faults.{IsTold, TellsNone, no_value}
use Rattle.heavy_ffi.specs.declared.fault.Fault.{Fault}
use Rattle.heavy_ffi.specs.declared.room.Bounds.{Bounds}

-- an answer of which P holds is longer than the room, and this is its length
abbrev pub IsTooSmall : {X : Type 0} → (List X → Type 0) → List X → ℕ → Type 0
IsTooSmall {X = X} P room needed =
    (answer : List X) × P answer × (needed ≡ length answer) × (length room < needed)

-- a refusal of which Q holds is given, by the status and in numbers
abbrev pub IsRefused : (ToolError → Type 0) → ℕ → Fault → Type 0
IsRefused Q status fault = (refusal : ToolError) × Q refusal × IsTold status fault refusal

-- what a call leaves whose answers are those of which P holds, and its refusals those of which Q
-- holds: a status, the room for the answer before and after, the answer's length, and a fault
pub record IsOutcome {X : Type 0} (P : List X → Type 0) (Q : ToolError → Type 0)
    (status : ℕ) (old new : List X) (needed : ℕ) (fault : Fault) : Type 0 where
  pub done : status ≡ 0 → P (take needed new)
  pub within : status ≡ 0 → needed ≤ length old
  pub small : status ≡ 5 → IsTooSmall P old needed
  pub refused : status ≢ 0 → status ≢ 5 → IsRefused Q status fault
  pub unchanged : status ≢ 0 → new ≡ old
  pub no_fault : TellsNone status fault

-- where file n fails at its head, the call tells so, whatever the memory
abbrev pub TellsHeadOf : ℕ → List ℕ → ℕ → Fault → Type 0
TellsHeadOf n file status fault = (f : SavedFault) → head_at file ≡ Err f → IsTold status fault (file_fault n f)

-- and so it is with a file that is the only one
abbrev pub TellsHead : List ℕ → ℕ → Fault → Type 0
TellsHead file status fault = TellsHeadOf 1 file status fault

-- the refusal of file n, which fails at its head
abbrev pub fault_at : ℕ → Result (List ℕ) SavedFault → Option ToolError
fault_at n (Ok rest) = None
fault_at n (Err f) = Some (file_fault n f)

-- these elements are those that came
abbrev pub IsGiven : {X : Type 0} → Result (Vec X) ToolError → List X → Type 0
IsGiven given xs = IsOkAnd given (λ v. xs ≡ v.items)

-- two numbers as a pair
abbrev pub both_of : Bounds → ℕ × ℕ
both_of bounds = (bounds.low, bounds.high)

-- what a call leaves whose arguments are bad, which is tested first, or else what then holds
pub record AnswersAfter {X : Type 0} (bad : Option Fault) (Answers : ℕ → List X → ℕ → Fault → Type 0)
    (status : ℕ) (old new : List X) (needed : ℕ) (fault : Fault) : Type 0 where
  pub passed : bad ≡ None → Answers status new needed fault
  pub tested : IfSome bad (λ b. (status ≡ 2) × (fault ≡ b) × (new ≡ old))

-- what a call on a handle leaves that has a value, of which P and Q hold with the answer and the refusal, or none
pub record AnswersOn {X : Type 0} (held : Option Saved) (P : Saved → List X → Type 0) (Q : Saved → ToolError → Type 0)
    (status : ℕ) (old new : List X) (needed : ℕ) (fault : Fault) : Type 0 where
  pub outcome : IfSome held (λ value. IsOutcome (P value) (Q value) status old new needed fault)
  pub nothing : held ≡ None → (status ≡ 2) × (fault ≡ no_value) × (new ≡ old)

-- the value that is defined is there
abbrev pub Becomes : Result Saved ToolError → List (Option Saved) → Type 0
Becomes defined values = (v : Saved) × (defined ≡ Ok v) × (values ≡ Some v ∷ [])

-- the saved file of a value
abbrev pub file_with : Saved → List ℕ
file_with v = spelling_of version.Two v
