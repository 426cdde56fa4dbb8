-- The numbers that tell a fault to C.
use Rattle.std.specs.Prelude.{◌≡◌, ◌⊎◌, ℕ}
use Rattle.hh_faults.specs.declared.saved.SavedFault.{SavedFault}
use Rattle.hh_faults.specs.declared.saved.SavedFault.TheVariants as saved
use Rattle.hh_faults.specs.declared.records.BadRecordCause.{BadRecordCause}
use Rattle.hh_faults.specs.declared.records.BadRecordCause.TheVariants as bad
use Rattle.hh_faults.specs.Status.{status_of}
use Rattle.hh_faults.specs.declared.error.MergeCause.{MergeCause}
use Rattle.hh_faults.specs.declared.error.MergeCause.TheVariants as merge
use Rattle.hh_faults.specs.declared.error.KeyCause.{KeyCause}
use Rattle.hh_faults.specs.declared.error.KeyCause.TheVariants as key
use Rattle.hh_faults.specs.declared.error.ToolError.{ToolError}
use Rattle.hh_faults.specs.declared.error.ToolError.TheVariants as tool
use Rattle.heavy_ffi.specs.declared.fault.Fault.{Fault}

-- which fault it is
abbrev pub kind_of : ToolError → ℕ
kind_of tool.BadDepth = 1
kind_of tool.BadK = 2
kind_of tool.BadWorkers = 3
kind_of tool.BadWidth = 4
kind_of tool.BadPieces = 5
kind_of (tool.BadTree f) = 6
kind_of tool.BadMethod = 7
kind_of tool.ReadFault = 8
kind_of (tool.BadRecord n c) = 9
kind_of (tool.BadFile n f) = 10
kind_of (tool.MixedKinds n) = 11
kind_of (tool.CannotMerge n c) = 12
kind_of (tool.BadKey n c) = 13
kind_of tool.NotCounters = 14
kind_of tool.TotalDiffers = 15
kind_of (tool.WriteFault n) = 16
kind_of (tool.FileFault n) = 17
kind_of tool.Memory = 18
kind_of tool.BadThreshold = 19
kind_of tool.BadDelimiter = 22
kind_of tool.BadColumn = 23
kind_of tool.NoColumn = 24
kind_of tool.WeightOutside = 25
kind_of (tool.TopUncertain n m) = 27
kind_of (tool.ReportUncertain n m) = 29

abbrev pub record_cause : BadRecordCause → ℕ
record_cause bad.FieldCount = 1
record_cause bad.EmptyKey = 2
record_cause bad.KeyTooLong = 3
record_cause bad.BadWeight = 4
record_cause bad.ZeroWeight = 5
record_cause bad.TotalTooLarge = 6

abbrev pub file_cause : SavedFault → ℕ
file_cause saved.Truncated = 1
file_cause saved.BadMagic = 2
file_cause saved.BadKind = 3
file_cause saved.BadK = 4
file_cause saved.BadCount = 5
file_cause saved.BadKey = 6
file_cause saved.KeyOrder = 7
file_cause saved.BadCounter = 8
file_cause saved.SumTooLarge = 9
file_cause saved.BadWidth = 10
file_cause saved.BadDepth = 11
file_cause saved.BadCoefficient = 12
file_cause saved.TotalTooLarge = 13
file_cause saved.RowSum = 14
file_cause saved.Trailing = 15
file_cause saved.Memory = 16
file_cause saved.Damaged = 17
file_cause saved.BadDecimals = 18

abbrev pub merge_cause : MergeCause → ℕ
merge_cause merge.DifferentK = 1
merge_cause merge.DifferentFamily = 2
merge_cause merge.DifferentWidth = 3
merge_cause merge.TotalTooLarge = 4

abbrev pub key_cause : KeyCause → ℕ
key_cause key.Empty = 1
key_cause key.TooLong = 2

-- the cause of a fault that has one, and else 0
abbrev pub cause_of : ToolError → ℕ
cause_of (tool.BadRecord n c) = record_cause c
cause_of (tool.BadFile n f) = file_cause f
cause_of (tool.CannotMerge n c) = merge_cause c
cause_of (tool.BadKey n c) = key_cause c
cause_of _ = 0

-- the number of the record, file or key that a fault is of, from 1 on, or of the keys that are certain, and else 0
abbrev pub number_of : ToolError → ℕ
number_of (tool.BadRecord n c) = n
number_of (tool.BadFile n f) = n
number_of (tool.MixedKinds n) = n
number_of (tool.CannotMerge n c) = n
number_of (tool.BadKey n c) = n
number_of (tool.TopUncertain n m) = n
number_of _ = 0

-- the status and the numbers of a refusal
pub record IsTold (code : ℕ) (fault : Fault) (refusal : ToolError) : Type 0 where
  pub status : code ≡ status_of refusal
  pub kind : fault.kind ≡ kind_of refusal
  pub cause : fault.cause ≡ cause_of refusal
  pub number : fault.number ≡ number_of refusal

-- the numbers that tell no fault
abbrev pub no_fault : Fault
no_fault = record { kind = 0; cause = 0; number = 0 }

-- the kind of fault of a handle that has no value
abbrev pub no_value_kind : ℕ
no_value_kind = 28

-- the numbers that tell it
abbrev pub no_value : Fault
no_value = record { kind = no_value_kind; cause = 0; number = 0 }

-- a call that is done, or whose room is too small, tells no fault
abbrev pub TellsNone : ℕ → Fault → Type 0
TellsNone status fault = (status ≡ 0) ⊎ (status ≡ 5) → fault ≡ no_fault
