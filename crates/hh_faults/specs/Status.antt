-- The exit status that tells each fault.
use Rattle.std.specs.Prelude.{ℕ}
use Rattle.hh_faults.specs.declared.error.ToolError.{ToolError}
use Rattle.hh_faults.specs.declared.error.ToolError.TheVariants as tool

-- 1: a device's fault, 2: usage, 3: refused input, 4: memory
abbrev pub status_of : ToolError → ℕ
status_of tool.BadDepth = 2
status_of tool.BadK = 2
status_of tool.BadWorkers = 2
status_of tool.BadWidth = 2
status_of tool.BadPieces = 2
status_of (tool.BadTree f) = 2
status_of tool.BadMethod = 2
status_of tool.ReadFault = 1
status_of (tool.BadRecord n c) = 3
status_of (tool.BadFile n f) = 3
status_of (tool.MixedKinds n) = 3
status_of (tool.CannotMerge n c) = 3
status_of (tool.BadKey n c) = 3
status_of tool.NotCounters = 3
status_of tool.TotalDiffers = 3
status_of (tool.WriteFault n) = 1
status_of (tool.FileFault n) = 1
status_of tool.Memory = 4
status_of tool.BadThreshold = 2
status_of tool.BadDelimiter = 2
status_of tool.BadColumn = 2
status_of tool.NoColumn = 3
status_of tool.WeightOutside = 3
status_of (tool.TopUncertain n m) = 3
status_of (tool.ReportUncertain n m) = 3
