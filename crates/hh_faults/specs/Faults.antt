-- The faults that other faults are.
use Rattle.hh_faults.specs.declared.error.ToolError.{ToolError}
use Rattle.hh_faults.specs.declared.error.ToolError.TheVariants as tool
use Rattle.hh_faults.specs.declared.records.TextError.{TextError}
use Rattle.hh_faults.specs.declared.records.TextError.TheVariants as text

-- the fault of a command whose input was not read
abbrev pub text_fault : TextError → ToolError
text_fault text.ReadFault = tool.ReadFault
text_fault text.NoColumn = tool.NoColumn
text_fault (text.BadRecord n c) = tool.BadRecord n c
text_fault text.Memory = tool.Memory
