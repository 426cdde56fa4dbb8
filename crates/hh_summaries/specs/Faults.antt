-- Which faults a call answers.
use Rattle.std.specs.Prelude.{⊤}
use Rattle.hh_summaries.specs.declared.fault.SummaryFault.{SummaryFault}
use Rattle.hh_summaries.specs.declared.fault.SummaryFault.TheVariants as fault

-- those of a new summary
abbrev pub IsNewFault : SummaryFault → Type 0
IsNewFault fault.BadK = ⊤
IsNewFault fault.Memory = ⊤
IsNewFault _ = ⊥

-- those of an item that is not added
abbrev pub IsAddFault : SummaryFault → Type 0
IsAddFault fault.TotalTooLarge = ⊤
IsAddFault fault.Memory = ⊤
IsAddFault _ = ⊥

-- those of a summary that is not merged
abbrev pub IsMergeFault : SummaryFault → Type 0
IsMergeFault fault.DifferentK = ⊤
IsMergeFault other = IsAddFault other
