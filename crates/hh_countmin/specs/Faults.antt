-- Which faults a call answers.
use Rattle.std.specs.Prelude.{⊤}
use Rattle.hh_countmin.specs.declared.fault.TableFault.{TableFault}
use Rattle.hh_countmin.specs.declared.fault.TableFault.TheVariants as fault

-- those of a family that is drawn
abbrev pub IsDrawFault : TableFault → Type 0
IsDrawFault fault.BadDepth = ⊤
IsDrawFault fault.Memory = ⊤
IsDrawFault _ = ⊥

-- those of a family with given coefficients
abbrev pub IsPartsFault : TableFault → Type 0
IsPartsFault fault.BadCoefficient = ⊤
IsPartsFault other = IsDrawFault other

-- those of a new table
abbrev pub IsNewFault : TableFault → Type 0
IsNewFault fault.BadWidth = ⊤
IsNewFault fault.Memory = ⊤
IsNewFault _ = ⊥

-- those of a table that is not merged
abbrev pub IsMergeFault : TableFault → Type 0
IsMergeFault fault.DifferentFamily = ⊤
IsMergeFault fault.DifferentWidth = ⊤
IsMergeFault fault.TotalTooLarge = ⊤
IsMergeFault _ = ⊥
