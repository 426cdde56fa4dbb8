-- Which faults a call answers.
use Rattle.std.specs.Prelude.{⊤}
use Rattle.hh_stream.specs.declared.fault.StreamFault.{StreamFault}
use Rattle.hh_stream.specs.declared.fault.StreamFault.TheVariants as fault

-- those of bytes that are no key
abbrev pub IsKeyFault : StreamFault → Type 0
IsKeyFault fault.Empty = ⊤
IsKeyFault fault.TooLong = ⊤
IsKeyFault fault.Memory = ⊤
IsKeyFault _ = ⊥

-- those of an item that is not pushed
abbrev pub IsPushFault : StreamFault → Type 0
IsPushFault fault.ZeroWeight = ⊤
IsPushFault fault.TotalTooLarge = ⊤
IsPushFault fault.Memory = ⊤
IsPushFault _ = ⊥

-- those of a number of pieces
abbrev pub IsPiecesFault : StreamFault → Type 0
IsPiecesFault fault.NoPieces = ⊤
IsPiecesFault fault.TooManyPieces = ⊤
IsPiecesFault fault.Memory = ⊤
IsPiecesFault _ = ⊥

-- those of the lengths of pieces
abbrev pub IsLengthsFault : StreamFault → Type 0
IsLengthsFault fault.WrongSum = ⊤
IsLengthsFault other = IsPiecesFault other
