-- What a handle owns: the memory of a value, or nothing.
use mir.Syntax.{Ty}
use base.Fml.{Fml, ftrue}
use base.Stored.{Coded}
use denote.RattleType.{RattleType}
use denote.RawPtr.{Ptr}
use Rattle.std.specs.Prelude.{Option, Some, None}
use Rattle.std.specs.Box.Ownership.{box_owns}
use Rattle.std.specs.Coded.{coded_option}
use Rattle.std.specs.Global.{Global}
use Rattle.std_heap.specs.contracts.GlobalAllocator.TheImpl.{ghosts}
use Rattle.hh_library.specs.contracts.accumulator.Accumulator.{the_row}

-- the box of a value, or nothing
abbrev pub held_owns : (Ty → Ptr → Fml) → (R : RattleType) → Ptr → Option R.Denot → Fml
held_owns holds R p None = ftrue
held_owns holds R p (Some x) = box_owns holds R p x

-- the box of a saved file's value, or nothing
abbrev pub place_owns : Global → Ptr → Option the_row.Denot → Fml
place_owns alloc = held_owns (ghosts.dealloc_token alloc) the_row

-- how such a value is stored
abbrev pub value_coded : Coded (Option the_row.Denot)
value_coded = coded_option the_row.coded
