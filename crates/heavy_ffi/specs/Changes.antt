-- Changes of the value that a handle has.
use Rattle.std.specs.Prelude.{◌≡◌, List, [], ◌∷◌, length, Option, Some, None, Ok}
use Rattle.hh_faults.specs.declared.error.ToolError.{ToolError}
use Rattle.hh_saved.specs.Reading.{head_at}
use Rattle.hh_saved.specs.declared.saved.Saved.{Saved}
use Rattle.hh_commands.specs.Files.{Refuses}
use Rattle.hh_commands.specs.Merge.{merged_from}
use Rattle.hh_library.specs.Add.{added_to}
use Rattle.hh_library.specs.LaidOut.{AddRecordsRefused, AddsRecords, text_laid}
use Rattle.heavy_ffi.specs.Items.{items_of, keys_of, shape_fault}
use Rattle.heavy_ffi.specs.Layouts.{Laid, LaidRefused, layout_fault}
use Rattle.heavy_ffi.specs.Outcomes.{fault_at}
use Rattle.heavy_ffi.specs.declared.change.Change.{Change}
use Rattle.heavy_ffi.specs.declared.change.Change.TheVariants.{File, Item, Items, Records}
use Rattle.heavy_ffi.specs.declared.fault.Fault.{Fault}

-- what is wrong with the words of a change
abbrev pub change_fault : Change → Option Fault
change_fault (Items keys ends weights) = shape_fault (length keys.now) ends.now weights.now
change_fault (Records t hash) = layout_fault t.layout.now (length t.columns.now) t.ends.now
change_fault _ = None

-- a change of a value makes another of it
abbrev pub Changes : Change → Saved → Saved → Type 0
Changes (Item key weight) v w = added_to v ((key.now, weight) ∷ []) ≡ Ok w
Changes (Items keys ends weights) v w = added_to v (items_of keys.now ends.now weights.now) ≡ Ok w
Changes (Records t hash) v w = Laid t.layout.now (keys_of t.columns.now t.ends.now) (λ l. AddsRecords v (text_laid l t.text.now) w)
Changes (File file) v w = merged_from 2 v (file.now ∷ []) ≡ Ok w

-- what a refusal of the change tells
abbrev pub ChangeRefused : Change → Saved → ToolError → Type 0
ChangeRefused (Item key weight) v = Refuses (added_to v ((key.now, weight) ∷ []))
ChangeRefused (Items keys ends weights) v = Refuses (added_to v (items_of keys.now ends.now weights.now))
ChangeRefused (Records t hash) v =
    LaidRefused t.layout.now (keys_of t.columns.now t.ends.now) (λ l. AddRecordsRefused v (text_laid l t.text.now))
ChangeRefused (File file) v = Refuses (merged_from 2 v (file.now ∷ []))

-- the value that a change makes of this one is there
abbrev pub LeavesChanged : Change → Saved → List (Option Saved) → Type 0
LeavesChanged change v values = (w : Saved) × Changes change v w × (values ≡ Some w ∷ [])

-- the refusal of a file that fails at its head
abbrev pub bad_head : Change → Option ToolError
bad_head (File file) = fault_at 2 (head_at file.now)
bad_head _ = None
