-- Keys that lie in one slice, one after the other, and items of such keys.
use Rattle.std.specs.Prelude.{◌+◌, ◌-◌, ◌==◌, ◌&&◌, ◌||◌, nat_le, ℕ, List, [], ◌∷◌, length, map, take, drop, slice_index_or, Option, Some, None, if◌then◌else◌}
use Rattle.hh_stream.specs.Weights.{Bytes, Entry}
use Rattle.heavy_ffi.specs.declared.fault.Fault.{Fault}

-- the items of keys that are the front of these bytes and end there, where the one before them ends
-- at `from`; each has its weight, and those after the last weight have 1
abbrev pub items_from : ℕ → List ℕ → List ℕ → List ℕ → List Entry
items_from from [] weights bytes = []
items_from from (end ∷ ends) weights bytes =
    (take (end - from) bytes, slice_index_or weights 0 1)
    ∷ items_from end ends (drop 1 weights) (drop (end - from) bytes)

-- the items of keys that end there in these bytes
abbrev pub items_of : List ℕ → List ℕ → List ℕ → List Entry
items_of bytes ends weights = items_from 0 ends weights bytes

-- the first of the ends from number n on that is before the end before it, or after `len` bytes
abbrev pub bad_end : ℕ → ℕ → ℕ → List ℕ → Option ℕ
bad_end n from len [] = None
bad_end n from len (end ∷ ends) =
    if nat_le from end && nat_le end len then bad_end (n + 1) end len ends else Some n

-- the kinds of fault of an end, and of a number of weights that is neither 0 nor that of the ends
abbrev pub bad_end_kind : ℕ
bad_end_kind = 20

abbrev pub bad_weight_count_kind : ℕ
bad_weight_count_kind = 21

-- the fault of an end of this number, or else of the number of weights
abbrev pub shape_fault_of : Option ℕ → ℕ → ℕ → Option Fault
shape_fault_of (Some n) count weights = Some (record { kind = bad_end_kind; cause = 0; number = n })
shape_fault_of None count weights =
    if weights == 0 || weights == count then None
    else Some (record { kind = bad_weight_count_kind; cause = 0; number = 0 })

-- the fault of ends or weights that keys of len bytes in all can't have
abbrev pub shape_fault : ℕ → List ℕ → List ℕ → Option Fault
shape_fault len ends weights = shape_fault_of (bad_end 1 0 len ends) (length ends) (length weights)

-- the keys that end there in these bytes
abbrev pub keys_of : List ℕ → List ℕ → List Bytes
keys_of bytes ends = map (λ e. e.0) (items_of bytes ends [])
