use Rattle.std.proofs.Common.{◌≡◌, map, take}
use Rattle.std.specs.Prelude.{vec_items}
use Rattle.heavy_ffi.proofs.items.keys_of.Given as goal

-- the keys that are copied
abbrev pub invariant-loop-key : goal.invariant-loop-key
invariant-loop-key l = map vec_items l.own.items ≡ map (λ item. item.0.now) (take l.key-index l.key-items)
