use Rattle.std.proofs.Common.{◌≡◌, ◌∙◌, ℕ, List, [], ◌∷◌, length, map, suc, ap, refl, sym}
use Rattle.std.specs.Prelude.{vec_items}
use Rattle.std.proofs.lemmas.List.{length-map, take_all}
use Rattle.std.proofs.lemmas.Simd.{map-map}
use Rattle.heavy_ffi.specs.Items.{items_from, items_of}
use Rattle.heavy_ffi.proofs.items.keys_of.Goals as goal

-- there are as many items as ends
items_count : (from : ℕ) (ends weights bytes : List ℕ) → length (items_from from ends weights bytes) ≡ length ends
items_count from [] weights bytes = refl
items_count from (end ∷ ends) weights bytes = ap suc (items_count end ends _ _)

pub returns-clause-keys : goal.returns-clause-keys
returns-clause-keys c =
    let items = c.in_ok-items.items.items in
    c.loop-key.invariant
    ∙ ap (map (λ item. item.0.now)) (take_all c.loop-key.key-index _ c.loop-key-test.false ∙ c.deref-key-items.ensures.value)
    ∙ sym (map-map (λ e. e.0) (λ item. (item.0.now, item.1)) items) ∙ ap (map (λ e. e.0)) c.in_ok-items.ensures

pub returns-clause-count : goal.returns-clause-count
returns-clause-count c =
    let own = c.loop-key.own.items in
    sym (length-map own vec_items) ∙ ap length (returns-clause-keys c)
    ∙ length-map (items_of c.args.keys.now c.args.ends.now []) (λ e. e.0) ∙ items_count 0 c.args.ends.now [] c.args.keys.now
