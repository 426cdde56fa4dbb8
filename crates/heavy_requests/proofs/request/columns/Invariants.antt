-- The words so far are the columns of the texts so far.
use Rattle.std.proofs.Common.{◌≡◌, map, take}
use Rattle.std.specs.List.{flat_map}
use Rattle.heavy_requests.specs.Request.{columns_in}
use Rattle.heavy_requests.proofs.request.columns.Given as goal

abbrev pub invariant-loop-text : goal.invariant-loop-text
invariant-loop-text l = map (λ w. w.items) l.words.items
    ≡ flat_map columns_in (map (λ t. t.now) (take l.text-index l.texts))
