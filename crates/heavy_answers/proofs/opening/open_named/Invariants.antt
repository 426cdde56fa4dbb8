-- The inputs so far are open, and it is known whether one of them is standard input.
use Rattle.std.proofs.Common.{◌≡◌, false, map, take}
use Rattle.heavy_answers.specs.Inputs.{AreInputs}
use Rattle.heavy_answers.proofs.InputLemmas.{takes}
use Rattle.heavy_answers.proofs.opening.open_named.Given as goal

abbrev pub invariant-loop-place : goal.invariant-loop-place
invariant-loop-place g l =
    AreInputs (g.H.Host.opens l.host) false (map (λ w. w.items) (take l.place l.names)) (map g.H.Host.text l.inputs.items)
    × (l.is_taken ≡ takes false (map (λ w. w.items) (take l.place l.names)))
