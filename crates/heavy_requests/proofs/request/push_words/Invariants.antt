-- The words have those of the texts so far more.
use Rattle.std.proofs.Common.{◌≡◌, ◌++◌, map, take}
use Rattle.heavy_host.specs.Words.{word_of}
use Rattle.heavy_requests.proofs.request.push_words.Given as goal

abbrev pub invariant-loop-text : goal.invariant-loop-text
invariant-loop-text l = map (λ w. w.items) l.words.items
    ≡ map (λ w. w.items) l.initial.words.items ++ map word_of (map (λ t. t.now) (take l.text-index l.texts))
