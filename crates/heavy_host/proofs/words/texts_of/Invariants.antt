-- The texts stand for the words so far.
use Rattle.std.proofs.Common.{◌≡◌, map, take}
use Rattle.std.specs.String.{string_bytes}
use Rattle.heavy_host.specs.Words.{word_of}
use Rattle.heavy_host.proofs.words.texts_of.Given as goal

abbrev pub invariant-loop-word : goal.invariant-loop-word
invariant-loop-word l =
    map (λ t. word_of (string_bytes t)) l.texts.items ≡ map (λ w. w.items) (take l.word-index l.words)
