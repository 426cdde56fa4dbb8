-- The text stands for the bytes so far.
use Rattle.std.proofs.Common.{◌≡◌, take}
use Rattle.std.specs.String.{string_bytes}
use Rattle.heavy_host.specs.Words.{word_of}
use Rattle.heavy_host.proofs.words.text_of.Given as goal

abbrev pub invariant-loop-byte : goal.invariant-loop-byte
invariant-loop-byte l = word_of (string_bytes l.text) ≡ take l.byte-index l.word
