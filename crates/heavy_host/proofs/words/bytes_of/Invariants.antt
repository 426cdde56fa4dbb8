-- The bytes are those of the characters so far.
use Rattle.std.proofs.Common.{◌≡◌, flat_map}
use Rattle.heavy_host.specs.Words.{spelled_bytes}
use Rattle.heavy_host.proofs.words.bytes_of.Given as goal

abbrev pub invariant-loop-character : goal.invariant-loop-character
invariant-loop-character l = l.bytes.items ≡ flat_map spelled_bytes l.yielded
