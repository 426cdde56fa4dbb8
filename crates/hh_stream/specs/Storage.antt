-- Where the bytes of a key lie.
use Rattle.std.specs.Prelude.{◌<◌, ◌≤◌, length, take}
use Rattle.hh_stream.specs.declared.key.Storage.{Storage}
use Rattle.hh_stream.specs.declared.key.Storage.TheVariants.{Inline, Heap}
use Rattle.hh_stream.specs.Weights.{Bytes, inline_len}

-- the bytes that are stored
abbrev pub stored_bytes : Storage → Bytes
stored_bytes (Inline len short) = take len short.bytes
stored_bytes (Heap bytes) = bytes.items

-- bytes lie in the value exactly where it has room for them
abbrev pub IsStorage : Storage → Type 0
IsStorage (Inline len short) = len ≤ inline_len
IsStorage (Heap bytes) = inline_len < length bytes.items
