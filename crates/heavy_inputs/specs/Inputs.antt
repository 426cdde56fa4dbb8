-- The bytes of inputs that are read at any place.
use Rattle.std.specs.Prelude.{ℕ, List, Option, Some, None, if◌then◌else◌}
use Rattle.heavy_inputs.specs.declared.kept_pipe.KeptBytes.{KeptBytes}
use Rattle.heavy_inputs.specs.declared.kept_pipe.KeptBytes.TheVariants as kept
use Rattle.heavy_inputs.specs.declared.kept_pipe.KeptPipe.{KeptPipe}
use Rattle.heavy_inputs.specs.declared.open_file.OpenFile.{OpenFile}
use Rattle.heavy_inputs.specs.declared.open_file.OpenFile.TheVariants as input

-- no contract knows the bytes of a file
abbrev pub bytes_of : KeptBytes → Option (List ℕ)
bytes_of (kept.Memory bytes) = Some bytes.items
bytes_of (kept.File file len) = None

-- all that a pipe gave, where it came to its end
abbrev pub kept_bytes : KeptPipe → Option (List ℕ)
kept_bytes pipe = if pipe.is_whole then bytes_of pipe.bytes else None

-- no contract knows the bytes of a file of the disk: it may change between two reads
abbrev pub open_bytes : OpenFile → Option (List ℕ)
open_bytes (input.Disk file) = None
open_bytes (input.Kept pipe) = kept_bytes pipe
