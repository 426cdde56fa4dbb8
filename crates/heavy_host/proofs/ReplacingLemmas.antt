-- Files that are replaced.
use Rattle.std.proofs.Common.{◌≡◌, ℕ, List, [], Option, Some, None, ap, subst}
use Rattle.std.specs.Io.KnownBytes.{Appends}
use Rattle.heavy_host.specs.Replacing.{IsReplaced}

-- bytes that are written to an empty file are its bytes
written_empty : (written : Option (List ℕ)) (bytes : List ℕ) → Appends (Some []) written bytes → written ≡ Some bytes
written_empty None bytes more = absurd more
written_empty (Some held) bytes more = ap Some more

-- a new file that was empty has the bytes that were written to it
pub IsReplaced_written : (old made written : Option (List ℕ)) (bytes : List ℕ) → IsReplaced old made []
    → Appends made written bytes → IsReplaced old written bytes
IsReplaced_written None made written bytes is more = tt
IsReplaced_written (Some held) made written bytes is more =
    written_empty written bytes (subst (λ known. Appends known written bytes) is more)
