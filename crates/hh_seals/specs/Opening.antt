-- Opening a sealed text, with the first fault that is met.
use Rattle.std.specs.Prelude.{ℕ, ◌-◌, List, length, take, drop, slice_index_or, codes, Result, Ok, Err, nat_eq, nat_lt, if◌then◌else◌}
use Rattle.std.specs.List.{starts_with}
use Rattle.std.specs.Str.{bytes_eq}
use Rattle.hh_faults.specs.declared.saved.SavedFault.{SavedFault}
use Rattle.hh_faults.specs.declared.saved.SavedFault.TheVariants as faults
use Rattle.hh_saved.specs.Reading.{◌>>=◌}
use Rattle.sha2.specs.Sha256.{sha256}
use Rattle.hh_seals.specs.Sealing.{max_decimals, sealed_len}

-- the bytes before the digest
abbrev pub content_in : List ℕ → List ℕ
content_in bytes = take (length bytes - 32) bytes

-- the digest
abbrev pub digest_in : List ℕ → List ℕ
digest_in bytes = drop (length bytes - 32) bytes

-- the decimals of a text that is as long as a sealed one
abbrev pub decimals_in : List ℕ → ℕ
decimals_in bytes = slice_index_or bytes 4 0

-- the decimals and the spelling of such a text, or its fault
abbrev pub contents_in : List ℕ → Result (ℕ × List ℕ) SavedFault
contents_in bytes =
    if bytes_eq (sha256 (content_in bytes)) (digest_in bytes) then
    (if nat_lt max_decimals (decimals_in bytes) then Err faults.BadDecimals
    else Ok (decimals_in bytes, drop 5 (content_in bytes)))
    else Err faults.Damaged

-- the decimals and the spelling of a sealed text, or the first fault
unfoldable pub opened_of : List ℕ → Result (ℕ × List ℕ) SavedFault
opened_of bytes =
    if nat_lt (length bytes) 4 then Err faults.Truncated
    else (if starts_with nat_eq bytes (codes "HVY1") then
    (if nat_lt (length bytes) sealed_len then Err faults.Truncated else contents_in bytes)
    else Err faults.BadMagic)

-- the spelling that the bytes of a file seal, or all bytes of one that begins as no sealed file; or the fault of its seal
abbrev pub unsealed : List ℕ → Result (List ℕ) SavedFault
unsealed bytes = if starts_with nat_eq bytes (codes "HVY1") then (opened_of bytes >>= λ c. Ok c.1) else Ok bytes
