-- Records in files, or in other bytes that are read at any place.
use Rattle.std.specs.Prelude.{◌≡◌, ℕ, List, Option, Some, IfSome}
use Rattle.hh_records.specs.Layouts.{texts_known}
use Rattle.hh_records.specs.Streams.{Known}
use Rattle.hh_pieces.specs.declared.sources.SourceRecords.{SourceRecords}

-- what is known of the records in sources
abbrev pub sources_known : {S : Type 0} → (S → Option (List ℕ)) → SourceRecords S → Known
sources_known bytes records = texts_known bytes records.layout.now records.sources.now

-- what was known is known still
abbrev pub IsKnownStill : {A : Type 0} → Option A → Option A → Type 0
IsKnownStill old new = IfSome old (λ known. new ≡ Some known)
