-- What a command says of records that it didn't read.
use Rattle.std.specs.Prelude.{◌≡◌, Option, Some, None, Err, ⊤}
use Rattle.hh_records.specs.Streams.{Known, ReadsAs}
use Rattle.hh_records.specs.Layouts.{TextsRefused}
use Rattle.hh_faults.specs.declared.records.TextError.TheVariants as text
use Rattle.hh_faults.specs.declared.error.ToolError.{ToolError}
use Rattle.hh_faults.specs.declared.error.ToolError.TheVariants as tool

-- what a refusal to read records says, where they were read: not before the tests that come first
abbrev pub RecordsRefused : Known → ToolError → Type 0
RecordsRefused known tool.ReadFault = ⊤
RecordsRefused known (tool.BadRecord n c) = ReadsAs known (Err (n, c))
RecordsRefused known tool.NoColumn = TextsRefused known text.NoColumn
RecordsRefused known tool.Memory = ⊤
RecordsRefused known _ = ⊥

-- the first test that fails comes before anything is read
abbrev pub RefusedAfter : Option ToolError → Known → ToolError → Type 0
RefusedAfter None known e = RecordsRefused known e
RefusedAfter (Some f) known e = e ≡ f
