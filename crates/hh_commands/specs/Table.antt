-- A table of records.
use Rattle.std.specs.Prelude.{not, ℕ, Option, Some, None, if◌then◌else◌}
use Rattle.hh_stream.specs.Ranges.{in_range}
use Rattle.hh_countmin.specs.Family.{max_depth, max_width}
use Rattle.hh_faults.specs.declared.error.ToolError.{ToolError}
use Rattle.hh_faults.specs.declared.error.ToolError.TheVariants as tool

-- the tests of a table's depth and width
abbrev pub bad_table : ℕ → ℕ → Option ToolError
bad_table depth width =
    if not (in_range depth max_depth) then Some tool.BadDepth
    else if not (in_range width max_width) then Some tool.BadWidth
    else None
