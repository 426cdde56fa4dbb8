-- A table of files.
use Rattle.std.specs.Prelude.{not, ℕ, Option, Some, None, if◌then◌else◌}
use Rattle.hh_stream.specs.Ranges.{in_range}
use Rattle.hh_countmin.specs.Family.{max_depth, max_width}
use Rattle.hh_workers.specs.Workers.{max_workers}
use Rattle.hh_faults.specs.declared.error.ToolError.{ToolError}
use Rattle.hh_faults.specs.declared.error.ToolError.TheVariants as tool

-- the tests of a table's depth and width, and then that of the workers who read files
abbrev pub bad_table_of_files : ℕ → ℕ → ℕ → Option ToolError
bad_table_of_files depth width workers =
    if not (in_range depth max_depth) then Some tool.BadDepth
    else if not (in_range width max_width) then Some tool.BadWidth
    else if not (in_range workers max_workers) then Some tool.BadWorkers
    else None
