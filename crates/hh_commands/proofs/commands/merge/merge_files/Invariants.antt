use Rattle.std.proofs.Common.{◌≡◌, ◌+◌, map, drop}
use Rattle.std.specs.Prelude.{vec_items}
use Rattle.hh_commands.specs.Merge.{merged_files, merged_from}
use Rattle.hh_commands.proofs.commands.merge.merge_files.Given as goal

-- what is still to merge gives all
abbrev pub invariant-loop-i : goal.invariant-loop-i
invariant-loop-i l =
    merged_from (l.i + 1) l.merged (drop l.i (map vec_items l.files)) ≡ merged_files (map vec_items l.files)
