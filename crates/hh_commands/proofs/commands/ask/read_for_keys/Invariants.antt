use Rattle.std.proofs.Common.{◌≡◌, ◌+◌, Ok, map, drop}
use Rattle.std.specs.Prelude.{vec_items}
use Rattle.hh_commands.specs.Ask.{bad_key}
use Rattle.hh_commands.specs.Files.{file_of}
use Rattle.hh_commands.proofs.commands.ask.read_for_keys.Given as goal

-- the words that are left have the first fault of all
abbrev pub invariant-loop-i : goal.invariant-loop-i
invariant-loop-i l = (file_of 1 l.file ≡ Ok l.saved)
    × (bad_key (l.i + 1) (drop l.i (map vec_items l.words)) ≡ bad_key 1 (map vec_items l.words))
