use Rattle.std.proofs.Common.{◌≡◌, ◌+◌, map, drop}
use Rattle.std.specs.Prelude.{vec_items}
use Rattle.hh_commands.specs.Ask.{bad_key}
use Rattle.hh_library.proofs.commands.keys.check_keys.Given as goal

-- the words that are left have the first fault of all
abbrev pub invariant-loop-i : goal.invariant-loop-i
invariant-loop-i l = bad_key (l.i + 1) (drop l.i (map vec_items l.words)) ≡ bad_key 1 (map vec_items l.words)
