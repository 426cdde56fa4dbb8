-- What a value tells of keys.
use Rattle.std.specs.Prelude.{ℕ, List, map, Result}
use Rattle.hh_stream.specs.Weights.{Bytes}
use Rattle.hh_saved.specs.declared.saved.Saved.{Saved}
use Rattle.hh_commands.specs.Ask.{answer_of, bad_key, unless}
use Rattle.hh_faults.specs.declared.error.ToolError.{ToolError}

-- the two numbers of each key, or the first refusal of a key
abbrev pub asked_of : Saved → List Bytes → Result (List (ℕ × ℕ)) ToolError
asked_of v keys = unless (bad_key 1 keys) (map (answer_of v) keys)
