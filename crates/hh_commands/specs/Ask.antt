-- What a saved file tells of keys.
use Rattle.std.specs.Prelude.{◌==◌, ◌+◌, nat_le, ℕ, List, [], ◌∷◌, codes, length, map, Option, Some, None, Result, Ok, Err, if◌then◌else◌}
use Rattle.hh_stream.specs.Weights.{Bytes, max_key_len}
use Rattle.hh_summaries.specs.Counters.{slack}
use Rattle.hh_countmin.specs.Table.{estimate_in}
use Rattle.hh_records.specs.Decimals.{pointed}
use Rattle.hh_rows.specs.Outputs.{plain_output, rows_in}
use Rattle.hh_rows.specs.declared.output.Output.{Output}
use Rattle.hh_saved.specs.declared.saved.Saved.{Saved}
use Rattle.hh_saved.specs.declared.saved.Saved.TheVariants.{Counters, Cells}
use Rattle.hh_commands.specs.Bounds.{bounds_of}
use Rattle.hh_commands.specs.Files.{file_of, ◌>>=◌}
use Rattle.hh_faults.specs.declared.error.KeyCause.TheVariants as key
use Rattle.hh_faults.specs.declared.error.ToolError.{ToolError}
use Rattle.hh_faults.specs.declared.error.ToolError.TheVariants as tool

-- a key's weight is at least the first number, and at most the second
abbrev pub answer_of : Saved → Bytes → ℕ × ℕ
answer_of (Counters s) x = bounds_of s x
answer_of (Cells t) x = (0, estimate_in t x)

-- how far the second number is above the first: a summary's slack; of a table it is not asked
abbrev pub slack_of : Saved → ℕ
slack_of (Counters s) = slack s.counters s.total s.k
slack_of (Cells t) = 0

-- the names of the columns of keys and their bounds
abbrev pub bound_columns : List (List ℕ)
bound_columns = codes "key" ∷ codes "low" ∷ codes "high" ∷ []

-- the fields of a row: a key and the two numbers, in units of 10^-d
abbrev pub bounds_fields : ℕ → Bytes → ℕ × ℕ → List (List ℕ)
bounds_fields d x bounds = x ∷ pointed d bounds.0 ∷ pointed d bounds.1 ∷ []

-- those of a key that is asked
abbrev pub answer_fields : Output → Saved → Bytes → List (List ℕ)
answer_fields output v x = bounds_fields output.decimals x (answer_of v x)

abbrev pub answer_rows : Output → Saved → List Bytes → List ℕ
answer_rows output v keys = rows_in output bound_columns (answer_fields output v) keys

-- what is wrong with key n
abbrev pub key_fault : ℕ → Bytes → Option ToolError
key_fault n x =
    if length x == 0 then Some (tool.BadKey n key.Empty)
    else if nat_le (length x) max_key_len then None
    else Some (tool.BadKey n key.TooLong)

abbrev pub or_else : Option ToolError → Option ToolError → Option ToolError
or_else (Some e) other = Some e
or_else None other = other

-- the first fault of the keys from number n on
unfoldable pub bad_key : ℕ → List Bytes → Option ToolError
bad_key n [] = None
bad_key n (x ∷ xs) = or_else (key_fault n x) (bad_key (n + 1) xs)

abbrev pub unless : {X : Type 0} → Option ToolError → X → Result X ToolError
unless None x = Ok x
unless (Some e) x = Err e

-- the value of the file, or the first refusal: of the file, and then of the keys
abbrev pub asked_value : List ℕ → List Bytes → Result Saved ToolError
asked_value file keys = do
  v ← file_of 1 file
  unless (bad_key 1 keys) v

-- the rows of all keys, or the first refusal
abbrev pub answers_in : Output → List ℕ → List Bytes → Result (List ℕ) ToolError
answers_in output file keys = do
  v ← asked_value file keys
  Ok (answer_rows output v keys)

-- the rows as CSV, in whole numbers, or the first refusal
abbrev pub answers : List ℕ → List Bytes → Result (List ℕ) ToolError
answers file keys = answers_in (plain_output 0) file keys

-- the two numbers of each key, or the first refusal
abbrev pub answers_of : List ℕ → List Bytes → Result (List (ℕ × ℕ)) ToolError
answers_of file keys = do
  v ← asked_value file keys
  Ok (map (answer_of v) keys)

-- the two numbers of one key, or the first refusal: of the file, and then of the key
abbrev pub answer : List ℕ → Bytes → Result (ℕ × ℕ) ToolError
answer file x = do
  v ← file_of 1 file
  unless (key_fault 1 x) (answer_of v x)
