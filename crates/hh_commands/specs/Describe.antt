-- What is in a saved file, in rows of a name and a value.
use Rattle.std.specs.Prelude.{ℕ, List, [], ◌∷◌, codes, length, nat_eq, Result, Ok, if◌then◌else◌}
use Rattle.std.specs.List.{starts_with}
use Rattle.std.specs.Fmt.{decimal}
use Rattle.hh_stream.specs.Weights.{total_of}
use Rattle.hh_summaries.specs.Counters.{slack}
use Rattle.hh_rows.specs.Outputs.{Written, no_rows, with_row, with_rows}
use Rattle.hh_rows.specs.declared.output.Output.{Output}
use Rattle.hh_saved.specs.declared.saved.Saved.{Saved}
use Rattle.hh_saved.specs.declared.saved.Saved.TheVariants.{Counters, Cells}
use Rattle.hh_commands.specs.Files.{file_of, ◌>>=◌}
use Rattle.hh_faults.specs.declared.error.ToolError.{ToolError}

-- a name and a number
abbrev pub Fact : Type 0
Fact = List ℕ × ℕ

-- the names of the columns of what is in a saved file
abbrev pub value_columns : List (List ℕ)
value_columns = codes "name" ∷ codes "value" ∷ []

-- the fields of the row of a name and a number
abbrev pub fact_fields : Fact → List (List ℕ)
fact_fields f = f.0 ∷ decimal f.1 ∷ []

-- the version of a saved file, of which there are two
abbrev pub version_number : List ℕ → ℕ
version_number file = if starts_with nat_eq file (codes "HHS1") then 1 else 2

-- the name of the kind of a value
abbrev pub kind_name : Saved → List ℕ
kind_name (Counters s) = codes "summary"
kind_name (Cells t) = codes "table"

-- what describes a value: of a summary k, how many keys it has, the total, the sum of the counters,
-- and how far one may be below its key's weight; of a table its shape and the total
abbrev pub facts_of : Saved → List Fact
facts_of (Counters s) =
    (codes "k", s.k) ∷ (codes "keys", length s.counters) ∷ (codes "total", s.total)
    ∷ (codes "counters", total_of s.counters) ∷ (codes "slack", slack s.counters s.total s.k) ∷ []
facts_of (Cells t) =
    (codes "depth", length t.family.rows) ∷ (codes "width", t.width) ∷ (codes "total", t.total) ∷ []

-- the first rows of a file of this version, which holds a value of this kind
abbrev pub head_rows : Output → ℕ → List ℕ → Written
head_rows output version kind =
    with_row (with_row (no_rows output value_columns) (fact_fields (codes "version", version))) (codes "kind" ∷ kind ∷ [])

-- the rows of a file of this version that holds this value
abbrev pub description_of : Output → ℕ → Saved → List ℕ
description_of output version v = (with_rows (head_rows output version (kind_name v)) fact_fields (facts_of v)).text

-- the rows of a file, or its refusal
abbrev pub description : Output → List ℕ → Result (List ℕ) ToolError
description output file = do
  v ← file_of 1 file
  Ok (description_of output (version_number file) v)
