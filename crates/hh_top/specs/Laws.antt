-- What holds of the greatest keys.
use Rattle.std.specs.Prelude.{◌≡◌, ℕ, ◌≤◌, List, length}
use Rattle.hh_stream.specs.Weights.{Entry}
use Rattle.hh_summaries.specs.Report.{heavy}
use Rattle.hh_top.specs.Top.{IsTop, ranking, top}

-- the n greatest keys are the first n of all, each with its weight
abbrev pub TopIsExact : Type 0
TopIsExact = (xs : List Entry) (n : ℕ) → IsTop xs n (top n xs)

-- and no other list is
abbrev pub OnlyOneTop : Type 0
OnlyOneTop = (xs : List Entry) (n : ℕ) (es : List Entry) → IsTop xs n es → es ≡ top n xs

-- the keys of a report are as many of the greatest keys
abbrev pub ReportsAreTops : Type 0
ReportsAreTops = (xs : List Entry) (p q : ℕ) → heavy xs p q ≡ top (length (heavy xs p q)) xs

-- where n is the number of all keys, or more, the n greatest keys are all
abbrev pub ManyAreAll : Type 0
ManyAreAll = (xs : List Entry) (n : ℕ) → length (ranking xs) ≤ n → top n xs ≡ ranking xs
