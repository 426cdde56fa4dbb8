-- The shares of the total above which a report lists keys.
use Rattle.std.specs.Prelude.{◌+◌, ◌==◌, ℕ, Bool, List, take, drop, Option, Some, None, if◌then◌else◌}
use Rattle.std.specs.List.{position_from}
use Rattle.hh_stream.specs.Digits.{is_number, value_of}
use Rattle.hh_summaries.specs.Report.{is_threshold}
use Rattle.hh_rows.specs.declared.threshold.Share.{Share}
use Rattle.hh_rows.specs.declared.threshold.Share.TheVariants as share

abbrev pub is_slash : ℕ → Bool
is_slash b = b == 47

-- the number that 1 to 10 digits write
abbrev pub number_of : List ℕ → Option ℕ
number_of f = if is_number 10 f then Some (value_of f) else None

abbrev pub both : Option ℕ → Option ℕ → Option (ℕ × ℕ)
both None q = None
both (Some p) None = None
both (Some p) (Some q) = Some (p, q)

-- the numbers before and after the byte at this place
abbrev pub numbers_at : List ℕ → Option ℕ → Option (ℕ × ℕ)
numbers_at text None = None
numbers_at text (Some at) = both (number_of (take at text)) (number_of (drop (at + 1) text))

-- the two numbers of a text `P/Q`: those before and after its first slash
abbrev pub numbers_of : List ℕ → Option (ℕ × ℕ)
numbers_of text = numbers_at text (position_from is_slash 0 text)

-- two numbers, where they are a threshold for k counters
abbrev pub threshold_for : ℕ → Option (ℕ × ℕ) → Option (ℕ × ℕ)
threshold_for k None = None
threshold_for k (Some t) = if is_threshold k t.0 t.1 then Some t else None

-- the p and q of a threshold for k counters, if it is one
abbrev pub threshold_of : ℕ → Share → Option (ℕ × ℕ)
threshold_of k share.OfCounters = Some (1, k + 1)
threshold_of k (share.Text text) = threshold_for k (numbers_of text.items)
