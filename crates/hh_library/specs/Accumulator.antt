-- The value of a saved file in the form in which it grows.
use Rattle.std.specs.Prelude.{◌≡◌, ◌+◌, ◌<◌, ◌≤◌, ℕ, List, All, ⊤}
use Rattle.hh_stream.specs.Weights.{Entry, max_total}
use Rattle.hh_summaries.specs.Counters.{SummaryView}
use Rattle.hh_counters.specs.SpaceSaving.{monitor_of, translation_of}
use Rattle.hh_saved.specs.declared.saved.Saved.{Saved}
use Rattle.hh_saved.specs.declared.saved.Saved.TheVariants.{Counters}
use Rattle.hh_library.specs.declared.accumulator.Form.{Form}
use Rattle.hh_library.specs.declared.accumulator.Form.TheVariants.{Monitored, Translated, Whole}

-- the summary of a stream that weighs n more
abbrev pub heavier : ℕ → SummaryView → SummaryView
heavier n s = record { k = s.k; total = n + s.total; counters = s.counters }

-- the value that a form is of
abbrev pub value_of : Form → Saved
value_of (Monitored n m) = Counters (heavier n (translation_of m))
value_of (Translated n s) = Counters (heavier n s)
value_of (Whole v) = v

-- a monitor has seen some items, each of which weighs something
abbrev pub HasSeen : SummaryView → Type 0
HasSeen m = (xs : List Entry) × All (λ e. 0 < e.1) xs × (m ≡ monitor_of m.k xs)

-- a monitor is one of items, and no total is too large
abbrev pub Grows : Form → Type 0
Grows (Monitored n m) = HasSeen m × (n + m.total ≤ max_total)
Grows (Translated n s) = n + s.total ≤ max_total
Grows (Whole v) = ⊤

-- items are added to a form of this kind
abbrev pub IsReady : Form → Type 0
IsReady (Translated n s) = ⊥
IsReady form = ⊤
