-- The entries of a saved summary.
use Rattle.std.specs.Prelude.{◌≡◌, ℕ, All, List, map}
use Rattle.hh_summaries.specs.Counters.{SummaryView}
use Rattle.hh_saved.specs.Sizes.{LiesIn, entry_in}
use Rattle.hh_saved.specs.declared.offsets.Place.{Place}
use Rattle.hh_commands.specs.Files.{HoldsSummary}

-- the file holds a summary, and its entries are those at these places, by rising key; each lies within the file
abbrev pub ListsEntries : List ℕ → List Place → Type 0
ListsEntries file places =
    (s : SummaryView) × HoldsSummary file s × (map (entry_in file) places ≡ s.counters)
    × All (LiesIn file) places
