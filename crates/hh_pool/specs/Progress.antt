-- How far a pass has come.
use Rattle.std.specs.Prelude.{◌≡◌, ℕ, ◌<◌, ◌≤◌, List, length}
use Rattle.hh_stream.specs.Weights.{Bytes, Entry, total_of}
use Rattle.hh_summaries.specs.Counters.{SummaryView}
use Rattle.hh_counters.specs.Counting.{Count}
use Rattle.hh_summaries.specs.Report.{weights_at}
use Rattle.hh_countmin.specs.Table.{TableView, grid_with, table_of}
use Rattle.hh_counters.specs.SpaceSaving.{monitor_with}
use Rattle.hh_pool.specs.Settings.{Settings}
use Rattle.hh_pool.specs.Passes.{summaries_at}
use Rattle.hh_workers.specs.Pieces.{items_at}
use Rattle.hh_pool.specs.declared.first.Sketches.{Sketches}

-- an item more, in both sketches
abbrev pub sketches_with : Sketches → Entry → Sketches
sketches_with sketches item = record {
  monitor = monitor_with sketches.monitor item;
  table = grid_with sketches.table item;
}

-- what the first pass makes of the pieces with these numbers, one after the other
pub record IsFirstMade (pieces : List (List Entry)) (settings : Settings) (numbers : List ℕ)
    (kept : List (ℕ × SummaryView)) (grid : TableView) : Type 0 where
  pub summaries : kept ≡ summaries_at settings.k pieces numbers
  pub table : grid ≡ table_of settings.family settings.width (items_at pieces numbers)

-- these keys are counted in the items, whose total may not be counted to the end where there are no keys
pub record AreCounted (ks : List Bytes) (xs : List Entry) (counts : Count) : Type 0 where
  pub weights : counts.weights ≡ weights_at ks xs
  pub keys : counts.keys ≡ ks
  pub total : counts.total ≤ total_of xs
  pub whole : 0 < length ks → counts.total ≡ total_of xs
