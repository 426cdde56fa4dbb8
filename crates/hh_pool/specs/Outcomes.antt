-- What an analysis comes to.
use Rattle.std.specs.Prelude.{◌≡◌, ℕ, List, map}
use Rattle.hh_stream.specs.Weights.{Entry, total_of}
use Rattle.hh_summaries.specs.Counters.{SummaryView, misra_gries, IsHonest}
use Rattle.hh_pool.specs.Trees.{tree_value}
use Rattle.hh_workers.specs.Trees.{MergeTree}

-- The summary has this k, the total of all items, and the counters that the tree makes of those of the pieces, and it
-- is honest for the items xs
pub record IsMerged (tree : MergeTree) (k : ℕ) (pieces : List (List Entry)) (xs : List Entry)
    (summary : SummaryView) : Type 0 where
  pub same_k : summary.k ≡ k
  pub total : summary.total ≡ total_of xs
  pub counters : summary.counters ≡ tree_value tree (map (λ piece. misra_gries piece k) pieces) k
  pub honest : IsHonest summary.counters (total_of xs) xs k
