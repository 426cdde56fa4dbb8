-- Keys that are counted as items come.
use Rattle.std.specs.Prelude.{◌+◌, ℕ, List}
use Rattle.hh_stream.specs.Weights.{Bytes, Entry, total_of}
use Rattle.hh_summaries.specs.Report.{counts_with, weights_at}

-- what a contract sees of counts: the keys by rising key, the weight of each, and the total of all
pub record Count : Type 0 where
  pub keys : List Bytes
  pub weights : List ℕ
  pub total : ℕ

-- the weights of these keys in the items
abbrev pub count_of : List Bytes → List Entry → Count
count_of ks xs = record { keys = ks; weights = weights_at ks xs; total = total_of xs }

-- a count after some more items
abbrev pub count_with : Count → List Entry → Count
count_with c xs = record { keys = c.keys; weights = counts_with c.keys xs c.weights; total = c.total + total_of xs }
