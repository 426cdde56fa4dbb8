-- Who has something to add, and keys that count nothing.
use Rattle.std.proofs.Common.{◌≡◌, ℕ, ◌*◌, ◌<◌, List, [], ◌∷◌, ◌++◌, length, get_or, ap, arith}
use Rattle.std.specs.List.{range_with_len}
use Rattle.std.proofs.lemmas.List.Sums.{sum_by-append}
use Rattle.hh_stream.specs.Weights.{Bytes, Entry}
use Rattle.hh_summaries.specs.Counters.{SummaryView}
use Rattle.hh_counters.specs.Counting.{Count}
use Rattle.hh_summaries.specs.Report.{weights_at}
use Rattle.hh_countmin.specs.Table.{TableView, table_of}
use Rattle.hh_pool.specs.Settings.{Settings}
use Rattle.hh_pool.specs.Progress.{AreCounted, IsFirstMade}
use Rattle.hh_workers.specs.Pieces.{items_at}
use Rattle.hh_pool.proofs.Tried.{all_zero}

-- only who has claimed a piece has something to add
pub claim-at_cell : (pieces : List (List Entry)) (settings : Settings) (claims : List ℕ) (kept : List (ℕ × SummaryView))
    (grid : TableView) → IsFirstMade pieces settings claims kept grid → (cell : ℕ) → 0 < get_or grid.cells cell 0
    → 0 < length claims
claim-at_cell pieces settings [] kept grid p cell some =
    let zeros = all_zero (range_with_len 0 (length settings.family.rows * settings.width)) cell in
    let none : grid ≡ table_of settings.family settings.width [] = p.table in
    absurd (omega (arith, some, ap (λ (g : TableView). get_or g.cells cell 0) none, zeros))
claim-at_cell pieces settings (i ∷ is) kept grid p cell some = omega arith

pub claim-at_number : (pieces : List (List Entry)) (keys : List Bytes) (claims : List ℕ) (counts : Count)
    → AreCounted keys (items_at pieces claims) counts → (i : ℕ) → 0 < get_or counts.weights i 0 → 0 < length claims
claim-at_number pieces keys [] counts p i some =
    let none : counts.weights ≡ weights_at keys [] = p.weights in
    absurd (omega (arith, some, ap (λ ns. get_or ns i 0) none, all_zero keys i))
claim-at_number pieces keys (j ∷ js) counts p i some = omega arith

-- no keys are counted in any items
pub still_counted : (keys : List Bytes) (xs piece : List Entry) (counts : Count) → length keys ≡ 0
    → AreCounted keys xs counts → AreCounted keys (xs ++ piece) counts
still_counted [] xs piece counts none p = record {
  weights = p.weights;
  keys = p.keys;
  total = omega (arith, p.total, sum_by-append (λ (e : Entry). e.1) xs piece);
  whole = λ some. absurd (omega (arith, some, none));
}
still_counted (k ∷ ks) xs piece counts none p = absurd (omega arith)
