-- One piece more, and what two workers have made together.
use Rattle.std.proofs.Common.{◌≡◌, ℕ, zero, suc, ◌+◌, ◌*◌, List, [], ◌∷◌, ◌++◌, length, get_or, map, refl, sym, ap, ◌∙◌, subst, arith, slice_get, Some, sum_by}
use Rattle.std.proofs.lemmas.List.{map-append}
use Rattle.std.proofs.lemmas.Option.{get_or_from_slice_get, slice_get-map}
use Rattle.std.specs.Option.{option_map}
use Rattle.std.proofs.lemmas.Grind.{flat_map-append}
use Rattle.std.proofs.lemmas.List.Sums.{sum_by-append}
use Rattle.hh_stream.specs.Weights.{Bytes, Entry, at_key, weight_of}
use Rattle.hh_shared.proofs.NumberFacts.{added-append}
use Rattle.hh_counters.specs.Counting.{Count, count_of}
use Rattle.hh_summaries.specs.Report.{weights_at, counts_with}
use Rattle.hh_summaries.specs.Counters.{SummaryView, sketch_of}
use Rattle.hh_countmin.specs.Table.{TableView, at_cell, cell_at, cell_sum, table_of}
use Rattle.hh_countmin.specs.Laws.{CellsAreCellSums}
use Rattle.hh_shared.specs.Numbers.{cell_total}
use Rattle.hh_shared.specs.Seats.{Holding, seat_of_both}
use Rattle.hh_pool.specs.Settings.{Settings}
use Rattle.hh_pool.specs.Passes.{summaries_at, AreFirstPasses, AreSecondPasses}
use Rattle.hh_workers.specs.Workers.{HasTried, HasTriedUpTo}
use Rattle.hh_workers.specs.Pieces.{items_at, piece_of}
use Rattle.hh_pool.specs.Progress.{AreCounted, IsFirstMade}
use Rattle.hh_workers.proofs.ClaimFacts.{tried-joined}
use Rattle.hh_workers.proofs.PieceSums.{items_at-push}

abbrev nothing : {A : Type 0} → A → ℕ
nothing x = 0

-- a list of zeros has nothing else
pub all_zero : {A : Type 0} (xs : List A) (i : ℕ) → get_or (map nothing xs) i 0 ≡ 0
all_zero [] i = refl
all_zero (x ∷ xs) zero = refl
all_zero (x ∷ xs) (suc i) = all_zero xs i

-- the first pass has summarised one piece more and added its items to the table
pub first_more : (pieces : List (List Entry)) (settings : Settings) (numbers : List ℕ) (n : ℕ)
    (kept more : List (ℕ × SummaryView)) (was grid : TableView)
    → more ≡ kept ++ (n, sketch_of settings.k (piece_of pieces n)) ∷ []
    → grid ≡ table_of settings.family settings.width (items_at pieces numbers ++ piece_of pieces n)
    → IsFirstMade pieces settings numbers kept was
    → IsFirstMade pieces settings (numbers ++ n ∷ []) more grid
first_more pieces settings numbers n kept more was grid f g p = record {
  summaries = f ∙ (ap (λ k. k ++ (n, sketch_of settings.k (piece_of pieces n)) ∷ []) p.summaries
      ∙ sym (map-append _ numbers (n ∷ [])));
  table = g ∙ ap (table_of settings.family settings.width) (sym (items_at-push pieces numbers n));
}

-- the cells of the worker's own table are added to the shared ones
pub first_ends : CellsAreCellSums → (pieces : List (List Entry)) (settings : Settings) (seat after : Holding)
    (kept : List (ℕ × SummaryView)) (grid : TableView) → after ≡ record seat { adds = after.adds }
    → ((cell : ℕ) → cell_total cell after.adds ≡ cell_total cell seat.adds + get_or grid.cells cell 0)
    → HasTriedUpTo (length pieces) (length pieces) seat
    → IsFirstMade pieces settings seat.claims kept grid → AreFirstPasses pieces settings after kept
first_ends law pieces settings seat after kept grid e adds tried p =
    let claims = ap (λ h. h.claims) e in
    record {
      tried = subst (HasTried (length pieces)) (sym e) tried.tried;
      adds = λ r c row cell.
          let cells = ap (λ g. cell_at settings.width g.cells r c) p.table
          ∙ (law settings.family settings.width (items_at pieces seat.claims)).0 r c row cell in
          let items = ap (λ is. cell_sum settings.family settings.width r c (items_at pieces is)) claims in
          omega (arith, adds (r * settings.width + c), ap (cell_total (r * settings.width + c)) tried.none_added);
      summaries = p.summaries ∙ ap (summaries_at settings.k pieces) (sym claims);
    }

-- what two workers brought back, joined
pub first_joined : (pieces : List (List Entry)) (settings : Settings) (one other : Holding)
    (kept more : List (ℕ × SummaryView)) → AreFirstPasses pieces settings one kept
    → AreFirstPasses pieces settings other more → AreFirstPasses pieces settings (seat_of_both one other) (kept ++ more)
first_joined pieces settings one other kept more p q = record {
  tried = tried-joined (length pieces) one other p.tried;
  adds = λ r c row cell.
      let f = at_cell settings.family settings.width r c in
      let items = ap (sum_by f) (flat_map-append (piece_of pieces) one.claims other.claims) in
      let sum = sum_by-append f (items_at pieces one.claims) (items_at pieces other.claims) in
      let both = added-append (r * settings.width + c) one.adds other.adds in
      omega (arith, items, sum, both, p.adds r c row cell, q.adds r c row cell);
  summaries = (λ i. p.summaries i ++ q.summaries i) ∙ sym (map-append _ one.claims other.claims);
}

-- keys before any item
pub none_counted : (keys : List Bytes) (counts : Count) → counts ≡ count_of keys [] → AreCounted keys [] counts
none_counted keys counts e = record {
  weights = ap (λ (c : Count). c.weights) e;
  keys = ap (λ (c : Count). c.keys) e;
  total = omega (arith, ap (λ (c : Count). c.total) e);
  whole = λ some. omega (arith, ap (λ (c : Count). c.total) e);
}

-- counting goes on where it stopped
pub counted-weights_at : (keys : List Bytes) (xs ys : List Entry)
    → counts_with keys ys (weights_at keys xs) ≡ weights_at keys (xs ++ ys)
counted-weights_at [] xs ys = refl
counted-weights_at (k ∷ ks) xs ys = (λ i. sym (sum_by-append (at_key k) xs ys) i ∷ counted-weights_at ks xs ys i)

-- one piece more is counted
pub second_more : (pieces : List (List Entry)) (keys : List Bytes) (numbers : List ℕ) (n : ℕ) (more : Count)
    → AreCounted keys (items_at pieces numbers ++ piece_of pieces n) more
    → AreCounted keys (items_at pieces (numbers ++ n ∷ [])) more
second_more pieces keys numbers n more =
    subst (λ xs. AreCounted keys xs more) (sym (items_at-push pieces numbers n))

-- the number at a key's place is the key's weight
pub weight_at_number : (keys : List Bytes) (xs : List Entry) (i : ℕ) (key : Bytes) → slice_get keys i ≡ Some key
    → get_or (weights_at keys xs) i 0 ≡ weight_of key xs
weight_at_number keys xs i key at =
    get_or_from_slice_get (weights_at keys xs) i (weight_of key xs) 0
    (slice_get-map (λ (x : Bytes). weight_of x xs) keys i ∙ ap (option_map (λ (x : Bytes). weight_of x xs)) at)

-- the worker's own numbers are added to the shared ones
pub second_ends : (pieces : List (List Entry)) (keys : List Bytes) (seat after : Holding) (counts : Count)
    → after ≡ record seat { adds = after.adds }
    → ((cell : ℕ) → cell_total cell after.adds ≡ cell_total cell seat.adds + get_or counts.weights cell 0)
    → HasTriedUpTo (length pieces) (length pieces) seat
    → AreCounted keys (items_at pieces seat.claims) counts → AreSecondPasses pieces keys after
second_ends pieces keys seat after counts e adds tried p =
    let claims = ap (λ h. h.claims) e in
    record {
      tried = subst (HasTried (length pieces)) (sym e) tried.tried;
      adds = λ i key at.
          let weight = weight_at_number keys (items_at pieces seat.claims) i key at in
          let numbers = ap (λ ns. get_or ns i 0) p.weights in
          let items = ap (λ is. weight_of key (items_at pieces is)) claims in
          omega (arith, adds i, ap (cell_total i) tried.none_added, numbers, weight, items);
    }

-- what two workers brought back, joined
pub second_joined : (pieces : List (List Entry)) (keys : List Bytes) (one other : Holding)
    → AreSecondPasses pieces keys one → AreSecondPasses pieces keys other
    → AreSecondPasses pieces keys (seat_of_both one other)
second_joined pieces keys one other p q = record {
  tried = tried-joined (length pieces) one other p.tried;
  adds = λ i key at.
      let items = ap (weight_of key) (flat_map-append (piece_of pieces) one.claims other.claims)
      ∙ sum_by-append (at_key key) (items_at pieces one.claims) (items_at pieces other.claims) in
      omega (arith, added-append i one.adds other.adds, p.adds i key at, q.adds i key at);
}
