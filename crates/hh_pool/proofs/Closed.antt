-- What the closed sums are, and that the merged summary can be made.
use Rattle.std.proofs.Common.{◌≡◌, ℕ, ◌+◌, ◌*◌, ◌%◌, ◌^◌, ◌<◌, ◌≤◌, Bool, cond, true, false, List, [], ◌∷◌, length, get_or, map, refl, sym, ap, ◌∙◌, subst, arith, All}
use Rattle.std.specs.List.{range_with_len}
use Rattle.std.proofs.lemmas.List.{get_or-map, length-map}
use Rattle.std.proofs.lemmas.List.Sums.{sum_by-le-sum_by}
use Rattle.std.proofs.lemmas.List.FromFn.{fill_by_all}
use Rattle.std.proofs.lemmas.List.Elements.{All-map}
use Rattle.std.proofs.lemmas.Grind.{same_number_lists}
use Rattle.std.proofs.lemmas.Nat.{mul-add-lt}
use Rattle.std.proofs.lemmas.Option.{slice_get-get_or}
use Rattle.hh_stream.specs.Weights.{Bytes, Entry, at_key, weight_of, total_of, max_total}
use Rattle.hh_stream.specs.Cuttings.{whole_of}
use Rattle.hh_summaries.specs.Counters.{SummaryView, sketch_of}
use Rattle.hh_summaries.specs.Report.{weights_at}
use Rattle.hh_summaries.proofs.Weights.{weight_of-le-total_of}
use Rattle.hh_countmin.specs.Family.{Coefficients}
use Rattle.hh_countmin.specs.Table.{at_cell, cell_sum, table_of}
use Rattle.hh_countmin.specs.Laws.{CellsAreCellSums}
use Rattle.hh_shared.specs.Numbers.{cell_total, sum_at, IsDistinctBelow, HasAllBelow}
use Rattle.hh_shared.specs.Seats.{Holding}
use Rattle.hh_pool.specs.Settings.{Settings}
use Rattle.hh_pool.specs.Passes.{summaries_at, AreFirstPasses, AreSecondPasses, AreSummaries}
use Rattle.hh_workers.specs.Workers.{HasEach}
use Rattle.hh_workers.specs.Pieces.{items_at, piece_of}
use Rattle.hh_workers.proofs.PieceSums.{sum_by-all_items}
use Rattle.hh_pool.proofs.Tried.{weight_at_number}

part : (b : Bool) (n : ℕ) → cond b n 0 ≤ n
part true n = omega arith
part false n = omega arith

-- no cell has more than all
cell_sum-le : (family : Coefficients) (width r c : ℕ) (xs : List Entry) → cell_sum family width r c xs ≤ total_of xs
cell_sum-le family width r c xs = sum_by-le-sum_by (at_cell family width r c) (λ (e : Entry). e.1) xs (λ e. part _ e.1)

exact : (n sum : ℕ) → sum ≡ n → n ≤ max_total → sum % 2 ^ 64 ≡ n
exact n sum e low = omega arith

-- the closed sums of the first pass are the cells of the whole table
pub closed_cells : CellsAreCellSums → (pieces : List (List Entry)) (xs : List Entry) (settings : Settings)
    (seat : Holding) (kept : List (ℕ × SummaryView)) (values : List ℕ) → whole_of pieces ≡ xs → total_of xs ≤ max_total
    → AreFirstPasses pieces settings seat kept → IsDistinctBelow (length pieces) seat.claims
    → HasAllBelow (length pieces) seat.claims → length values ≡ length settings.family.rows * settings.width
    → ((cell : ℕ) → cell < length settings.family.rows * settings.width → get_or values cell 0 ≡ sum_at seat.adds cell)
    → values ≡ (table_of settings.family settings.width xs).cells
closed_cells law pieces xs settings seat kept values whole low p distinct all long each =
    let family = settings.family in
    let width = settings.width in
    let depth = length family.rows in
    (law family width xs).1 values long (λ r c row cell.
    let all_items : cell_total (r * width + c) seat.adds ≡ cell_sum family width r c xs =
    p.adds r c row cell ∙ (sum_by-all_items (at_cell family width r c) pieces seat.claims distinct all
    ∙ ap (cell_sum family width r c) whole) in
    each (r * width + c) (omega (arith, mul-add-lt r width c depth row cell))
    ∙ exact (cell_sum family width r c xs) (cell_total (r * width + c) seat.adds) all_items
    (omega (arith, cell_sum-le family width r c xs)))

-- the closed sums of the second pass are the candidates' weights
pub closed_weights : (pieces : List (List Entry)) (xs : List Entry) (keys : List Bytes) (seat : Holding)
    (values : List ℕ) → whole_of pieces ≡ xs → total_of xs ≤ max_total → AreSecondPasses pieces keys seat
    → IsDistinctBelow (length pieces) seat.claims → HasAllBelow (length pieces) seat.claims
    → length values ≡ length keys → ((cell : ℕ) → cell < length keys → get_or values cell 0 ≡ sum_at seat.adds cell)
    → values ≡ weights_at keys xs
closed_weights pieces xs keys seat values whole low p distinct all long each =
    same_number_lists values (weights_at keys xs) (long ∙ sym (length-map keys (λ (x : Bytes). weight_of x xs)))
    (λ i within.
    let key = get_or keys i [] in
    let at = slice_get-get_or keys i [] (omega arith) in
    let all_items : cell_total i seat.adds ≡ weight_of key xs =
    p.adds i key at ∙ (sum_by-all_items (at_key key) pieces seat.claims distinct all ∙ ap (weight_of key) whole) in
    each i (omega arith)
    ∙ (exact (weight_of key xs) (cell_total i seat.adds) all_items (omega (arith, low, weight_of-le-total_of key xs))
    ∙ sym (weight_at_number keys xs i key at)))

-- the weights in each piece are those in all items
pub whole_weights : (pieces : List (List Entry)) (keys : List Bytes) (numbers : List ℕ) → HasEach (length pieces) numbers
    → weights_at keys (items_at pieces numbers) ≡ weights_at keys (whole_of pieces)
whole_weights pieces keys numbers each =
    λ i. map (λ (x : Bytes). sum_by-all_items (at_key x) pieces numbers each.distinct each.all i) keys

-- the numbers of the summaries are those of the pieces
numbers_at : (k : ℕ) (pieces : List (List Entry)) (numbers : List ℕ)
    → map (λ (it : ℕ × SummaryView). it.0) (summaries_at k pieces numbers) ≡ numbers
numbers_at k pieces [] = refl
numbers_at k pieces (i ∷ is) = λ j. i ∷ numbers_at k pieces is j

-- summaries of each piece
pub each_summary : (k : ℕ) (pieces : List (List Entry)) (numbers : List ℕ) (found : List (ℕ × SummaryView))
    → found ≡ summaries_at k pieces numbers → HasEach (length pieces) numbers → AreSummaries k pieces found
each_summary k pieces numbers found e each =
    let P : ℕ × SummaryView → Type 0 = λ it. it.1 ≡ sketch_of k (piece_of pieces it.0) in
    let same = sym (ap (map (λ (it : ℕ × SummaryView). it.0)) e ∙ numbers_at k pieces numbers) in
    record {
      theirs = subst (All P) (sym e) (All-map P (λ i. (i, sketch_of k (piece_of pieces i))) numbers (λ j d low. refl));
      distinct = subst (IsDistinctBelow (length pieces)) same each.distinct;
      all = subst (HasAllBelow (length pieces)) same each.all;
    }

-- the summaries by number are those of the pieces
pub by_number : (k : ℕ) (pieces : List (List Entry))
    → map (λ i. sketch_of k (piece_of pieces i)) (range_with_len 0 (length pieces)) ≡ map (sketch_of k) pieces
by_number k pieces =
    sym (fill_by_all (λ i. sketch_of k (piece_of pieces i)) (map (sketch_of k) pieces) (length pieces) (sketch_of k [])
    (length-map pieces (sketch_of k))
    (λ i low. get_or-map (sketch_of k) pieces i [] (sketch_of k []) low))
