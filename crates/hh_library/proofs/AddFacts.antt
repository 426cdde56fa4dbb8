-- Items, added one after the other.
use Rattle.std.proofs.Common.{◌≡◌, ℕ, ◌+◌, ◌<◌, ◌≤◌, ◌∙◌, List, [], ◌∷◌, ◌++◌, length, map, drop, get_or, Option, Some, None, Ok, Err, sym, refl, ap, append_assoc, append-nil, subst}
use Rattle.std.specs.List.{drop-map}
use Rattle.std.proofs.lemmas.List.{drop_more, drop_all, length-map}
use Rattle.hh_stream.specs.Weights.{Entry}
use Rattle.hh_summaries.specs.Counters.{sketch_of}
use Rattle.hh_counters.specs.Laws.{SummariesFollowItems}
use Rattle.hh_countmin.specs.Family.{Coefficients}
use Rattle.hh_countmin.specs.Laws.{TablesFollowItems}
use Rattle.hh_countmin.specs.Table.{table_of}
use Rattle.hh_saved.specs.Reading.{saved_of}
use Rattle.hh_saved.specs.declared.saved.Saved.{Saved}
use Rattle.hh_saved.specs.declared.format.Version.TheVariants as version
use Rattle.hh_saved.specs.declared.saved.Saved.TheVariants.{Cells, Counters}
use Rattle.hh_saved.specs.Spelling.{Spells}
use Rattle.hh_library.specs.Add.{GoesOn, IsAdded, TableGoesOn, added, added_to, bad_item, grid_and, item_fault, sketch_and, total_in, value_and}
use Rattle.hh_commands.specs.Ask.{or_else, unless}
use Rattle.hh_commands.specs.Files.{Refuses}
use Rattle.hh_faults.specs.declared.error.ToolError.{ToolError}
use Rattle.hh_commands.proofs.FileFacts.{refuses_along}

-- an item and then the others are all
value_more : (v : Saved) (e : Entry) (xs : List Entry) → value_and (value_and v (e ∷ [])) xs ≡ value_and v (e ∷ xs)
value_more (Counters s) e xs = refl
value_more (Cells t) e xs = refl

-- no items are nothing more
none_more : (v : Saved) → value_and v [] ≡ v
none_more (Counters s) = refl
none_more (Cells t) = refl

-- an item's weight is added to the total
pub total_more : (v : Saved) (e : Entry) → total_in (value_and v (e ∷ [])) ≡ total_in v + e.1
total_more (Counters s) e = refl
total_more (Cells t) e = refl

-- the i-th item, which has number i + 1
module _ {X : Type 0} (f : X → Entry) (xs : List X) (i : ℕ) (d : X) (e : Entry)
    (is : e ≡ f (get_or xs i d)) (lt : i < length xs) where
  drop_item : drop i (map f xs) ≡ e ∷ drop (i + 1) (map f xs)
  drop_item = drop-map f i xs ∙ ap (map f) (drop_more xs i d lt) ∙ (λ j. sym is j ∷ sym (drop-map f (i + 1) xs) j)

  -- those that are left make of the value with it what those with it make
  pub values_go_on : (v : Saved) {whole : Saved} → value_and v (drop i (map f xs)) ≡ whole
      → value_and (value_and v (e ∷ [])) (drop (i + 1) (map f xs)) ≡ whole
  values_go_on v so_far = value_more v e (drop (i + 1) (map f xs)) ∙ ap (value_and v) (sym drop_item) ∙ so_far

  module _ (t : ℕ) (whole : Option ToolError) (so_far : bad_item (i + 1) t (drop i (map f xs)) ≡ whole) where
    items_next : or_else (item_fault (i + 1) t e) (bad_item (i + 1 + 1) (t + e.1) (drop (i + 1) (map f xs)))
        ≡ whole
    unfolding bad_item
    items_next = ap (bad_item (i + 1) t) (sym drop_item) ∙ so_far

    -- it passed
    pub items_go_on : item_fault (i + 1) t e ≡ None
        → bad_item (i + 1 + 1) (t + e.1) (drop (i + 1) (map f xs)) ≡ whole
    items_go_on none = rw none at items_next

    -- it has the first fault
    pub item_fails : (fault : ToolError) → item_fault (i + 1) t e ≡ Some fault → whole ≡ Some fault
    item_fails fault bad = sym items_next ∙ rw bad refl

    -- it failed
    pub items_stop : {S A : Type 0} (s : S) (all : A) (fault : ToolError)
        → Refuses (unless (item_fault (i + 1) t e) s) fault → Refuses (unless whole all) fault
    items_stop {S} s all fault refused = by (item_fault (i + 1) t e) refl refused
      where
        by : (o : Option ToolError) → item_fault (i + 1) t e ≡ o → Refuses (unless o s) fault
            → Refuses (unless whole all) fault
        by None is r = refuses_along fault (unless None s) (unless whole all) (λ h. absurd cc) r
        by (Some g) is r =
            refuses_along fault (unless (Some g) s) (unless whole all)
            (λ h. let same : g ≡ fault = cc in rw (item_fails g is) (ap Err same)) r

-- no item is left
pub items_end : {X : Type 0} (f : X → Entry) (xs : List X) (i n t : ℕ) (whole : Option ToolError) → length xs ≤ i
    → bad_item n t (drop i (map f xs)) ≡ whole → whole ≡ None
unfolding bad_item
items_end f xs i n t whole le so_far = sym so_far ∙ rw (drop_all i (map f xs) (rw (length-map xs f) le)) refl

pub values_end : {X : Type 0} (f : X → Entry) (xs : List X) (i : ℕ) (v whole : Saved) → length xs ≤ i
    → value_and v (drop i (map f xs)) ≡ whole → whole ≡ v
values_end f xs i v whole le so_far = sym so_far ∙ rw (drop_all i (map f xs) (rw (length-map xs f) le)) (none_more v)

-- what came is what was to come
pub came_of : {X : Type 0} (o : Option ToolError) (x s : X) → unless o x ≡ Ok s → x ≡ s
came_of None x s is = cc
came_of (Some e) x s is = absurd cc

module _ (law : SummariesFollowItems) (k : ℕ) where
  -- items, added to the summary of others, make that of all
  sums_of_stream : (xs ys : List Entry) → sketch_and (sketch_of k xs) ys ≡ sketch_of k (xs ++ ys)
  sums_of_stream xs [] = ap (sketch_of k) (sym (append-nil xs))
  sums_of_stream xs (y ∷ ys) =
      ap (λ s. sketch_and s ys) (sym (law k xs y).1) ∙ sums_of_stream (xs ++ y ∷ []) ys
      ∙ ap (sketch_of k) (append_assoc xs (y ∷ []) ys)

module _ (law : TablesFollowItems) (family : Coefficients) (width : ℕ) where
  -- and so it is with tables
  grids_of_stream : (xs ys : List Entry) → grid_and (table_of family width xs) ys ≡ table_of family width (xs ++ ys)
  grids_of_stream xs [] = ap (table_of family width) (sym (append-nil xs))
  grids_of_stream xs (y ∷ ys) =
      ap (λ t. grid_and t ys) (law family width xs [] y).1 ∙ grids_of_stream (xs ++ y ∷ []) ys
      ∙ ap (table_of family width) (append_assoc xs (y ∷ []) ys)

-- the value of a file, with items added where they were
pub added_value : (file : List ℕ) (xs : List Entry) (v all : Saved) → saved_of file ≡ Ok v → added file xs ≡ Ok all
    → value_and v xs ≡ all
added_value file xs v all holds is =
    let made : added_to v xs ≡ Ok all = rw holds at is in came_of (bad_item 1 (total_in v) xs) (value_and v xs) all made

-- so a file with the summary of a stream goes on
pub goes_on : SummariesFollowItems → (file : List ℕ) (xs : List Entry) (bytes : List ℕ) → IsAdded file xs bytes → GoesOn file xs bytes
goes_on law file xs bytes (all, is, spells) = λ k stream holds.
    let came = added_value file xs (Counters (sketch_of k stream)) all holds is in
    subst (λ (v : Saved). Spells version.Two bytes v) (sym came ∙ ap Counters (sums_of_stream law k stream xs)) spells

-- and so does one with the table of a stream
pub table_goes_on : TablesFollowItems → (file : List ℕ) (xs : List Entry) (bytes : List ℕ) → IsAdded file xs bytes
    → TableGoesOn file xs bytes
table_goes_on law file xs bytes (all, is, spells) = λ family width stream holds.
    let came = added_value file xs (Cells (table_of family width stream)) all holds is in
    subst (λ (v : Saved). Spells version.Two bytes v) (sym came ∙ ap Cells (grids_of_stream law family width stream xs)) spells
