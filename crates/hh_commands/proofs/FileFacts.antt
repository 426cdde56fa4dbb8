-- Saved files, merged one after the other.
use Rattle.std.proofs.Common.{◌≡◌, ℕ, ◌+◌, ◌<◌, ◌≤◌, ◌∙◌, Bool, true, false, List, ◌∷◌, length, map, drop, get_or, Result, Ok, Err, ◌⊎◌, inl, inr, sym, refl, ap, arith}
use Rattle.std.specs.Prelude.{◌≢◌}
use Rattle.std.specs.Bool.{Decides}
use Rattle.std.specs.List.{drop-map}
use Rattle.std.proofs.lemmas.Bool.Decides.{eqb_tells, leb_tells, not_from_Decides}
use Rattle.std.proofs.lemmas.List.{drop_more, drop_all, length-map}
use Rattle.hh_stream.specs.Weights.{max_total}
use Rattle.hh_countmin.specs.Family.{same_family}
use Rattle.hh_countmin.specs.Table.{TableView, grid_sum as merged_cells}
use Rattle.hh_saved.specs.Reading.{Refuses as FileRefuses, saved_of}
use Rattle.hh_faults.specs.declared.saved.SavedFault.{SavedFault}
use Rattle.hh_faults.specs.declared.saved.SavedFault.TheVariants as saved
use Rattle.hh_saved.specs.declared.saved.Saved.{Saved}
use Rattle.hh_saved.specs.declared.saved.Saved.TheVariants.{Cells}
use Rattle.hh_faults.specs.declared.error.MergeCause.TheVariants as cause
use Rattle.hh_faults.specs.declared.error.ToolError.{ToolError}
use Rattle.hh_faults.specs.declared.error.ToolError.TheVariants as tool
use Rattle.hh_commands.specs.Files.{Refuses, SummaryRefused, file_fault, file_of}
use Rattle.hh_commands.specs.Merge.{merge_saved, merged_from, of_total}

-- ---- two values

-- what came is no refusal
pub ok-no_err : {X E : Type 0} {x : X} {e : E} → ◌≡◌ {A = Result X E} (Ok x) (Err e) → ⊥
ok-no_err h = absurd cc

decided : {P : Type 0} (b : Bool) → Decides b P → ((b ≡ true) × P) ⊎ ((b ≡ false) × (P → ⊥))
decided true d = inl (refl, d.0 refl)
decided false d = inr (refl, not_from_Decides false d refl)

of_total-fits : (total : ℕ) (v : Saved) → (max_total < total → ⊥) → of_total total v ≡ Ok v
of_total-fits total v fits = elim (leb_tells total max_total) [
  | inl (e, le) ↦ rw e refl
  | inr (e, lt) ↦ absurd (fits lt)
]

of_total-too_large : (total : ℕ) (v : Saved) → max_total < total → of_total total v ≡ Err cause.TotalTooLarge
of_total-too_large total v large = elim (leb_tells total max_total) [
  | inl (e, le) ↦ absurd (omega (arith, le, large))
  | inr (e, lt) ↦ rw e refl
]

module _ (n : ℕ) (s t : TableView) (one : Decides (same_family s.family t.family) (s.family ≡ t.family)) where
  -- tables of different families are not merged
  pub cells-other_family : s.family ≢ t.family
      → merge_saved n (Cells s) (Cells t) ≡ Err (tool.CannotMerge n cause.DifferentFamily)
  cells-other_family differ = elim (decided (same_family s.family t.family) one) [
    | inl (e, same) ↦ absurd (differ same)
    | inr (e, _) ↦ rw e refl
  ]

  -- nor are tables of different widths
  pub cells-other_width : s.family ≡ t.family → s.width ≢ t.width
      → merge_saved n (Cells s) (Cells t) ≡ Err (tool.CannotMerge n cause.DifferentWidth)
  cells-other_width same differ = elim (eqb_tells s.width t.width) [
    | inl (e, width) ↦ absurd (differ width)
    | inr (e, _) ↦ rw (one.1 same, e) refl
  ]

  -- nor those whose total would be too large
  pub cells-too_large : s.family ≡ t.family → s.width ≡ t.width → max_total < s.total + t.total
      → merge_saved n (Cells s) (Cells t) ≡ Err (tool.CannotMerge n cause.TotalTooLarge)
  cells-too_large same width large = elim (eqb_tells s.width t.width) [
    | inl (e, _) ↦ rw (one.1 same, e, of_total-too_large (s.total + t.total) (Cells (merged_cells s t)) large) refl
    | inr (e, differ) ↦ absurd (differ width)
  ]

  -- all others are merged
  pub cells-merged : (s.family ≢ t.family → ⊥) → ((s.family ≡ t.family) × (s.width ≢ t.width) → ⊥)
      → ((s.family ≡ t.family) × (s.width ≡ t.width) × (max_total < s.total + t.total) → ⊥)
      → merge_saved n (Cells s) (Cells t) ≡ Ok (Cells (merged_cells s t))
  cells-merged same_families same_widths fits = elim (decided (same_family s.family t.family) one) [
    | inl (f, same) ↦ elim (eqb_tells s.width t.width) [
      | inl (e, width) ↦
          rw (f, e, of_total-fits (s.total + t.total) (Cells (merged_cells s t)) (λ lt. fits (same, width, lt))) refl
      | inr (e, differ) ↦ absurd (same_widths (same, differ))
    ]
    | inr (f, differ) ↦ absurd (same_families differ)
  ]

-- ---- one file

-- a fault of a file is the refusal that is defined
pub file_refused : (n : ℕ) (file : List ℕ) (f : SavedFault) → FileRefuses (saved_of file) f
    → Refuses (file_of n file) (file_fault n f)
file_refused n file saved.Memory fails = tt
file_refused n file f fails = rw fails refl

-- and so is one of a file that is to hold a summary
pub summary_refused : (file : List ℕ) (f : SavedFault) → FileRefuses (saved_of file) f → SummaryRefused file (file_fault 1 f)
summary_refused file saved.Memory fails = tt
summary_refused file f fails = (refl, fails)

-- ---- many files

-- what is defined to be refused is refused
pub refuses : {X : Type 0} (defined : Result X ToolError) (e : ToolError) → defined ≡ Err e → Refuses defined e
refuses defined tool.Memory h = tt
refuses defined e h = h

-- a refusal of a part is one of the whole
pub refuses_along : {X Y : Type 0} (e : ToolError) (part : Result X ToolError) (whole : Result Y ToolError)
    → (part ≡ Err e → whole ≡ Err e) → Refuses part e → Refuses whole e
refuses_along tool.Memory part whole so refused = tt
refuses_along e part whole so refused = so refused

-- the contents of the i-th file, which has number i + 1
module _ {X : Type 0} (f : X → List ℕ) (xs : List X) (i : ℕ) (d : X) (file : List ℕ)
    (is : file ≡ f (get_or xs i d)) (lt : i < length xs) where
  -- what is left of the contents begins with it
  pub drop_contents : drop i (map f xs) ≡ file ∷ drop (i + 1) (map f xs)
  drop_contents =
      drop-map f i xs ∙ ap (map f) (drop_more xs i d lt) ∙ (λ j. sym is j ∷ sym (drop-map f (i + 1) xs) j)

  -- it is merged into v
  module _ (v : Saved) (whole : Result Saved ToolError)
      (so_far : merged_from (i + 1) v (drop i (map f xs)) ≡ whole) where
    merge_next : merged_from (i + 1) v (file ∷ drop (i + 1) (map f xs)) ≡ whole
    merge_next = ap (merged_from (i + 1) v) (sym drop_contents) ∙ so_far

    -- the others are merged into both
    pub merge_goes_on : {next both : Saved} → file_of (i + 1) file ≡ Ok next → merge_saved (i + 1) v next ≡ Ok both
        → merged_from (i + 1 + 1) both (drop (i + 1) (map f xs)) ≡ whole
    unfolding merged_from
    merge_goes_on read made = rw (read, made) at merge_next

    -- a file that is refused is the refusal of all
    pub merge_unread : (e : ToolError) → Refuses (file_of (i + 1) file) e → Refuses whole e
    unfolding merged_from
    merge_unread e refused = refuses_along e (file_of (i + 1) file) whole (λ h. sym merge_next ∙ rw h refl) refused

    -- and so is a file that is not merged
    pub merge_stops : (e : ToolError) {next : Saved} → file_of (i + 1) file ≡ Ok next
        → Refuses (merge_saved (i + 1) v next) e → Refuses whole e
    unfolding merged_from
    merge_stops e {next} read refused =
        refuses_along e (merge_saved (i + 1) v next) whole (λ h. sym merge_next ∙ rw (read, h) refl) refused

-- no file is left
pub merge_ends : {X : Type 0} (f : X → List ℕ) (xs : List X) (i n : ℕ) (v : Saved) (whole : Result Saved ToolError)
    → length xs ≤ i → merged_from n v (drop i (map f xs)) ≡ whole → whole ≡ Ok v
unfolding merged_from
merge_ends f xs i n v whole le so_far = sym so_far ∙ rw (drop_all i (map f xs) (rw (length-map xs f) le)) refl
