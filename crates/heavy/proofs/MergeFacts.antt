-- Saved summaries of parts, merged file by file, are merged by a tree.
use Rattle.std.proofs.Common.{◌≡◌, ℕ, ◌+◌, ◌∙◌, List, [], ◌∷◌, map, Ok, Err, ◌⊎◌, inl, inr, sym, refl, ap}
use Rattle.std.specs.Prelude.{fold, slice_index_or}
use Rattle.std.specs.List.{AllByRecursion}
use Rattle.std.proofs.lemmas.Bool.Decides.{eqb_tells, leb_tells}
use Rattle.std.proofs.lemmas.List.{get_or-map}
use Rattle.hh_stream.specs.Weights.{max_total}
use Rattle.hh_summaries.specs.Counters.{SummaryView, merge_of, sketch_of}
use Rattle.hh_counters.specs.Laws.{CondensedPartsSuffice}
use Rattle.hh_pool.specs.Laws.{PartsReportByAnyTree, TreesMergeSummaries}
use Rattle.hh_pool.specs.Trees.{merge_result, no_sketch, tree_result}
use Rattle.hh_workers.specs.Trees.{MergeTree, Merge}
use Rattle.hh_saved.specs.Laws.{SpellingsAreRead}
use Rattle.hh_saved.specs.Reading.{saved_of}
use Rattle.hh_saved.specs.Spelling.{Spells}
use Rattle.hh_saved.specs.declared.format.Version.{Version}
use Rattle.hh_saved.specs.declared.saved.Saved.{Saved}
use Rattle.hh_saved.specs.declared.saved.Saved.TheVariants.{Counters}
use Rattle.hh_faults.specs.declared.error.MergeCause.TheVariants as cause
use Rattle.hh_faults.specs.declared.error.ToolError.{ToolError}
use Rattle.hh_faults.specs.declared.error.ToolError.TheVariants as tool
use Rattle.hh_commands.specs.Merge.{merge_saved, merged_files, merged_from}
use Rattle.heavy.specs.Laws.{HeldTreesReport, HoldsTree, MergesHoldTrees, PartsHoldPieces}

-- two saved summaries merge to what a node of a tree makes of them, or are refused
both_merge : (n : ℕ) (s t : SummaryView)
    → ((merge_saved n (Counters s) (Counters t) ≡ Ok (Counters (merge_of s t)))
    × (merge_result s t ≡ Ok (merge_of s t)))
    ⊎ ((e : ToolError) × (merge_saved n (Counters s) (Counters t) ≡ Err e))
both_merge n s t = elim (eqb_tells s.k t.k) [
  | inl (same, _) ↦ elim (leb_tells (s.total + t.total) max_total) [
    | inl (fits, _) ↦ inl (rw (same, fits) refl, rw (same, fits) refl)
    | inr (large, _) ↦ inr (tool.CannotMerge n cause.TotalTooLarge, rw (same, large) refl)
  ]
  | inr (other, _) ↦ inr (tool.CannotMerge n cause.DifferentK, rw other refl)
]

-- what is written is read again
read_again : SpellingsAreRead → (version : Version) (file : List ℕ) (saved : Saved) → Spells version file saved
    → saved_of file ≡ Ok saved
read_again law version file saved spells = rw spells.spelled (law version saved spells.saved)

-- a file that spells the summary of a part holds the tree of that piece
pub parts_hold_pieces : SpellingsAreRead → PartsHoldPieces
parts_hold_pieces law k i parts version file low spells = (
  sketch_of k (slice_index_or parts i []),
  ap Ok (get_or-map (sketch_of k) parts i [] no_sketch low),
  read_again law version file (Counters (sketch_of k (slice_index_or parts i []))) spells,
)

-- the files that are left, merged into the summary that the tree t makes
rest_merge : (ss : List SummaryView) (n : ℕ) (t : MergeTree) (u : SummaryView) (fs : List (MergeTree × List ℕ)) (saved : Saved)
    → tree_result t ss ≡ Ok u → AllByRecursion (HoldsTree ss) fs
    → merged_from n (Counters u) (map (λ g. g.1) fs) ≡ Ok saved
    → (s : SummaryView) × (tree_result (fold Merge t (map (λ g. g.0) fs)) ss ≡ Ok s) × (saved ≡ Counters s)
unfolding merged_from
rest_merge ss n t u [] saved is holds all = (u, is, sym (cc all))
rest_merge ss n t u (f ∷ fs) saved is ((v, made, read), holds) all = elim (both_merge n u v) [
  | inl (both, node) ↦
      let step : merged_from n (Counters u) (map (λ g. g.1) (f ∷ fs))
      ≡ merged_from (n + 1) (Counters (merge_of u v)) (map (λ g. g.1) fs) = rw (read, both) refl in
      rest_merge ss (n + 1) (Merge t f.0) (merge_of u v) fs saved (rw (is, made) node) holds (sym step ∙ all)
  | inr (e, refused) ↦
      let step : merged_from n (Counters u) (map (λ g. g.1) (f ∷ fs)) ≡ Err e = rw (read, refused) refl in
      let never = sym all ∙ step in absurd cc
]

-- files that hold trees, merged, hold the tree that merges those
pub merges_hold_trees : SpellingsAreRead → MergesHoldTrees
merges_hold_trees law ss f fs saved version file ((u, made, read), holds) all spells =
    let step : merged_files (map (λ g. g.1) (f ∷ fs)) ≡ merged_from 2 (Counters u) (map (λ g. g.1) fs) = rw read refl in
    let (s, result, is) = rest_merge ss 2 f.0 u fs saved made holds (sym step ∙ all) in
    (s, result, read_again law version file saved spells ∙ ap Ok is)

-- by the law of trees the summary has the total and the counters of the whole, and so confirms the parts
pub held_trees_report : TreesMergeSummaries → CondensedPartsSuffice → PartsReportByAnyTree → HeldTreesReport
held_trees_report law suffice report k parts t file s xs ys p q (u, made, read) tree held whole perm share =
    let one : Counters u ≡ Counters s = cc (sym read ∙ held) in
    let is = law t k parts s tree (made ∙ ap Ok (cc one)) in (
      is.total ∙ sym (suffice s.counters parts ys perm).0,
      report t parts s.counters xs ys k p q tree is.counters whole perm share,
    )
