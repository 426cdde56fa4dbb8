-- Items, counted one after the other.
use Rattle.std.proofs.Common.{◌≡◌, ℕ, ◌+◌, ◌<◌, ◌∙◌, List, [], ◌∷◌, ◌++◌, length, map, take, drop, get_or, Option, None, sym, ap, arith, inl, inr, refl}
use Rattle.std.specs.Map.{keys_of}
use Rattle.std.proofs.lemmas.Bool.Decides.{eqb_tells}
use Rattle.std.proofs.lemmas.List.{map_more}
use Rattle.std.proofs.lemmas.List.Elements.{All-push}
use Rattle.hh_stream.specs.Weights.{Bytes, Entry}
use Rattle.hh_counters.specs.Counting.{Count, count_with}
use Rattle.hh_counters.specs.Laws.{CountsFollowItems}
use Rattle.hh_library.specs.Add.{bad_item, item_fault}
use Rattle.hh_commands.specs.Ask.{unless}
use Rattle.hh_commands.specs.Confirm.{CountRefused}
use Rattle.hh_commands.specs.Files.{Refuses}
use Rattle.hh_commands.specs.Records.{CountsRecords, IsCountOf}
use Rattle.hh_library.specs.Confirm.{TotalRefused}
use Rattle.hh_library.specs.CountItems.{bad_total}
use Rattle.hh_records.specs.Streams.{Known}
use Rattle.hh_summaries.specs.Counters.{SummaryView}
use Rattle.hh_faults.specs.declared.error.ToolError.{ToolError}
use Rattle.hh_faults.specs.declared.error.ToolError.TheVariants as tool
use Rattle.hh_library.proofs.AddFacts.{items_go_on}

-- the i-th item, which has number i + 1, passed
module _ {X : Type 0} (f : X → Entry) (xs : List X) (ks : List Bytes) (i : ℕ) (d : X) (e : Entry)
    (is : e ≡ f (get_or xs i d)) (lt : i < length xs) where
  -- it is counted with those before it, and those after it have the first fault of all
  pub count_goes_on : CountsFollowItems → (c : Count) (whole : Option ToolError) → 0 < e.1
      → item_fault (i + 1) c.total e ≡ None
      → (bad_item (i + 1) c.total (drop i (map f xs)) ≡ whole) × IsCountOf ks (map f (take i xs)) c
      → let next = count_with c (e ∷ []) in
      (bad_item (i + 1 + 1) next.total (drop (i + 1) (map f xs)) ≡ whole) × IsCountOf ks (map f (take (i + 1) xs)) next
  count_goes_on law c whole some passes (so_far, (positive, counted)) =
      let before = map f (take i xs) in
      let all : map f (take (i + 1) xs) ≡ before ++ e ∷ [] = map_more f xs i d lt ∙ ap (λ y. before ++ y ∷ []) (sym is) in
      let total : (count_with c (e ∷ [])).total ≡ c.total + e.1 = omega arith in (
        ap (λ t. bad_item (i + 1 + 1) t (drop (i + 1) (map f xs))) total
            ∙ items_go_on f xs i d e is lt c.total whole so_far passes,
        rw all (
          All-push (λ (e : Entry). 0 < e.1) before e positive some,
          ap (λ (n : Count). count_with n (e ∷ [])) counted ∙ law ks before (e ∷ []),
        ),
      )

-- items whose total is not the summary's are refused for it
pub total_refused : {X : Type 0} (m n : ℕ) (x : X) (e : ToolError) → TotalRefused m n e → Refuses (unless (bad_total m n) x) e
total_refused m n x tool.TotalDiffers h =
    elim (eqb_tells m n) [
      | inl (_, same) ↦ absurd (h same)
      | inr (other, _) ↦ rw other refl
    ]
total_refused m n x tool.Memory h = tt
total_refused m n x e h = absurd h

-- and so are records
pub count_refused : (s : SummaryView) (known : Known) (counts : Count) → CountsRecords known (keys_of s.counters) counts
    → (e : ToolError) → TotalRefused s.total counts.total e → CountRefused s known e
count_refused s known counts (xs, reads, (_, is)) tool.TotalDiffers h =
    (xs, reads, λ same. h (same ∙ sym (ap (λ (n : Count). n.total) is)))
count_refused s known counts counted tool.Memory h = tt
count_refused s known counts counted e h = absurd h
