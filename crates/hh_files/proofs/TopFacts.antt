-- The greatest keys of files that are read twice.
use Rattle.std.proofs.Common.{◌≡◌, ℕ, ◌/◌, ⊎_elim, inl, inr, Bool, List, Option, Some, None, Result, Ok, Err, sym, subst}
use Rattle.std.specs.Prelude.{IfErr, true}
use Rattle.hh_stream.specs.Weights.{Bytes, Entry}
use Rattle.hh_summaries.specs.Report.{weights_at}
use Rattle.hh_tally.specs.Tallies.{AreBounds}
use Rattle.hh_tally.specs.declared.room.Room.{Room}
use Rattle.hh_top.specs.Rooms.{counted_in, shared_room, whole_room}
use Rattle.hh_top.specs.Top.{GreatestRefused, IsTopFault, IsUncertain, ShortlistView, stand_out}
use Rattle.hh_records.specs.Refusals.{RecordsRefused}
use Rattle.hh_records.specs.Streams.{Known, Reading}
use Rattle.hh_files.specs.FilePasses.{TalliesRecords, WeighsRecords}
use Rattle.hh_files.specs.TopFiles.{IsSharedRoom, ListRefused, TellsTop, TopRefused}
use Rattle.hh_files.specs.declared.topping.TopOptions.{TopOptions}
use Rattle.hh_faults.specs.declared.error.ToolError.{ToolError}
use Rattle.hh_faults.specs.declared.error.ToolError.TheVariants as tool

-- records that are refused refuse their greatest keys
pub records_refuse : (n k : ℕ) (known : Known) (e : ToolError) → RecordsRefused known e → TopRefused n k known e
records_refuse n k known (tool.TopUncertain certain most) h = absurd h
records_refuse n k known e h = h

-- what a shortlist of this memory refuses is decided by the memory
pub shared_refused : (options : TopOptions) (list : ShortlistView) (known : Known) (e : ToolError) → list.n ≡ options.n
    → IsSharedRoom options list → ListRefused list known e → TopRefused options.n (counted_in options.memory) known e
shared_refused options list known e same shared h =
    let k = counted_in options.memory in
    subst (λ n. TopRefused n k known e) same (h k (⊎_elim
    (λ (own : TellsTop list × (list.tally.room ≡ shared_room (options.memory / options.workers))). inl own.0)
    (λ (all : (list.k ≡ k) × (list.tally.room ≡ whole_room options.memory)). inr (sym all.0)) shared))

module _ (names : Bool) (list : ShortlistView) (room : Room) (ks : List Bytes) (counted : List ℕ) where
  -- what a refusal tells is of the records where both readings are one: none of them, where the list tells the greatest keys
  pub top_refused : (o : Option (Option Reading)) (e : ToolError)
      → TalliesRecords room (record { names_columns = names; reading = o }) list.tally
      → WeighsRecords (record { names_columns = names; reading = o }) ks counted
      → IsTopFault e → (list.tally.lost ≡ 0 → ⊥)
      → ((xs : List Entry) → AreBounds list.tally xs → counted ≡ weights_at ks xs → GreatestRefused xs list.n list.k e)
      → (stand_out list ≡ true → (xs : List Entry) → AreBounds list.tally xs → counted ≡ weights_at ks xs → e ≡ tool.Memory)
      → ListRefused list (record { names_columns = names; reading = o }) e
  top_refused None (tool.TopUncertain certain most) made weighs kind lossy h sure = λ _ _. tt
  top_refused (Some r) (tool.TopUncertain certain most) (xs, read, of, bounds) weighs kind lossy h sure =
      λ k how. ⊎_elim
      (λ (tells : TellsTop list). absurd (⊎_elim lossy
      (λ (out : stand_out list ≡ true). not_memory (sure out xs bounds (weighs xs read))) tells))
      (λ (is : k ≡ list.k).
      (xs, read, subst (λ j. IsUncertain xs list.n j certain most) (sym is) (h xs bounds (weighs xs read))))
      how
    where
      not_memory : tool.TopUncertain certain most ≡ tool.Memory → ⊥
      not_memory clash = absurd (cc (clash))
  top_refused o tool.Memory made weighs kind lossy h sure = λ _ _. tt
  top_refused o e made weighs kind lossy h sure = absurd kind

  -- whatever the call gives
  pub greatest_refused : {A : Type 0} (r : Result A ToolError) (o : Option (Option Reading))
      → TalliesRecords room (record { names_columns = names; reading = o }) list.tally
      → WeighsRecords (record { names_columns = names; reading = o }) ks counted
      → IfErr r IsTopFault → (list.tally.lost ≡ 0 → ⊥)
      → IfErr r (λ e. (xs : List Entry) → AreBounds list.tally xs → counted ≡ weights_at ks xs
      → GreatestRefused xs list.n list.k e)
      → (stand_out list ≡ true → IfErr r (λ e. (xs : List Entry) → AreBounds list.tally xs
      → counted ≡ weights_at ks xs → e ≡ tool.Memory))
      → IfErr r (ListRefused list (record { names_columns = names; reading = o }))
  greatest_refused (Ok a) o made weighs kind lossy h sure = tt
  greatest_refused (Err e) o made weighs kind lossy h sure = top_refused o e made weighs kind lossy h sure
