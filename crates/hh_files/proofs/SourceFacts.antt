-- What workers gather of records in pieces.
use Rattle.std.proofs.Common.{◌≡◌, ◌∙◌, ℕ, ◌-◌, ◌<◌, ◌≤◌, Bool, List, [], ◌∷◌, zero, suc, All, Option, Some, None, refl, sym, subst, arith, map, sum_by}
use Rattle.std.specs.Prelude.{IfSome, IsSome, option_map}
use Rattle.std.proofs.lemmas.List.Sums.{sum_by-cons}
use Rattle.hh_stream.specs.Cuttings.{whole_of}
use Rattle.hh_stream.specs.Taking.{HaveSameSums}
use Rattle.hh_stream.specs.Weights.{Entry, max_total, total_of}
use Rattle.hh_workers.specs.Gathered.{GathersAll}
use Rattle.hh_pieces.specs.CutTexts.{AreReadByPieces}
use Rattle.hh_records.specs.Layouts.{stream_with}
use Rattle.hh_records.specs.Taking.{GathersRecords}
use Rattle.hh_records.specs.declared.layout.Layout.{Layout}
use Rattle.hh_files.specs.FilePieces.{items_or_too_many, lists_of}
use Rattle.hh_files.proofs.FilePieceFacts.{each_is_read}

-- 1 for an item that weighs nothing
abbrev lacks : Entry → ℕ
lacks e = 1 - e.1

none_lacks : (xs : List Entry) → All (λ (e : Entry). 0 < e.1) xs → sum_by lacks xs ≡ 0
none_lacks [] h = refl
none_lacks (x ∷ xs) h =
    omega (arith, sum_by-cons lacks x xs, h 0 x (omega arith), none_lacks xs (λ k d within. h (suc k) d (omega (arith, within))))

each_weighs : (xs : List Entry) → sum_by lacks xs ≡ 0 → All (λ (e : Entry). 0 < e.1) xs
each_weighs [] e k d within = absurd (omega (arith, within))
each_weighs (x ∷ xs) e zero d within = omega (arith, e, sum_by-cons lacks x xs)
each_weighs (x ∷ xs) e (suc k) d within =
    each_weighs xs (omega (arith, e, sum_by-cons lacks x xs)) k d (omega (arith, within))

module _ {T : Type 0} (is_of : List Entry → T → Type 0)
    (order : (t : T) (xs ys : List Entry) → HaveSameSums xs ys → is_of xs t → is_of ys t) where
  -- what workers gather of all pieces is gathered of the records
  pub gathers_pieces : (layout : Layout) (names : Bool) (texts : Option (List (List ℕ))) (count : ℕ)
      (o : Option (List (Option (List Entry))))
      → IfSome texts (λ texts. (pieces : List (Option (List Entry))) × (o ≡ Some pieces)
      × AreReadByPieces layout texts pieces)
      → (t : T) → GathersAll is_of (IsSome o) (lists_of count o) t
      → GathersRecords is_of (record { names_columns = names; reading = option_map (stream_with layout) texts }) t
  gathers_pieces layout names None count o read t all = (all.xs, tt, all.positive, all.made)
  gathers_pieces layout names (Some texts) count o (pieces, known, read) t all =
      let lists = map items_or_too_many pieces in
      let same : HaveSameSums all.xs (whole_of lists) =
      subst (λ (o : Option (List (Option (List Entry)))). HaveSameSums all.xs (whole_of (lists_of count o))) known
      (all.whole (rw known refl)) in
      let bounded : total_of (whole_of lists) ≤ max_total = omega (arith, all.few, same (λ (e : Entry). e.1)) in (
        whole_of lists,
        read lists (each_is_read pieces bounded) bounded,
        each_weighs (whole_of lists) (sym (same lacks) ∙ none_lacks all.xs all.positive),
        order t all.xs (whole_of lists) same all.made,
      )
