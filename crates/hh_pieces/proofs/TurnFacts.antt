-- Records that are read in turn, each part of a text after the other.
use Rattle.std.proofs.Common.{◌≡◌, ◌≤◌, ◌+◌, ◌∷◌, ◌++◌, ◌∙◌, ℕ, List, [], drop, length, map, take, Option, Some, None, Ok, Err, refl, sym, ap, arith, append_assoc, append-nil, length-append}
use Rattle.std.specs.Prelude.{◌&&◌, Bool, IfSome, option_map, true, false}
use Rattle.std.specs.Io.KnownBytes.{Consumes, IsAtEnd, prepend_known}
use Rattle.std.proofs.lemmas.List.{map-append, take-append-drop}
use Rattle.csv.specs.declared.parser.Config.{Config}
use Rattle.hh_stream.specs.Taking.{Takes}
use Rattle.hh_stream.specs.Weights.{Entry, max_total, total_of}
use Rattle.hh_records.specs.Formats.{byte_between, has_quotes}
use Rattle.hh_records.specs.Layouts.{Columns, RecordRefused, RowsRefused, adds, config_of, items_after, joined, parts_at, rows_in}
use Rattle.hh_records.specs.Streams.{Fields, Parts}
use Rattle.hh_records.specs.declared.layout.Layout.{Layout}
use Rattle.hh_faults.specs.declared.records.TextError.{TextError}
use Rattle.hh_faults.specs.declared.records.TextError.TheVariants as text
use Rattle.hh_records.proofs.OpenFacts.{items-refused}
use Rattle.hh_records.proofs.ReadFacts.{items-more}
use Rattle.hh_pieces.specs.LongRecords.{LeavesOutside, LeavesRecords, kept_of}
use Rattle.hh_pieces.specs.Pieces.{IsCut, IsCutAt, PieceAdds, ends_outside, parts_in}
use Rattle.hh_pieces.specs.CutTexts.{piece_items}
use Rattle.hh_pieces.specs.Texts.{LeavesBytes}
use Rattle.hh_pieces.specs.declared.long_record.Limits.{Limits}
use Rattle.hh_pieces.proofs.TakesFacts.{takes-on}
use Rattle.hh_pieces.proofs.PieceFacts.{items-move}
use Rattle.hh_pieces.proofs.CutFacts.{feed-append, no-records, outside-more, parts-records}

-- ---- where a text ends outside quotes
pub both-true : (a b : Bool) → (a && b) ≡ true → (a ≡ true) × (b ≡ true)
both-true true b e = (refl, e)
both-true false b e = cc e

module _ (config : Config) where
  pub outside-same : (p : Option (List ℕ)) → LeavesOutside config p p
  outside-same None = tt
  outside-same (Some xs) = λ outside. outside

  pub outside-then : (p q r : Option (List ℕ)) → LeavesOutside config p q → LeavesOutside config q r → LeavesOutside config p r
  outside-then None q r h k = tt
  outside-then (Some xs) None r h k = absurd h
  outside-then (Some xs) (Some ys) None h k = absurd k
  outside-then (Some xs) (Some ys) (Some zs) h k = λ outside. h (k outside)

  pub outside-held : (p k k2 : Option (List ℕ)) (held more : List ℕ) → LeavesOutside config p (prepend_known held k)
      → Consumes k k2 more → LeavesOutside config p (prepend_known (held ++ more) k2)
  outside-held None k k2 held more h c = tt
  outside-held (Some xs) None k2 held more h c = absurd h
  outside-held (Some xs) (Some rest) None held more h c = absurd c
  outside-held (Some xs) (Some rest) (Some left) held more h c = λ outside.
      let same : held ++ rest ≡ (held ++ more) ++ left = ap (λ r. held ++ r) c ∙ sym (append_assoc held more left) in
      h (rw same outside)

  pub outside-end : (p left : Option (List ℕ)) (held : List ℕ) → LeavesOutside config p (prepend_known held left)
      → IsAtEnd left → ends_outside config held ≡ true → IfSome p (λ bytes. ends_outside config bytes ≡ true)
  outside-end None left held h end outside = tt
  outside-end (Some xs) None held h end outside = absurd h
  outside-end (Some xs) (Some rest) held h end outside = h (rw (end, append-nil held) outside)

module _ (layout : Layout) (at : Columns) where
  -- what is left where nothing was read
  pub leaves-first : (before t : ℕ) (known : Option (List ℕ)) → LeavesBytes layout at before t known [] before known
  unfolding items_after
  leaves-first before t None = tt
  leaves-first before t (Some bytes) = ([], refl, refl, omega arith)

  -- one part after the other
  pub leaves-then : (before n m t u : ℕ) (xs ys : List Entry) (p q r : Option (List ℕ)) → u ≡ t + total_of xs
      → LeavesBytes layout at before t p xs n q → LeavesBytes layout at n u q ys m r
      → LeavesBytes layout at before t p (xs ++ ys) m r
  leaves-then before n m t u xs ys None q r total first second = tt
  leaves-then before n m t u xs ys (Some bytes) None r total first second = absurd first
  leaves-then before n m t u xs ys (Some bytes) (Some mid) None total first second = absurd second
  leaves-then before n m t u xs ys (Some bytes) (Some mid) (Some left) total (ps, all, items, count) (qs, all2, items2, count2) =
      let number : before + 1 + length ps ≡ n + 1 = omega (arith, count) in
      let size = length-append ps qs in (
        ps ++ qs,
        all ∙ ap (λ (rs : List Parts). ps ++ rs) all2 ∙ sym (append_assoc ps qs (parts_in layout at left)),
        items-more layout (before + 1) t xs ps qs items
            ∙ ap (joined xs) (ap (λ k. items_after layout k (t + total_of xs) qs) number
            ∙ ap (λ k. items_after layout (n + 1) k qs) (sym total) ∙ items2),
        omega (arith, size, count, count2),
      )

  -- all of a text, where nothing is left
  pub leaves-all : (before after t : ℕ) (xs : List Entry) (p : Option (List ℕ)) → LeavesBytes layout at before t p xs after (Some [])
      → IfSome (option_map (parts_in layout at) p)
      (λ ps. (items_after layout (before + 1) t ps ≡ Ok xs) × (after ≡ before + length ps))
  leaves-all before after t xs None h = tt
  leaves-all before after t xs (Some bytes) (ps, all, items, count) =
      let none : parts_in layout at [] ≡ [] = ap (map (parts_at layout at)) (no-records (config_of layout)) in
      let same : parts_in layout at bytes ≡ ps = all ∙ ap (λ (rs : List Parts). ps ++ rs) none ∙ append-nil ps in
      rw same (items, count)

  -- a refusal behind what was read
  pub refused-then : (before n t u : ℕ) (xs : List Entry) (p q : Option (List ℕ)) (error : TextError) → u ≡ t + total_of xs
      → LeavesBytes layout at before t p xs n q
      → RowsRefused layout n u (option_map (parts_in layout at) q) error
      → RowsRefused layout before t (option_map (parts_in layout at) p) error
  refused-then before n t u xs p q text.ReadFault total first refused = tt
  refused-then before n t u xs p q text.Memory total first refused = tt
  refused-then before n t u xs p q text.NoColumn total first refused = refused
  refused-then before n t u xs None q (text.BadRecord k c) total first refused = tt
  refused-then before n t u xs (Some bytes) None (text.BadRecord k c) total first refused = absurd first
  refused-then before n t u xs (Some bytes) (Some left) (text.BadRecord k c) total (ps, all, items, count) refused =
      let number : before + 1 + length ps ≡ n + 1 = omega (arith, count) in
      ap (items_after layout (before + 1) t) all
      ∙ items-more layout (before + 1) t xs ps (parts_in layout at left) items
      ∙ ap (joined xs) (ap (λ k. items_after layout k (t + total_of xs) (parts_in layout at left)) number
      ∙ ap (λ k. items_after layout (n + 1) k (parts_in layout at left)) (sym total) ∙ refused)

  -- ---- whole records at the front of a text
  module _ (held : List ℕ) (count before t : ℕ) (cut : IsCutAt (config_of layout) held count) where
    front-parts : (rest : List ℕ) → parts_in layout at (held ++ rest)
        ≡ parts_in layout at (take count held) ++ parts_in layout at (drop count held ++ rest)
    front-parts rest =
        let a : List ℕ = take count held in
        let b : List ℕ = drop count held ++ rest in
        let parts : held ++ rest ≡ a ++ b =
        ap (λ (h : List ℕ). h ++ rest) (sym (take-append-drop count held)) ∙ append_assoc a (drop count held) rest in
        let here : IsCut (config_of layout) a b =
        record { outside = cut.outside; feed = feed-append (drop count held) rest cut.feed } in
        ap (parts_in layout at) parts
        ∙ ap (map (parts_at layout at)) (parts-records (has_quotes layout.format) (byte_between layout.format layout.delimiter) a b here)
        ∙ map-append (parts_at layout at) (rows_in layout a) (rows_in layout b)

    pub front-leaves : (after : ℕ) (xs : List Entry) → PieceAdds layout at before t (take count held) xs after
        → (rest : Option (List ℕ))
        → LeavesBytes layout at before t (prepend_known held rest) xs after (prepend_known (drop count held) rest)
    front-leaves after xs adds None = tt
    front-leaves after xs adds (Some rest) = (parts_in layout at (take _ held), front-parts rest, adds.0, adds.1)

    pub front-refused : (error : TextError)
        → RowsRefused layout before t (Some (parts_in layout at (take count held))) error
        → (rest : Option (List ℕ)) → RowsRefused layout before t (option_map (parts_in layout at) (prepend_known held rest)) error
    front-refused text.ReadFault refused rest = tt
    front-refused text.Memory refused rest = tt
    front-refused text.NoColumn refused rest = refused
    front-refused (text.BadRecord n c) refused None = tt
    front-refused (text.BadRecord n c) refused (Some rest) =
        ap (items_after layout (before + 1) t) (front-parts rest)
        ∙ items-refused layout (before + 1) t (parts_in layout at (take count held)) (parts_in layout at (drop count held ++ rest)) (n, c)
        refused

    pub front-outside : (rest : Option (List ℕ))
        → LeavesOutside (config_of layout) (prepend_known held rest) (prepend_known (drop count held) rest)
    front-outside None = tt
    front-outside (Some rest) = λ outside.
        let a : List ℕ = take count held in
        let b : List ℕ = drop count held ++ rest in
        let parts : held ++ rest ≡ a ++ b =
        ap (λ (h : List ℕ). h ++ rest) (sym (take-append-drop count held)) ∙ append_assoc a (drop count held) rest in
        let here : IsCut (config_of layout) a b =
        record { outside = cut.outside; feed = feed-append (drop count held) rest cut.feed } in
        rw parts (outside-more (has_quotes layout.format) (byte_between layout.format layout.delimiter) a b here outside)

  -- ---- the last ones
  module _ (held : List ℕ) (before t : ℕ) (left : Option (List ℕ)) (end : IsAtEnd left) where
    pub last-leaves : (after : ℕ) (xs : List Entry) → PieceAdds layout at before t held xs after
        → LeavesBytes layout at before t (prepend_known held left) xs after (Some [])
    last-leaves after xs adds = by left end
      where
        by : (left : Option (List ℕ)) → IsAtEnd left
            → LeavesBytes layout at before t (prepend_known held left) xs after (Some [])
        by None end = tt
        by (Some rest) end =
            let ps : List Parts = parts_in layout at held in
            let all : parts_in layout at (held ++ rest) ≡ ps = ap (parts_in layout at) (ap (λ r. held ++ r) end ∙ append-nil held) in
            let none : parts_in layout at [] ≡ [] = ap (map (parts_at layout at)) (no-records (config_of layout)) in
            (ps, all ∙ sym (append-nil ps) ∙ ap (λ (rs : List Parts). ps ++ rs) (sym none), adds.0, adds.1)

    pub last-refused : (error : TextError) → RowsRefused layout before t (Some (parts_in layout at held)) error
        → RowsRefused layout before t (option_map (parts_in layout at) (prepend_known held left)) error
    last-refused text.ReadFault refused = tt
    last-refused text.Memory refused = tt
    last-refused text.NoColumn refused = refused
    last-refused (text.BadRecord n c) refused = by left end
      where
        by : (left : Option (List ℕ)) → IsAtEnd left
            → IfSome (option_map (parts_in layout at) (prepend_known held left)) (λ ps. items_after layout (before + 1) t ps ≡ Err (n, c))
        by None end = tt
        by (Some rest) end =
            ap (λ r. items_after layout (before + 1) t (parts_in layout at (held ++ r))) end
            ∙ ap (λ r. items_after layout (before + 1) t (parts_in layout at r)) (append-nil held) ∙ refused

  -- ---- a record that is read byte by byte
  module _ (limits : Limits) (before t : ℕ) (p q : Option (List ℕ)) (row : Fields)
      (same : (fs : Fields) → adds layout t (parts_at layout at (kept_of limits fs)) ≡ adds layout t (parts_at layout at fs)) where
    pub record-leaves : (es : List Entry) → LeavesRecords (config_of layout) limits p q true row
        → adds layout t (parts_at layout at row) ≡ Ok es → LeavesBytes layout at before t p es (before + 1) q
    unfolding items_after
    record-leaves es h added = by p q h
      where
        by : (p q : Option (List ℕ)) → LeavesRecords (config_of layout) limits p q true row
            → LeavesBytes layout at before t p es (before + 1) q
        by None q h = tt
        by (Some xs) None h = h
        by (Some xs) (Some ys) (fs, kept, all) =
            (parts_at layout at fs ∷ [], ap (map (parts_at layout at)) all, one-record fs (sym (same fs) ∙ ap (λ r. adds layout t (parts_at layout at r)) (sym kept) ∙ added), omega arith)
          where
            one-record : (fs : Fields) → adds layout t (parts_at layout at fs) ≡ Ok es
                → items_after layout (before + 1) t (parts_at layout at fs ∷ []) ≡ Ok es
            one-record fs e = rw e (ap Ok (append-nil es))

    pub record-refused : (error : TextError) → LeavesRecords (config_of layout) limits p q true row
        → RecordRefused (before + 1) (adds layout t (parts_at layout at row)) error
        → RowsRefused layout before t (option_map (parts_in layout at) p) error
    unfolding items_after
    record-refused text.Memory h refused = tt
    record-refused (text.BadRecord n c) h (number, added) = by p q h
      where
        by : (p q : Option (List ℕ)) → LeavesRecords (config_of layout) limits p q true row
            → IfSome (option_map (parts_in layout at) p) (λ ps. items_after layout (before + 1) t ps ≡ Err (n, c))
        by None q h = tt
        by (Some xs) None h = absurd h
        by (Some xs) (Some ys) (fs, kept, all) =
            rw all (one-refused fs (rows_in layout ys) (sym (same fs) ∙ ap (λ r. adds layout t (parts_at layout at r)) (sym kept) ∙ added))
          where
            one-refused : (fs : Fields) (others : List Fields) → adds layout t (parts_at layout at fs) ≡ Err c
                → items_after layout (before + 1) t (map (parts_at layout at) (fs ∷ others)) ≡ Err (n, c)
            one-refused fs others e = rw (e, number) refl
    record-refused _ h refused = absurd refused

  -- more of a text is held
  pub leaves-held : (before t after : ℕ) (xs : List Entry) (p k k2 : Option (List ℕ)) (held more : List ℕ)
      → LeavesBytes layout at before t p xs after (prepend_known held k) → Consumes k k2 more
      → LeavesBytes layout at before t p xs after (prepend_known (held ++ more) k2)
  leaves-held before t after xs None k k2 held more h c = tt
  leaves-held before t after xs (Some bytes) None k2 held more h c = absurd h
  leaves-held before t after xs (Some bytes) (Some rest) None held more h c = absurd c
  leaves-held before t after xs (Some bytes) (Some rest) (Some left) held more (ps, all, items, count) c =
      let same : held ++ rest ≡ (held ++ more) ++ left =
      ap (λ r. held ++ r) c ∙ sym (append_assoc held more left) in
      (ps, all ∙ ap (λ r. ps ++ parts_in layout at r) same, items, count)

  -- ---- what a taker has of all these
  pub takes-then : {A : Type 0} (f : A → Entry → A) (w : A → ℕ) (a b c : A) (before n m : ℕ) (p q r : Option (List ℕ))
      → Takes f w a b (λ xs. LeavesBytes layout at before (w a) p xs n q)
      → Takes f w b c (λ ys. LeavesBytes layout at n (w b) q ys m r)
      → Takes f w a c (λ zs. LeavesBytes layout at before (w a) p zs m r)
  takes-then f w a b c before n m p q r s t =
      takes-on f w a b c _ _ _ s t (λ xs ys total first second weight.
      leaves-then before n m (w a) (w b) xs ys p q r total first second)

-- ---- pieces
-- what the records of a piece add that ends outside quotes, with no other before them
pub piece-by : (layout : Layout) (at : Columns) (t n : ℕ) (xs : List Entry) (p : Option (List ℕ))
    → LeavesBytes layout at 0 t p xs n (Some []) → IfSome p (λ bytes. ends_outside (config_of layout) bytes ≡ true)
    → total_of xs ≤ max_total → IfSome p (λ bytes. piece_items layout (Some at, bytes) ≡ Some xs)
piece-by layout at t n xs None h outside few = tt
piece-by layout at t n xs (Some bytes) h outside few =
    let all = leaves-all layout at 0 n t xs (Some bytes) h in
    let moved = items-move layout 1 1 t 0 (parts_in layout at bytes) xs all.0 (omega (arith, few)) in
    rw (outside, moved) refl
