-- Lines and fields by the places of the bytes that end them.
use Rattle.std.proofs.Common.{◌≡◌, ◌==◌, ◌≤◌, ◌<◌, ◌+◌, ◌-◌, ◌∷◌, ◌++◌, ◌∙◌, ℕ, suc, zero, List, [], length, map, take, drop, Bool, true, false, Some, None, Ok, refl, sym, ap, arith, append-nil, append_assoc, length-append, length-drop}
use Rattle.std.specs.Prelude.{◌||◌, if◌then◌else◌, slice_range}
use Rattle.std.specs.List.{AllByRecursion, onto_first, position_or_len, slice_split}
use Rattle.std.proofs.lemmas.Bool.{false≢true}
use Rattle.std.proofs.lemmas.List.{drop-drop, drop_all, length-map, length-take-le, map-append}
use Rattle.std.proofs.lemmas.List.Splits.{slice_split_first}
use Rattle.std.proofs.Math.Seq.{take-length}
use native.Mathlib.Decide.{dec_lt}
use Rattle.csv.specs.Machine.{carriage_return, line_feed}
use Rattle.memchr.specs.Find.{NoneBefore, Nowhere, Passes, is_byte}
use Rattle.hh_stream.specs.Weights.{Entry, total_of}
use Rattle.hh_faults.specs.declared.records.TextError.{TextError}
use Rattle.hh_faults.specs.declared.records.TextError.TheVariants as error
use Rattle.hh_records.specs.declared.layout.Layout.{Layout}
use Rattle.hh_records.specs.Layouts.{RecordRefused, RowsRefused, adds, items_after}
use Rattle.hh_pieces.specs.Lines.{HasNoReturn, filled, filled_lines, is_line_end, line_end, line_fields}
use Rattle.hh_records.specs.Streams.{Fields, Parts, parts_of}
use Rattle.hh_pieces.proofs.QuoteFacts.{rest-all}
use Rattle.hh_records.proofs.FormatFacts.{first-place, none-place}
use Rattle.hh_records.proofs.ReadFacts.{items-more}

-- ---- what is split at the first place that passes a test
module _ (test : ℕ → Bool) where
  pub split-none : (hay : List ℕ) → position_or_len test hay ≡ length hay → slice_split test hay ≡ hay ∷ []
  split-none [] e = refl
  split-none (c ∷ rest) e = by (test c) refl (λ l. split-none rest l)
    where
      by : (b : Bool) → test c ≡ b → (position_or_len test rest ≡ length rest → slice_split test rest ≡ rest ∷ [])
          → slice_split test (c ∷ rest) ≡ (c ∷ rest) ∷ []
      by true is more = let bad : 0 ≡ suc (length rest) = rw is at e in absurd (omega (arith, bad))
      by false is more =
          let less : 1 + position_or_len test rest ≡ suc (length rest) = rw is at e in
          rw (is, more (omega (arith, less))) refl

  -- there is a part at least
  pub split-part : (hay : List ℕ) → (g : List ℕ) × (rest : Fields) × (slice_split test hay ≡ g ∷ rest)
  split-part [] = ([], [], refl)
  split-part (c ∷ rest) = by (test c) (slice_split test rest)
    where
      by : (b : Bool) (parts : Fields)
          → (g : List ℕ) × (more : Fields) × ((if b then [] ∷ parts else onto_first c parts) ≡ g ∷ more)
      by true parts = ([], parts, refl)
      by false [] = (c ∷ [], [], refl)
      by false (g ∷ more) = (c ∷ g, more, refl)

  -- before that place none does
  pub none-passes : (hay : List ℕ) → AllByRecursion (λ c. test c ≡ false) (take (position_or_len test hay) hay)
  none-passes [] = tt
  none-passes (c ∷ rest) = by (test c) refl (none-passes rest)
    where
      by : (b : Bool) → test c ≡ b → AllByRecursion (λ c. test c ≡ false) (take (position_or_len test rest) rest)
          → AllByRecursion (λ c. test c ≡ false) (take (position_or_len test (c ∷ rest)) (c ∷ rest))
      by true is more = rw is tt
      by false is more =
          let next : 1 + position_or_len test rest ≡ suc (position_or_len test rest) = omega arith in
          rw (is, next) (is, more)

  -- and of a text where none does, that is the length
  pub none-length : (hay : List ℕ) → AllByRecursion (λ c. test c ≡ false) hay → position_or_len test hay ≡ length hay
  none-length [] none = refl
  none-length (c ∷ rest) none = rw (none.0, none-length rest none.1) (omega arith)

-- ---- texts without CR
-- a byte that ends no line
ends-none : (text : List ℕ) → AllByRecursion (λ c. is_line_end c ≡ false) text → HasNoReturn text
ends-none [] none = tt
ends-none (c ∷ rest) none = (by (c == carriage_return) (c == line_feed) none.0, ends-none rest none.1)
  where
    by : (a b : Bool) → (a || b) ≡ false → a ≡ false
    by false b e = refl
    by true b e = absurd (false≢true (sym e))

-- what follows in such a text has none either
pub no-return-after : (n : ℕ) (text : List ℕ) → HasNoReturn text → HasNoReturn (drop n text)
no-return-after zero text none = none
no-return-after (suc n) [] none = tt
no-return-after (suc n) (c ∷ rest) none = no-return-after n rest none.1

-- and its lines end at LF alone
pub ends-at-feeds : (text : List ℕ) → HasNoReturn text
    → position_or_len is_line_end text ≡ position_or_len (is_byte line_feed) text
ends-at-feeds [] none = refl
ends-at-feeds (c ∷ rest) none = by (c == line_feed) refl (ends-at-feeds rest none.1)
  where
    by : (b : Bool) → (c == line_feed) ≡ b → position_or_len is_line_end rest ≡ position_or_len (is_byte line_feed) rest
        → position_or_len is_line_end (c ∷ rest) ≡ position_or_len (is_byte line_feed) (c ∷ rest)
    by true e more = rw (none.0, e) refl
    by false e more = rw (none.0, e) (omega (arith, more))

-- ---- the key and the weight's field of a line
module _ (d : ℕ) (line : List ℕ) where
  -- it is one field where no delimiter is in it
  pub one-field : Nowhere (Passes (is_byte d) line) 0 (length line) → line_fields d line ≡ line ∷ []
  one-field none = split-none (is_byte d) line (none-place (is_byte d) line none)

  pub parts-one : Nowhere (Passes (is_byte d) line) 0 (length line) → Some (line, None) ≡ parts_of (line_fields d line)
  parts-one none = rw (one-field none) refl

  module _ (end : ℕ) (within : end < length line) (none : Nowhere (Passes (is_byte d) line) 0 end)
      (here : Passes (is_byte d) line end) where
    abbrev pub behind : List ℕ
    behind = drop (end + 1) line

    pub first-field : line_fields d line ≡ take end line ∷ line_fields d behind
    first-field =
        let at = first-place (is_byte d) line end within none here in
        let parts = slice_split_first (is_byte d) line 0 (omega (arith, within, at)) in
        rw at at parts

    pub parts-two : Nowhere (Passes (is_byte d) (slice_range line (end + 1) (length line))) 0
        (length (slice_range line (end + 1) (length line)))
        → Some (take end line, Some (slice_range line (end + 1) (length line))) ≡ parts_of (line_fields d line)
    parts-two none =
        let all = rest-all line (end + 1) in
        let second = rw all at none in
        rw (all, first-field, split-none (is_byte d) behind (none-place (is_byte d) behind second)) refl

    pub parts-more : (at : ℕ)
        → NoneBefore (Passes (is_byte d) (slice_range line (end + 1) (length line))) 0
        (length (slice_range line (end + 1) (length line))) at
        → Passes (is_byte d) (slice_range line (end + 1) (length line)) at
        → ◌≡◌ {A = Parts} None (parts_of (line_fields d line))
    parts-more at before passes =
        let all = rest-all line (end + 1) in
        let found = rw all at before in
        let is = rw all at passes in
        let place = first-place (is_byte d) behind at found.high found.before is in
        let parts = slice_split_first (is_byte d) behind 0 (omega (arith, found.high, place)) in
        let (g, rest, more) = split-part (is_byte d) (drop (position_or_len (is_byte d) behind + 1) behind) in
        rw (first-field, parts, more) refl

-- ---- the lines of a text
line-cons : (line : List ℕ) (lines : List (List ℕ)) → filled (line ∷ lines) ≡ filled (line ∷ []) ++ filled lines
line-cons [] lines = refl
line-cons (c ∷ line) lines = refl

module _ (text : List ℕ) (from end : ℕ) (order : from ≤ end) (within : end ≤ length text) (is : end ≡ line_end text from) where
  abbrev rest : List ℕ
  rest = drop from text

  -- what is left is the line and what stands after it
  line-first : filled_lines rest ≡ filled (take (end - from) rest ∷ []) ++ filled_lines (drop (end - from + 1) rest)
  line-first = elim (dec_lt (end - from) (length rest)) [ yes some ↦ by_end some | no none ↦ by_text none ]
    where
      by_end : end - from < length rest
          → filled_lines rest ≡ filled (take (end - from) rest ∷ []) ++ filled_lines (drop (end - from + 1) rest)
      by_end some =
          let run : position_or_len is_line_end rest ≡ end - from = omega (arith, is) in
          let lines = rw run at (slice_split_first is_line_end rest 0 (omega (arith, run, some))) in
          ap filled lines ∙ line-cons (take (end - from) rest) (slice_split is_line_end (drop (end - from + 1) rest))

      by_text : (end - from < length rest → ⊥)
          → filled_lines rest ≡ filled (take (end - from) rest ∷ []) ++ filled_lines (drop (end - from + 1) rest)
      by_text none =
          let size = length-drop from text in
          let run : position_or_len is_line_end rest ≡ length rest = omega (arith, is, none, within, order, size) in
          let all : end - from ≡ length rest = omega (arith, none, within, order, size) in
          rw (split-none is_line_end rest run, all, take-length rest, drop_all (length rest + 1) rest (omega arith))
          (sym (append-nil (filled (rest ∷ []))))

  after-line : drop (end - from + 1) rest ≡ drop (end + 1) text
  after-line =
      let at : from + (end - from + 1) ≡ end + 1 = omega (arith, order) in
      drop-drop (end - from + 1) from text ∙ ap (λ n. drop n text) at

  -- a blank line
  pub line-none : end ≤ from → filled_lines rest ≡ filled_lines (drop (end + 1) text)
  line-none blank =
      let none : end - from ≡ 0 = omega (arith, blank) in
      let lines : filled (take (end - from) rest ∷ []) ≡ [] = rw none refl in
      line-first ∙ ap (λ (ls : List (List ℕ)). ls ++ filled_lines (drop (end - from + 1) rest)) lines
      ∙ ap filled_lines after-line

  -- and any other
  pub line-some : from < end → filled_lines rest ≡ slice_range text from end ∷ filled_lines (drop (end + 1) text)
  line-some some =
      line-first
      ∙ ap (λ (ls : List (List ℕ)). ls ++ filled_lines (drop (end - from + 1) rest)) (by (take (end - from) rest) size)
      ∙ ap (λ (u : List ℕ). take (end - from) rest ∷ filled_lines u) after-line
    where
      size : 0 < length (take (end - from) rest)
      size = let l = length-take-le (end - from) rest (omega (arith, within, order, length-drop from text)) in omega (arith, l, some)

      by : (line : List ℕ) → 0 < length line → filled (line ∷ []) ≡ line ∷ []
      by [] l = absurd (omega (arith, l))
      by (c ∷ line) l = refl

-- ---- a line by itself
module _ (text : List ℕ) (from end : ℕ) (is : end ≡ line_end text from) where
  abbrev alone : List ℕ
  alone = slice_range text from end

  alone-plain : AllByRecursion (λ c. is_line_end c ≡ false) alone
  alone-plain =
      let run : end - from ≡ position_or_len is_line_end (drop from text) = omega (arith, is) in
      rw run (none-passes is_line_end (drop from text))

  pub alone-no-return : HasNoReturn alone
  alone-no-return = ends-none alone alone-plain

  -- it ends where it does
  pub alone-whole : (e : ℕ) → e ≡ line_end alone 0 → slice_range alone 0 e ≡ alone
  alone-whole e at =
      let all = none-length is_line_end alone alone-plain in
      let size : e ≡ length alone = omega (arith, at, all) in
      ap (λ n. slice_range alone 0 n) size ∙ rest-all alone 0

-- ---- the lines read so far
module _ (layout : Layout) (read : List ℕ → Parts) (before t : ℕ) (text : List ℕ) where
  abbrev parts : List (List ℕ) → List Parts
  parts lines = map read lines

  -- the lines before a place were read, and add these items; with them there are number records
  pub record LinesRead (from : ℕ) (xs : List Entry) (number : ℕ) : Type 0 where
    pub lines : List (List ℕ)
    pub all : filled_lines text ≡ lines ++ filled_lines (drop from text)
    pub items : items_after layout (before + 1) t (parts lines) ≡ Ok xs
    pub count : before + length lines ≡ number

  pub lines-none : LinesRead 0 [] before
  unfolding items_after
  lines-none = record { lines = []; all = refl; items = refl; count = omega arith }

  module _ (from end : ℕ) (xs : List Entry) (number : ℕ) (order : from ≤ end) (within : end ≤ length text)
      (is : end ≡ line_end text from) (so_far : LinesRead from xs number) where
    pub lines-blank : end ≤ from → LinesRead (end + 1) xs number
    lines-blank blank =
        let left = line-none text from end order within is blank in
        record {
          lines = so_far.lines;
          all = so_far.all ∙ ap (λ (ls : List (List ℕ)). so_far.lines ++ ls) left;
          items = so_far.items;
          count = so_far.count;
        }

    abbrev line : List ℕ
    line = slice_range text from end

    all-lines : from < end → filled_lines text ≡ so_far.lines ++ line ∷ filled_lines (drop (end + 1) text)
    all-lines some =
        so_far.all ∙ ap (λ (ls : List (List ℕ)). so_far.lines ++ ls) (line-some text from end order within is some)

    pub lines-more : from < end → (es : List Entry) → adds layout (t + total_of xs) (read line) ≡ Ok es
        → LinesRead (end + 1) (xs ++ es) (number + 1)
    unfolding items_after
    lines-more some es j =
        let size = length-append so_far.lines (line ∷ []) in
        let all : parts (so_far.lines ++ line ∷ []) ≡ parts so_far.lines ++ read line ∷ [] =
        map-append read so_far.lines (line ∷ []) in
        record {
          lines = so_far.lines ++ line ∷ [];
          all = all-lines some ∙ sym (append_assoc so_far.lines (line ∷ []) (filled_lines (drop (end + 1) text)));
          items = rw (
            all,
            items-more layout (before + 1) t xs (parts so_far.lines) (read line ∷ []) so_far.items,
            j,
            append-nil es,
          ) refl;
          count = omega (arith, size, so_far.count);
        }

    pub lines-refused : from < end → (x : TextError) → RecordRefused (number + 1) (adds layout (t + total_of xs) (read line)) x
        → RowsRefused layout before t (Some (parts (filled_lines text))) x
    unfolding items_after
    lines-refused some error.Memory j = tt
    lines-refused some (error.BadRecord l x) (same, j) =
        let left = filled_lines (drop (end + 1) text) in
        let all : parts (so_far.lines ++ line ∷ left) ≡ parts so_far.lines ++ read line ∷ parts left =
        map-append read so_far.lines (line ∷ left) in
        let size = length-map so_far.lines read in
        let place : before + 1 + length (parts so_far.lines) ≡ number + 1 = omega (arith, size, so_far.count) in
        rw (
          same,
          all-lines some,
          all,
          items-more layout (before + 1) t xs (parts so_far.lines) (read line ∷ parts left) so_far.items,
          j,
          place,
        ) refl
    lines-refused some _ j = absurd j
