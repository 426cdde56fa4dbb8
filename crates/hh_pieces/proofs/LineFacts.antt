-- The records of a text without quotes, or where a quote is a byte as any other, line by line.
use Rattle.std.proofs.Common.{◌≡◌, ◌⊎◌, ◌∷◌, ◌++◌, ◌∙◌, inl, inr, ℕ, List, [], get_or, map, Bool, true, false, Option, Some, None, refl, sym, ap, append-nil, append_assoc}
use Rattle.std.specs.Prelude.{◌==◌, ◌&&◌, not, option_and_then, option_map, if◌then◌else◌}
use Rattle.std.specs.Option.{option_zip}
use Rattle.std.specs.List.{AllByRecursion, join_with_byte, onto_first, slice_split}
use Rattle.std.proofs.lemmas.List.Splits.{join_with_byte-slice_split}
use Rattle.std.proofs.lemmas.Simd.{map-map}
use Rattle.std.proofs.lemmas.Bool.{eqb-true, false≢true}
use Rattle.csv.specs.Machine.{after_end, step}
use Rattle.csv.specs.declared.parser.Config.{Config}
use Rattle.csv.specs.declared.parser.State.{State}
use Rattle.csv.specs.declared.parser.State.TheVariants as st
use Rattle.csv.specs.Records.{field_at}
use Rattle.hh_records.specs.Formats.{Names, Part, byte_between, fields_by, is_whole_field, part_of, part_said, with_part}
use Rattle.hh_records.specs.Layouts.{member_names, configured, every, key_of, parts_at, parts_by, weight_at}
use Rattle.hh_records.specs.declared.layout.Layout.{Layout}
use Rattle.hh_records.proofs.FormatFacts.{with-whole}
use Rattle.hh_records.specs.declared.format.Format.{Format}
use Rattle.hh_records.specs.declared.format.Format.TheVariants as format
use Rattle.hh_pieces.specs.Laws.{UnquotedTextsAreSplit}
use Rattle.hh_pieces.specs.Lines.{IsUnquoted, cut_of, filled, is_line_end, is_separator, key_parts, line_fields, line_parts, parts_in_columns}
use Rattle.hh_pieces.specs.declared.lines.FieldPlaces.{FieldPlaces}
use Rattle.hh_pieces.specs.declared.lines.LineCut.TheVariants as cut
use Rattle.hh_records.specs.Streams.{Fields, Parts}
use Rattle.hh_pieces.proofs.CutFacts.{runs, runs-all}

-- these bytes before the first of some fields
before_first_field : List ℕ → Fields → Fields
before_first_field p [] = p ∷ []
before_first_field p (x ∷ xs) = (p ++ x) ∷ xs

-- no byte is a quote that csv sees, if it looks for quotes at all
abbrev SeesNoQuote : Bool → List ℕ → Type 0
SeesNoQuote quoting text = AllByRecursion (λ c. (quoting && (c == 34)) ≡ false) text

sees-no-quote : (quoting : Bool) (text : List ℕ) → (quoting ≡ true → IsUnquoted text) → SeesNoQuote quoting text
sees-no-quote true text h = h refl
sees-no-quote false [] h = tt
sees-no-quote false (c ∷ rest) h = (refl, sees-no-quote false rest (λ e. absurd (false≢true e)))

module _ (quoting : Bool) (d : ℕ) where
  -- the records of these lines: a blank one is none
  abbrev rows_of : List (List ℕ) → List Fields
  rows_of lines = map (line_fields d) (filled lines)

  no-bytes-before : (line : List ℕ) → before_first_field [] (line_fields d line) ≡ line_fields d line
  unfolding before_first_field
  no-bytes-before [] = refl
  no-bytes-before (c ∷ line) = by (c == d) (line_fields d line)
    where
      by : (b : Bool) (fields : Fields)
          → before_first_field [] (if b then [] ∷ fields else onto_first c fields) ≡ (if b then [] ∷ fields else onto_first c fields)
      by true fields = refl
      by false [] = refl
      by false (x ∷ xs) = refl

  -- the record of the first of some lines, after the fields f and the bytes p of the next, and those
  -- of the other lines
  rows_after : Fields → List ℕ → List (List ℕ) → List Fields
  rows_after f p [] = (f ++ (p ∷ [])) ∷ []
  rows_after f p (line ∷ lines) = (f ++ before_first_field p (line_fields d line)) ∷ rows_of lines

  -- a delimiter ends the field
  after-delimiter : (f : Fields) (p : List ℕ) (c : ℕ) (lines : List (List ℕ)) → (c == d) ≡ true
      → rows_after (f ++ (p ∷ [])) [] lines ≡ rows_after f p (onto_first c lines)
  unfolding rows_after before_first_field
  after-delimiter f p c [] is = rw (is, append-nil p, append_assoc f (p ∷ []) ([] ∷ [])) refl
  after-delimiter f p c (line ∷ lines) is =
      rw (is, append-nil p, no-bytes-before line, append_assoc f (p ∷ []) (line_fields d line)) refl

  -- any other byte joins it
  after-byte : (f : Fields) (p : List ℕ) (c : ℕ) (lines : List (List ℕ)) → (c == d) ≡ false
      → rows_after f (p ++ (c ∷ [])) lines ≡ rows_after f p (onto_first c lines)
  unfolding rows_after before_first_field
  after-byte f p c [] joins = rw joins refl
  after-byte f p c (line ∷ lines) joins = rw joins (by (line_fields d line))
    where
      by : (fields : Fields)
          → (f ++ before_first_field (p ++ (c ∷ [])) fields) ∷ rows_of lines
          ≡ (f ++ before_first_field p (onto_first c fields)) ∷ rows_of lines
      by [] = refl
      by (x ∷ xs) = rw (append_assoc p (c ∷ []) x) refl

  abbrev cfg : Config
  cfg = configured quoting d

  abbrev lines_in : List ℕ → List (List ℕ)
  lines_in xs = slice_split is_line_end xs

  -- in a record: what is read of these bytes, from each of the two states there
  record Inside (xs : List ℕ) : Type 0 where
    in_field : (f : Fields) (p : List ℕ) → runs cfg st.InField f p xs ≡ rows_after f p (lines_in xs)
    start_field : (f : Fields) (p : List ℕ) → runs cfg st.StartField f p xs ≡ rows_after f p (lines_in xs)

  -- between two records
  record Between (xs : List ℕ) : Type 0 where
    start : runs cfg st.StartRecord [] [] xs ≡ rows_of (lines_in xs)
    after_cr : runs cfg st.AfterCr [] [] xs ≡ rows_of (lines_in xs)

  runs-same : (s t : State) (f : Fields) (p : List ℕ) (c : ℕ) (rest : List ℕ) → step cfg s c ≡ step cfg t c
      → runs cfg s f p (c ∷ rest) ≡ runs cfg t f p (c ∷ rest)
  unfolding runs
  runs-same s t f p c rest e = rw e refl

  -- after a byte that ends a record
  after-end-rows : (c : ℕ) (rest : List ℕ) → Between rest
      → runs cfg (after_end cfg.terminator c) [] [] rest ≡ rows_of (lines_in rest)
  after-end-rows c rest between = by (c == 13)
    where
      by : (b : Bool) → runs cfg (if b then st.AfterCr else st.StartRecord) [] [] rest ≡ rows_of (lines_in rest)
      by true = between.after_cr
      by false = between.start

  rows-begin : (c : ℕ) (lines : List (List ℕ)) → rows_after [] [] (onto_first c lines) ≡ rows_of (onto_first c lines)
  unfolding rows_after
  rows-begin c [] = rw (no-bytes-before (c ∷ [])) refl
  rows-begin c (line ∷ lines) = rw (no-bytes-before (c ∷ line)) refl

  module _ (separator : is_line_end d ≡ false) (c : ℕ) (rest : List ℕ) (plain : (quoting && (c == 34)) ≡ false) where
    field-more : Inside rest → Between rest → (f : Fields) (p : List ℕ)
        → runs cfg st.InField f p (c ∷ rest) ≡ rows_after f p (lines_in (c ∷ rest))
    unfolding runs rows_after before_first_field
    field-more inside between f p = by (c == d) refl (is_line_end c) refl
      where
        by : (a : Bool) → (c == d) ≡ a → (b : Bool) → is_line_end c ≡ b
            → runs cfg st.InField f p (c ∷ rest) ≡ rows_after f p (lines_in (c ∷ rest))
        by true is b e =
            let inner : is_line_end c ≡ false = ap is_line_end (eqb-true c d is) ∙ separator in
            let more = inside.start_field (f ++ (p ∷ [])) [] ∙ after-delimiter f p c (lines_in rest) is in
            rw (is, inner) more
        by false is true e = rw (is, e, append-nil p, after-end-rows c rest between) refl
        by false is false e = rw (is, e) (inside.in_field f (p ++ (c ∷ [])) ∙ after-byte f p c (lines_in rest) is)

    inside-more : Inside rest → Between rest → Inside (c ∷ rest)
    inside-more inside between =
        let begun : step cfg st.StartField c ≡ step cfg st.InField c = rw plain refl in
        record {
          in_field = λ f p. field-more inside between f p;
          start_field = λ f p. runs-same st.StartField st.InField f p c rest begun ∙ field-more inside between f p;
        }

    start-more : Inside (c ∷ rest) → Between rest → runs cfg st.StartRecord [] [] (c ∷ rest) ≡ rows_of (lines_in (c ∷ rest))
    unfolding runs
    start-more inside between = by (is_line_end c) refl
      where
        by : (b : Bool) → is_line_end c ≡ b → runs cfg st.StartRecord [] [] (c ∷ rest) ≡ rows_of (lines_in (c ∷ rest))
        by true e = rw e between.start
        by false e =
            let begun : step cfg st.StartRecord c ≡ step cfg st.InField c = rw (e, plain) refl in
            let first : lines_in (c ∷ rest) ≡ onto_first c (lines_in rest) = rw e refl in
            runs-same st.StartRecord st.InField [] [] c rest begun
            ∙ inside.in_field [] []
            ∙ ap (rows_after [] []) first
            ∙ rows-begin c (lines_in rest)
            ∙ ap rows_of (sym first)

    between-more : Inside (c ∷ rest) → Between rest → Between (c ∷ rest)
    unfolding runs
    between-more inside between =
        record { start = start-more inside between; after_cr = by (c == 10) refl }
      where
        by : (b : Bool) → (c == 10) ≡ b → runs cfg st.AfterCr [] [] (c ∷ rest) ≡ rows_of (lines_in (c ∷ rest))
        by true e = rw (eqb-true c 10 e) between.start
        by false e =
            let begun : step cfg st.AfterCr c ≡ step cfg st.StartRecord c = rw e refl in
            runs-same st.AfterCr st.StartRecord [] [] c rest begun ∙ start-more inside between

  unquoted-rows : is_line_end d ≡ false → (xs : List ℕ) → SeesNoQuote quoting xs → Inside xs × Between xs
  unfolding runs rows_after before_first_field
  unquoted-rows separator [] plain = (
    record { in_field = λ f p. rw (append-nil p) refl; start_field = λ f p. rw (append-nil p) refl },
    record { start = refl; after_cr = refl },
  )
  unquoted-rows separator (c ∷ rest) plain =
      let (inside, between) = unquoted-rows separator rest plain.1 in
      let here = inside-more separator c rest plain.0 inside between in
      (here, between-more separator c rest plain.0 here between)

-- a separator ends no line
separator-ends-none : (d : ℕ) → is_separator d ≡ true → is_line_end d ≡ false
separator-ends-none d h = by (d == 34) (is_line_end d) h
  where
    by : (a b : Bool) → not a && not b ≡ true → b ≡ false
    by a false h = refl
    by true true h = absurd (false≢true h)
    by false true h = absurd (false≢true h)

pub unquoted-split : UnquotedTextsAreSplit
unquoted-split quoting d text separator plain =
    runs-all (configured quoting d) text
    ∙ (unquoted-rows quoting d (separator-ends-none d separator) text (sees-no-quote quoting text plain)).1.start

-- the parts of a record that is read without columns
module _ (names : Names) where
  -- the one field of a line that was cut into these at 0 bytes
  one-field : (fields : Fields) → fields_by format.Lines names fields ≡ join_with_byte 0 fields ∷ []
  one-field [] = refl
  one-field (x ∷ []) = ap (λ (l : List ℕ). l ∷ []) (append-nil x)
  one-field (x ∷ y ∷ rest) = ap (λ (fs : Fields). (x ++ 0 ∷ get_or fs 0 []) ∷ []) (one-field (y ∷ rest))

  module _ (part : Part) where
    -- the keys and the weights' fields of lines, where each is one field
    pub lines-joined : (lines : List (List ℕ))
        → map (λ r. parts_by None part (fields_by format.Lines names r)) (map (line_fields 0) lines) ≡ map (line_parts part cut.Whole) lines
    lines-joined [] = refl
    lines-joined (line ∷ lines) =
        let all : fields_by format.Lines names (line_fields 0 line) ≡ line ∷ [] =
        one-field (line_fields 0 line) ∙ ap (λ (l : List ℕ). l ∷ []) (join_with_byte-slice_split 0 line) in
        ap (λ (r : Fields). parts_by None part r ∷ map (λ r. parts_by None part (fields_by format.Lines names r)) (map (line_fields 0) lines)) all
        ∙ ap (λ (ps : List Parts). line_parts part cut.Whole line ∷ ps) (lines-joined lines)

    -- and where a line is cut at each delimiter
    pub lines-cut : (f : Format) (d : ℕ) → (f ≡ format.Csv) ⊎ (f ≡ format.Unquoted) → (lines : List (List ℕ))
        → map (λ r. parts_by None part (fields_by f names r)) (map (line_fields (byte_between f d)) lines)
        ≡ map (line_parts part (cut_of f d)) lines
    lines-cut f d (inl csv) lines = rw csv (map-map (parts_by None part) (line_fields d) lines)
    lines-cut f d (inr unquoted) lines = rw unquoted (map-map (parts_by None part) (line_fields d) lines)

-- ---- parts of keys
-- the whole field
whole-field : (f : List ℕ) → part_of ([], None) f ≡ f
unfolding with_part
whole-field f = ap (λ fs. get_or fs 0 []) (with-whole ([], None) (f ∷ []) refl)

whole-is : (part : Part) → is_whole_field part ≡ true → part ≡ ([], None)
whole-is ([], None) e = refl
whole-is ([], Some n) e = cc e
whole-is (b ∷ until, prefix) e = cc e

-- in place of the key
pub whole-key : (part : Part) (p : Parts) → is_whole_field part ≡ true → p ≡ key_parts part p
whole-key part None e = refl
whole-key part (Some (k, f)) e = ap (λ (key : List ℕ). Some (key, f)) (sym (ap (λ part. part_of part k) (whole-is part e) ∙ whole-field k))

-- a part of the key in one column
column-key : (part : Part) (r : Fields) (key : ℕ) (weight : Option ℕ)
    → parts_by (Some (key ∷ [], weight)) part r ≡ key_parts part (parts_in_columns key weight r)
unfolding every with_part
column-key part r key weight = by (field_at r key) (weight_at r weight)
  where
    by : (o : Option (List ℕ)) (w : Option (Option (List ℕ)))
        → option_zip (option_map (λ fs. key_of (with_part part fs)) (option_and_then (λ y. option_map (λ ys. y ∷ ys) (Some [])) o)) w
        ≡ key_parts part (option_zip (option_map (λ fs. key_of (with_part ([], None) fs)) (option_and_then (λ y. option_map (λ ys. y ∷ ys) (Some [])) o)) w)
    by None w = refl
    by (Some f) None = refl
    by (Some f) (Some g) = ap (λ (k : List ℕ). Some (part_of part k, g)) (sym (whole-field f))

-- the parts of lines that are read by the columns of a key and of a weight
pub lines-columns : (layout : Layout) (at : FieldPlaces) → (layout.format ≡ format.Csv) ⊎ (layout.format ≡ format.Unquoted)
    → (lines : List (List ℕ))
    → map (parts_at layout (Some (at.key ∷ [], at.weight))) (map (line_fields (byte_between layout.format layout.delimiter)) lines)
    ≡ map (line_parts (part_said layout.part) (cut.Columns layout.delimiter at)) lines
lines-columns layout at split [] = refl
lines-columns layout at split (line ∷ lines) = rw (one split) (rw (lines-columns layout at split lines) refl)
  where
    by : (f : Format) → (f ≡ format.Csv) ⊎ (f ≡ format.Unquoted)
        → fields_by f (member_names layout) (line_fields (byte_between f layout.delimiter) line) ≡ line_fields layout.delimiter line
    by f (inl csv) = rw csv refl
    by f (inr unquoted) = rw unquoted refl

    one : (layout.format ≡ format.Csv) ⊎ (layout.format ≡ format.Unquoted)
        → parts_at layout (Some (at.key ∷ [], at.weight)) (line_fields (byte_between layout.format layout.delimiter) line)
        ≡ line_parts (part_said layout.part) (cut.Columns layout.delimiter at) line
    one split =
        rw (by layout.format split)
        (column-key (part_said layout.part) (line_fields layout.delimiter line) at.key at.weight)
