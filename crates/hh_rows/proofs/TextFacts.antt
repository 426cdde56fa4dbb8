-- Condensed texts, one after the other, read again.
use Rattle.std.proofs.Common.{◌≡◌, ℕ, zero, suc, ◌+◌, ◌-◌, ◌<◌, ◌≤◌, ◌∙◌, Bool, true, false, List, [], ◌∷◌, ◌++◌, length, map, Some, Ok, refl, sym, ap, arith, append_assoc, length-append}
use Rattle.std.specs.Prelude.{◌==◌, nat_le, if◌then◌else◌}
use Rattle.std.specs.Fmt.{decimal}
use Rattle.std.specs.List.{AllByRecursion, flat_map, list_any}
use Rattle.std.proofs.lemmas.Bool.{ne_eqb}
use Rattle.std.proofs.lemmas.Bool.Decides.{nat_tests}
use Rattle.std.proofs.lemmas.List.{append-nil, map-append}
use Rattle.std.proofs.lemmas.List.Elements.{recursion_from_All}
use Rattle.std.proofs.lemmas.List.Folds.{flat_map-map}
use Rattle.std.proofs.lemmas.List.Sums.{sum_by-append, sum_by-cons}
use Rattle.csv.specs.Machine.{next_record}
use Rattle.csv.specs.Reading.{default_config, is_bom, records, records_from, strip_bom}
use Rattle.csv.specs.Writing.{default_writer, escaped, field_text, fields_text, is_blank, needs_byte}
use Rattle.csv.specs.declared.parser.State.TheVariants as st
use Rattle.csv.proofs.RoundTrip.{after-quote-same, quoted-run, read-write-many, rest-run}
use Rattle.hh_stream.specs.Weights.{AreItems, Bytes, Entry, IsKey, max_key_len, max_total, total_of}
use Rattle.hh_stream.specs.Cuttings.{whole_of}
use Rattle.hh_counters.specs.Condensed.{condensed}
use Rattle.hh_summaries.specs.Counters.{Counters, max_k}
use Rattle.hh_counters.specs.Laws.{CondensedAreItems, CondensedKeepsWeights}
use Rattle.hh_rows.specs.Laws.{CondensedFilesAreRead}
use Rattle.hh_rows.specs.Outputs.{plain_output}
use Rattle.hh_rows.specs.Rows.{begins_with_mark, condensed_text, first_row_in, quoted_row_by, row_of, rows_of}
use Rattle.hh_records.proofs.WrittenFacts.{IsWritten, written}
use Rattle.hh_records.specs.Streams.{Fields, items_from, item_of_fields, reading_next, stream_of}

-- ---- rows, read as records
abbrev fields_of : Entry → Fields
fields_of e = e.0 ∷ decimal e.1 ∷ []

-- from the start of a record on, the text is these entries' records, and what stands after it is read as ever
record Reads (es : List Entry) (t : List ℕ) : Type 0 where
  pub long : length es ≤ length t
  pub gives : (m n : ℕ) → m ≡ length es + n → (tail : List ℕ)
      → records_from default_config m st.StartRecord (t ++ tail)
      ≡ map fields_of es ++ records_from default_config n st.StartRecord tail

reads_none : Reads [] []
reads_none = record {
  long = omega arith;
  gives = λ m n is tail. let same : m ≡ n = omega (arith, is) in
      ap (λ k. records_from default_config k st.StartRecord tail) same;
}

reads_one : (e : Entry) (t : List ℕ) → 1 ≤ length t
    → ((tail : List ℕ)
    → next_record default_config st.StartRecord [] [] (t ++ tail) ≡ Some (fields_of e, st.StartRecord, tail))
    → Reads (e ∷ []) t
unfolding records_from
reads_one e t some next = record {
  long = some;
  gives = λ m n is tail. let more : m ≡ suc n = omega (arith, is) in rw (more, next tail) refl;
}

reads_both : (es fs : List Entry) (t u : List ℕ) → Reads es t → Reads fs u → Reads (es ++ fs) (t ++ u)
reads_both es fs t u h g = record {
  long = omega (arith, h.long, g.long, length-append es fs, length-append t u);
  gives = λ m n is tail.
      ap (records_from default_config m st.StartRecord) (append_assoc t u tail)
      ∙ h.gives m (length fs + n) (omega (arith, is, length-append es fs)) (u ++ tail)
      ∙ ap (λ (rs : List Fields). map fields_of es ++ rs) (g.gives (length fs + n) n refl tail)
      ∙ sym (append_assoc (map fields_of es) (map fields_of fs) (records_from default_config n st.StartRecord tail))
      ∙ ap (λ (rs : List Fields). rs ++ records_from default_config n st.StartRecord tail)
      (sym (map-append fields_of es fs));
}

-- what stands after the key of a row
row_rest : Entry → List ℕ → List ℕ
row_rest e tail = field_text default_writer (decimal e.1) ++ (10 ∷ tail)

row_begins : (e : Entry) (tail : List ℕ) → row_of e ++ tail ≡ field_text default_writer e.0 ++ (44 ∷ row_rest e tail)
unfolding is_blank fields_text row_rest
row_begins e tail =
    let k = field_text default_writer e.0 in
    let d = field_text default_writer (decimal e.1) in
    append_assoc (k ++ (44 ∷ (d ++ []))) (10 ∷ []) tail
    ∙ append_assoc k (44 ∷ (d ++ [])) (10 ∷ tail)
    ∙ ap (λ (u : List ℕ). k ++ (44 ∷ (u ++ (10 ∷ tail)))) (append-nil d)

reads_row : (e : Entry) → Reads (e ∷ []) (row_of e)
reads_row e =
    let k = field_text default_writer e.0 in
    let begins = row_begins e [] in
    let long : 1 ≤ length (row_of e) =
    omega (arith, ap length (append-nil (row_of e)), ap length begins, length-append k (44 ∷ row_rest e [])) in
    reads_one e (row_of e) long (λ tail. read-write-many e.0 (decimal e.1) [] tail)

quoted_begins : (e : Entry) (tail : List ℕ)
    → quoted_row_by 0 e ++ tail ≡ 34 ∷ (escaped default_writer e.0 ++ (34 ∷ 44 ∷ (decimal e.1 ++ (10 ∷ tail))))
quoted_begins e tail =
    let k = escaped default_writer e.0 in
    let d = decimal e.1 in
    ap (λ (u : List ℕ). 34 ∷ u) (append_assoc (k ++ (34 ∷ [])) (44 ∷ (d ++ (10 ∷ []))) tail
    ∙ append_assoc k (34 ∷ []) (44 ∷ ((d ++ (10 ∷ [])) ++ tail))
    ∙ ap (λ (u : List ℕ). k ++ (34 ∷ 44 ∷ u)) (append_assoc d (10 ∷ []) tail))

reads_quoted : (e : Entry) → IsWritten e.1 → Reads (e ∷ []) (quoted_row_by 0 e)
unfolding next_record fields_text
reads_quoted e w = reads_one e (quoted_row_by 0 e) (omega arith) (λ tail.
    let d = decimal e.1 in
    let weight : fields_text default_writer (d ∷ []) ++ (10 ∷ tail) ≡ 44 ∷ (d ++ (10 ∷ tail)) =
    rw w.plain (ap (λ (u : List ℕ). 44 ∷ (u ++ (10 ∷ tail))) (append-nil d)) in
    ap (next_record default_config st.StartRecord [] []) (quoted_begins e tail)
    ∙ quoted-run [] [] e.0 (44 ∷ (d ++ (10 ∷ tail)))
    ∙ after-quote-same [] e.0 44 (d ++ (10 ∷ tail)) refl
    ∙ ap (next_record default_config st.InField [] e.0) (sym weight)
    ∙ rest-run [] e.0 (d ∷ []) tail)

reads_first : (e : Entry) → IsWritten e.1 → Reads (e ∷ []) (first_row_in (plain_output 0) e)
reads_first e w = elim (begins_with_mark e.0) as (λ b. Reads (e ∷ []) (if b then quoted_row_by 0 e else row_of e)) [
  | true ↦ reads_quoted e w
  | false ↦ reads_row e
]

reads_rows : (es : List Entry) → Reads es (rows_of es)
reads_rows [] = reads_none
reads_rows (e ∷ es) = reads_both (e ∷ []) es (row_of e) (rows_of es) (reads_row e) (reads_rows es)

-- an item that records can write
abbrev IsReadable : Entry → Type 0
IsReadable e = IsKey e.0 × (0 < e.1) × IsWritten e.1

reads_condensed : (es : List Entry) → AllByRecursion IsReadable es → Reads es (condensed_text es)
reads_condensed [] h = reads_none
reads_condensed (e ∷ es) h = reads_both (e ∷ []) es (first_row_in (plain_output 0) e) (rows_of es) (reads_first e h.0.2) (reads_rows es)

reads_parts : (parts : List (List Entry)) → AllByRecursion (AllByRecursion IsReadable) parts
    → Reads (whole_of parts) (flat_map condensed_text parts)
reads_parts [] h = reads_none
reads_parts (es ∷ parts) h =
    reads_both es (whole_of parts) (condensed_text es) (flat_map condensed_text parts) (reads_condensed es h.0)
    (reads_parts parts h.1)

-- ---- no byte order mark is taken off
strip_other : (a : ℕ) (t : List ℕ) → (a == 0xEF) ≡ false → strip_bom (a ∷ t) ≡ a ∷ t
unfolding strip_bom
strip_other a [] h = refl
strip_other a (b ∷ []) h = refl
strip_other a (b ∷ c ∷ t) h = rw h refl

no_mark : (a b c : ℕ) (t : List ℕ) → is_bom a b c ≡ false → strip_bom (a ∷ b ∷ c ∷ t) ≡ a ∷ b ∷ c ∷ t
unfolding strip_bom
no_mark a b c t h = rw h refl

-- a comma is no byte of the mark
strip_key : (x : Bytes) (t : List ℕ) → begins_with_mark x ≡ false → strip_bom (x ++ (44 ∷ t)) ≡ x ++ (44 ∷ t)
unfolding strip_bom
strip_key [] t h = strip_other 44 t refl
strip_key (a ∷ []) t h = second a t (a == 0xEF) refl
  where
    second : (a : ℕ) (t : List ℕ) (f : Bool) → (a == 0xEF) ≡ f → strip_bom (a ∷ 44 ∷ t) ≡ a ∷ 44 ∷ t
    second a t false e = strip_other a (44 ∷ t) e
    second a [] true e = refl
    second a (c ∷ t) true e = rw e refl
strip_key (a ∷ b ∷ []) t h = third a b t (a == 0xEF) (b == 0xBB) refl refl
  where
    third : (a b : ℕ) (t : List ℕ) (f g : Bool) → (a == 0xEF) ≡ f → (b == 0xBB) ≡ g
        → strip_bom (a ∷ b ∷ 44 ∷ t) ≡ a ∷ b ∷ 44 ∷ t
    third a b t false g e i = strip_other a (b ∷ 44 ∷ t) e
    third a b t true false e i = rw (e, i) refl
    third a b t true true e i = rw (e, i) refl
strip_key (a ∷ b ∷ c ∷ x) t h = no_mark a b c (x ++ (44 ∷ t)) h

strip_row : (e : Entry) (tail : List ℕ) → begins_with_mark e.0 ≡ false → strip_bom (row_of e ++ tail) ≡ row_of e ++ tail
strip_row e tail h =
    let begins = row_begins e tail in
    ap strip_bom begins ∙ by (list_any (needs_byte default_writer) e.0) refl ∙ sym begins
  where
    by : (b : Bool) → list_any (needs_byte default_writer) e.0 ≡ b
        → strip_bom (field_text default_writer e.0 ++ (44 ∷ row_rest e tail))
        ≡ field_text default_writer e.0 ++ (44 ∷ row_rest e tail)
    by true needs = rw needs (strip_other 34 ((escaped default_writer e.0 ++ (34 ∷ [])) ++ (44 ∷ row_rest e tail)) refl)
    by false plain = rw plain (strip_key e.0 (row_rest e tail) h)

strip_first : (e : Entry) (tail : List ℕ) → strip_bom (first_row_in (plain_output 0) e ++ tail) ≡ first_row_in (plain_output 0) e ++ tail
strip_first e tail = elim (begins_with_mark e.0) as (λ b. begins_with_mark e.0 ≡ b
    → strip_bom ((if b then quoted_row_by 0 e else row_of e) ++ tail)
    ≡ (if b then quoted_row_by 0 e else row_of e) ++ tail) [
      | true ↦ λ h. let begins = quoted_begins e tail in ap strip_bom begins ∙ strip_other 34 _ refl ∙ sym begins
      | false ↦ strip_row e tail
    ] refl

strip_parts : (parts : List (List Entry)) → strip_bom (flat_map condensed_text parts) ≡ flat_map condensed_text parts
unfolding strip_bom
strip_parts [] = refl
strip_parts ([] ∷ parts) = strip_parts parts
strip_parts ((e ∷ es) ∷ parts) =
    let begins = append_assoc (first_row_in (plain_output 0) e) (rows_of es) (flat_map condensed_text parts) in
    ap strip_bom begins ∙ strip_first e (rows_of es ++ flat_map condensed_text parts) ∙ sym begins

-- ---- records, taken as items
judged_item : (t : ℕ) (e : Entry) → IsKey e.0 → 0 < e.1 → IsWritten e.1 → t + e.1 ≤ max_total
    → item_of_fields t (fields_of e) ≡ Ok e
judged_item t e key some w fits =
    let size : (length e.0 == 0) ≡ false = ne_eqb (length e.0) 0 (λ z. omega (arith, z, key.some)) in
    let few : nat_le (length e.0) max_key_len ≡ true = grind (arith, nat_tests, key.few) in
    let weight : (e.1 == 0) ≡ false = ne_eqb e.1 0 (λ z. omega (arith, z, some)) in
    let room : nat_le (t + e.1) max_total ≡ true = grind (arith, nat_tests, fits) in
    rw (size, few, w.weight, w.value, weight, room) refl

items_read : (n : ℕ) (xs es : List Entry) → AllByRecursion IsReadable es → total_of xs + total_of es ≤ max_total
    → items_from n xs (map fields_of es) ≡ Ok (xs ++ es)
unfolding items_from
items_read n xs [] h l = ap Ok (sym (append-nil xs))
items_read n xs (e ∷ es) h l =
    let cons = sum_by-cons (λ (e : Entry). e.1) e es in
    let head = judged_item (total_of xs) e h.0.0 h.0.1 h.0.2 (omega (arith, l, cons)) in
    let total = sum_by-append (λ (e : Entry). e.1) xs (e ∷ []) in
    let alone = sum_by-cons (λ (e : Entry). e.1) e [] in
    ap (λ j. reading_next j n (λ p. items_from (n + 1) (xs ++ p ∷ []) (map fields_of es))) head
    ∙ items_read (n + 1) (xs ++ e ∷ []) es h.1 (omega (arith, l, cons, total, alone))
    ∙ ap Ok (append_assoc xs (e ∷ []) es)

-- ---- all parts together
readable : (es : List Entry) → AllByRecursion (λ (e : Entry). IsKey e.0) es → AllByRecursion (λ (e : Entry). 0 < e.1) es
    → total_of es ≤ max_total → AllByRecursion IsReadable es
readable [] keys weights l = tt
readable (e ∷ es) keys weights l =
    let cons = sum_by-cons (λ (e : Entry). e.1) e es in
    let one = written e.1 weights.0 (omega (arith, l, cons)) in
    ((keys.0, weights.0, one), readable es keys.1 weights.1 (omega (arith, l, cons)))

readable_parts : (parts : List (List Entry)) → AllByRecursion AreItems parts → total_of (whole_of parts) ≤ max_total
    → AllByRecursion (AllByRecursion IsReadable) parts
readable_parts [] h l = tt
readable_parts (es ∷ parts) h l =
    let both = sum_by-append (λ (e : Entry). e.1) es (whole_of parts) in (
      readable es h.0.0 (recursion_from_All (λ (e : Entry). 0 < e.1) es h.0.1) (omega (arith, l, both)),
      readable_parts parts h.1 (omega (arith, l, both)),
    )

readable_both : (es fs : List Entry) → AllByRecursion IsReadable es → AllByRecursion IsReadable fs
    → AllByRecursion IsReadable (es ++ fs)
readable_both [] fs h g = g
readable_both (e ∷ es) fs h g = (h.0, readable_both es fs h.1 g)

readable_whole : (parts : List (List Entry)) → AllByRecursion (AllByRecursion IsReadable) parts
    → AllByRecursion IsReadable (whole_of parts)
readable_whole [] h = tt
readable_whole (es ∷ parts) h = readable_both es (whole_of parts) h.0 (readable_whole parts h.1)

at_end : (n : ℕ) → records_from default_config n st.StartRecord [] ≡ []
unfolding records_from next_record
at_end zero = refl
at_end (suc n) = refl

-- the rows of all parts are read as their entries
rows_are_read : (parts : List (List Entry)) → AllByRecursion AreItems parts → total_of (whole_of parts) ≤ max_total
    → stream_of (flat_map condensed_text parts) ≡ Ok (whole_of parts)
rows_are_read parts h l =
    let t = flat_map condensed_text parts in
    let es = whole_of parts in
    let all = readable_parts parts h l in
    let reads = reads_parts parts all in
    let n = length t + 1 - length es in
    let rows : records default_config t ≡ map fields_of es =
    ap (records_from default_config (length t + 1) st.StartRecord) (sym (append-nil t))
    ∙ reads.gives (length t + 1) n (omega (arith, reads.long)) []
    ∙ ap (λ (rs : List Fields). map fields_of es ++ rs) (at_end n)
    ∙ append-nil (map fields_of es) in
    ap (λ (u : List ℕ). items_from 1 [] (records default_config u)) (strip_parts parts)
    ∙ ap (items_from 1 []) rows
    ∙ items_read 1 [] es (readable_whole parts all) (omega (arith, l))

module _ (keeps : CondensedKeepsWeights) (items : CondensedAreItems) (c : Counters) where
  condensed_items : (parts : List (List Entry)) → length c ≤ max_k → AllByRecursion AreItems parts
      → AllByRecursion AreItems (map (condensed c) parts)
  condensed_items [] few h = tt
  condensed_items (xs ∷ parts) few h = (((items c xs).1 few h.0.0, (items c xs).0 h.0.1), condensed_items parts few h.1)

  condensed_total : (parts : List (List Entry))
      → total_of (whole_of (map (condensed c) parts)) ≡ total_of (whole_of parts)
  condensed_total [] = refl
  condensed_total (xs ∷ parts) = omega (
    arith,
    sum_by-append (λ (e : Entry). e.1) (condensed c xs) (whole_of (map (condensed c) parts)),
    sum_by-append (λ (e : Entry). e.1) xs (whole_of parts),
    (keeps c xs).0,
    condensed_total parts,
  )

-- the files of condensed records, joined, are read as the condensed records
pub files_are_read : CondensedKeepsWeights → CondensedAreItems → CondensedFilesAreRead
files_are_read keeps items s parts few h l =
    let c = s.counters in
    let all = map (condensed c) parts in
    ap stream_of (sym (flat_map-map condensed_text (condensed c) parts))
    ∙ rows_are_read all (condensed_items keeps items c parts few h) (rw (condensed_total keeps items c parts) l)
    ∙ ap Ok (flat_map-map (λ (es : List Entry). es) (condensed c) parts)
