-- How a stream follows the records read so far.
use Rattle.std.proofs.Common.{◌≡◌, ◌≤◌, ◌<◌, ◌+◌, ◌-◌, ◌∷◌, ◌++◌, ◌∙◌, ℕ, suc, zero, List, [], length, map, Bool, true, false, Option, Some, None, Result, Ok, Err, refl, sym, ap, arith, append_assoc}
use Rattle.std.specs.Prelude.{⊤, nat_le, IfSome, option_map, ◌==◌, if◌then◌else◌}
use Rattle.std.proofs.lemmas.Bool.{false≢true}
use Rattle.std.proofs.lemmas.List.{append-nil, length-map, map-append}
use Rattle.std.proofs.lemmas.List.Sums.{sum_by-append, sum_by-cons}
use Rattle.std.proofs.Common.{length-append}
use Rattle.csv.specs.Machine.{next_record, ends_at_end, is_end, step, after_end, in_field, start_field, start_record, Read, carriage_return}
use Rattle.csv.specs.Reading.{Reached, ReadRecord, default_config, records, records_from, records_next, source_of, strip_bom}
use Rattle.csv.specs.declared.parser.Config.{Config}
use Rattle.csv.specs.declared.parser.Terminator.{Terminator}
use Rattle.csv.specs.declared.parser.Terminator.TheVariants as term
use Rattle.csv.specs.declared.parser.State.{State}
use Rattle.csv.specs.declared.parser.State.TheVariants as st
use Rattle.csv.specs.declared.parser.Action.{Action}
use Rattle.csv.specs.declared.parser.Action.TheVariants as act
use Rattle.csv.specs.declared.reader.Reader.{Reader}
use Rattle.csv.proofs.ReadFacts.{rows-end, rows-more}
use Rattle.hh_stream.specs.Weights.{Entry, max_total, total_of}
use Rattle.hh_records.proofs.DecimalFacts.{units-whole}
use Rattle.hh_faults.specs.declared.records.BadRecordCause.{BadRecordCause}
use Rattle.hh_faults.specs.declared.records.BadRecordCause.TheVariants as cause
use Rattle.hh_faults.specs.declared.records.TextError.{TextError}
use Rattle.hh_faults.specs.declared.records.TextError.TheVariants as text
use Rattle.hh_records.specs.Layouts.{IsPlain, RecordRefused, RowsRefused, added, added_after, adding_next, adds, adds_instead, adds_itself, between, config_of, configured, counted_as, gathered, headed_parts, items_after, joined, member_names, parts_at, parts_by, columns_in, text_parts, texts_parts}
use Rattle.hh_records.specs.declared.layout.Layout.{Layout}
use Rattle.hh_records.proofs.FormatFacts.{whole-parts}
use Rattle.hh_records.specs.Formats.{byte_between, fields_by, has_quotes, part_said}
use Rattle.hh_records.specs.Laws.{PlainLayoutsReadStreams}
use Rattle.hh_records.specs.Streams.{Fields, Parts, Reading, item_after, item_of_parts, items_from, parts_of, reading_next}

-- a state where the text may end with no record
Quiet : State × Action → Type 0
Quiet p = is_end p.1 ≡ true → ends_at_end p.0 ≡ false

if-quiet : (b : Bool) (p q : State × Action) → Quiet p → Quiet q → Quiet (if b then p else q)
unfolding Quiet
if-quiet true p q h k = h
if-quiet false p q h k = k

after-quiet : (t : Terminator) (c : ℕ) → Quiet (after_end t c, act.EndRecord)
unfolding Quiet
after-quiet term.CRLF c e = by (c == carriage_return)
  where
    by : (b : Bool) → ends_at_end (if b then st.AfterCr else st.StartRecord) ≡ false
    by true = refl
    by false = refl
after-quiet (term.Any t) c e = refl

quiet-other : (s : State) (a : Action) → is_end a ≡ false → Quiet (s, a)
unfolding Quiet
quiet-other s a e h = absurd (false≢true (sym e ∙ h))

in-field-quiet : (cfg : Config) (c : ℕ) → Quiet (in_field cfg c)
in-field-quiet cfg c =
    if-quiet _ _ _ (quiet-other st.StartField act.EndField refl)
    (if-quiet _ _ _ (after-quiet cfg.terminator c) (quiet-other st.InField act.Copy refl))

start-field-quiet : (cfg : Config) (c : ℕ) → Quiet (start_field cfg c)
start-field-quiet cfg c = if-quiet _ _ _ (quiet-other st.InQuoted act.Skip refl) (in-field-quiet cfg c)

start-record-quiet : (cfg : Config) (c : ℕ) → Quiet (start_record cfg c)
start-record-quiet cfg c =
    if-quiet _ _ _ (quiet-other st.StartRecord act.Skip refl)
    (if-quiet _ _ _ (quiet-other st.InComment act.Skip refl) (start-field-quiet cfg c))

-- a byte that ends a record leaves such a state
step-quiet : (cfg : Config) (s : State) (c : ℕ) → Quiet (step cfg s c)
step-quiet cfg st.StartRecord c = start-record-quiet cfg c
step-quiet cfg st.StartField c = start-field-quiet cfg c
step-quiet cfg st.InField c = in-field-quiet cfg c
step-quiet cfg st.InQuoted c =
    if-quiet _ _ _ (quiet-other st.AfterQuote act.Skip refl)
    (if-quiet _ _ _ (quiet-other st.InEscape act.Skip refl) (quiet-other st.InQuoted act.Copy refl))
step-quiet cfg st.InEscape c = quiet-other st.InQuoted act.Copy refl
step-quiet cfg st.AfterQuote c = if-quiet _ _ _ (quiet-other st.InQuoted act.Copy refl) (in-field-quiet cfg c)
step-quiet cfg st.InComment c =
    if-quiet _ _ _ (quiet-other st.StartRecord act.Skip refl) (quiet-other st.InComment act.Skip refl)
step-quiet cfg st.AfterCr c = if-quiet _ _ _ (quiet-other st.StartRecord act.Skip refl) (start-record-quiet cfg c)

read-or : Read → Option Read → Read
read-or d None = d
read-or d (Some z) = z

some-eq : (x y : Read) → ◌≡◌ {A = Option Read} (Some x) (Some y) → x ≡ y
unfolding read-or
some-eq x y e = ap (read-or x) e

-- after a record such a state stands, and no more bytes than before, or fewer where none had begun
abbrev IsAfter : Bool → ℕ → Read → Type 0
IsAfter begun long q = (ends_at_end q.1 ≡ false) × (length q.2 ≤ long) × (begun ≡ false → length q.2 < long)

record-quiet : (cfg : Config) (s : State) (f : Fields) (p xs : List ℕ) (q : Read) → next_record cfg s f p xs ≡ Some q
    → IsAfter (ends_at_end s) (length xs) q
unfolding next_record Quiet
record-quiet cfg s f p [] q e = by (ends_at_end s) e
  where
    by : (b : Bool) → (if b then Some (f ++ (p ∷ []), st.StartRecord, []) else None) ≡ Some q → IsAfter b 0 q
    by true e = let h = some-eq _ _ e in rw (← h) (refl, omega arith, λ t. absurd (false≢true (sym t)))
    by false e = cc e
record-quiet cfg s f p (c ∷ rest) q e =
    by (is_end (step cfg s c).1) refl _ _ e (record-quiet cfg (step cfg s c).0 _ _ rest q)
  where
    by : (b : Bool) → is_end (step cfg s c).1 ≡ b → (g : Fields) (next : Option Read)
        → (if b then Some (g, (step cfg s c).0, rest) else next) ≡ Some q
        → (next ≡ Some q → IsAfter (ends_at_end (step cfg s c).0) (length rest) q)
        → IsAfter (ends_at_end s) (length (c ∷ rest)) q
    by true is g next e more =
        let h = some-eq _ _ e in
        rw (← h) (step-quiet cfg s c is, omega arith, λ t. omega arith)
    by false is g next e more =
        let h = more e in
        (h.0, omega (arith, h.1), λ t. omega (arith, h.1))

-- each record takes a byte at least
reached-length : (cfg : Config) (s s2 : State) (xs ys : List ℕ) (rows : List Fields) → ends_at_end s ≡ false
    → Reached cfg s xs rows s2 ys → length rows + length ys ≤ length xs
unfolding Reached
reached-length cfg s s2 xs ys [] q h = let e = ap length h.1 in omega (arith, e)
reached-length cfg s s2 xs ys (r ∷ rs) q h =
    let took = record-quiet cfg s [] [] xs h.0 h.1 in
    let rest = reached-length cfg h.0.1 s2 h.0.2 ys rs took.0 h.3 in
    let less = took.2 q in
    omega (arith, rest, less)

-- the records that were reached come first
reached-records : (cfg : Config) (s s2 : State) (xs ys : List ℕ) (rows : List Fields) (m n : ℕ) → m ≡ length rows + n
    → Reached cfg s xs rows s2 ys → records_from cfg m s xs ≡ rows ++ records_from cfg n s2 ys
unfolding Reached records_from
reached-records cfg s s2 xs ys [] m n e h =
    let same : m ≡ n = omega (arith, e) in
    rw (same, h.0, h.1) refl
reached-records cfg s s2 xs ys (r ∷ rs) zero n e h =
    let bad : 0 ≡ suc (length rs) + n = e in absurd (omega (arith, bad))
reached-records cfg s s2 xs ys (r ∷ rs) (suc m) n e h =
    let less : m ≡ length rs + n = omega (arith, e) in
    rw (h.1, h.2) (ap (λ (t : List Fields). h.0.0 ∷ t) (reached-records cfg h.0.1 s2 h.0.2 ys rs m n less h.3))

no-records : (cfg : Config) (s : State) (ys : List ℕ) (n : ℕ) → next_record cfg s [] [] ys ≡ None
    → records_from cfg n s ys ≡ []
unfolding records_from
no-records cfg s ys zero e = refl
no-records cfg s ys (suc n) e = rw e refl

-- all records of a text, by those that were reached
records-reached : (cfg : Config) (s s2 : State) (xs ys : List ℕ) (rows : List Fields) → ends_at_end s ≡ false
    → Reached cfg s xs rows s2 ys
    → (n : ℕ) × (records_from cfg (length xs + 1) s xs ≡ rows ++ records_from cfg n s2 ys)
records-reached cfg s s2 xs ys rows q h =
    let room = reached-length cfg s s2 xs ys rows q h in
    let n : ℕ = length xs + 1 - length rows in
    (n, reached-records cfg s s2 xs ys rows (length xs + 1) n (omega (arith, room)) h)

-- as many records as a text has bytes are all, and so are more
pub enough : (cfg : Config) (s : State) (ys : List ℕ) (m n : ℕ) → ends_at_end s ≡ false → length ys < m → length ys < n
    → records_from cfg m s ys ≡ records_from cfg n s ys
unfolding records_from
enough cfg s ys zero n q a b = absurd (omega (arith, a))
enough cfg s ys (suc m) zero q a b = absurd (omega (arith, b))
enough cfg s ys (suc m) (suc n) q a b =
    by (next_record cfg s [] [] ys) refl (λ p. enough cfg p.1 p.2 m n)
  where
    by : (o : Option Read) → next_record cfg s [] [] ys ≡ o
        → ((p : Read) → ends_at_end p.1 ≡ false → length p.2 < m → length p.2 < n
        → records_from cfg m p.1 p.2 ≡ records_from cfg n p.1 p.2)
        → records_next (records_from cfg m) o ≡ records_next (records_from cfg n) o
    by None e more = refl
    by (Some p) e more =
        let after = record-quiet cfg s [] [] ys p e in
        let less = after.2 q in
        ap (λ (rs : List Fields). p.0 ∷ rs) (more p after.0 (omega (arith, a, less)) (omega (arith, b, less)))

reading-or : List Entry → Reading → List Entry
reading-or d (Ok z) = z
reading-or d (Err e) = d

pub ok-eq : (x y : List Entry) → ◌≡◌ {A = Reading} (Ok x) (Ok y) → x ≡ y
unfolding reading-or
ok-eq x y e = ap (reading-or x) e

pub joined-none : (r : Reading) → joined [] r ≡ r
joined-none (Ok xs) = refl
joined-none (Err e) = refl

pub joined-twice : (xs ys : List Entry) (r : Reading) → joined xs (joined ys r) ≡ joined (xs ++ ys) r
joined-twice xs ys (Ok zs) = ap Ok (sym (append_assoc xs ys zs))
joined-twice xs ys (Err e) = refl

-- what some records add, and then what the others do
pub items-more : (layout : Layout) (n t : ℕ) (xs : List Entry) (ps qs : List Parts) → items_after layout n t ps ≡ Ok xs
    → items_after layout n t (ps ++ qs) ≡ joined xs (items_after layout (n + length ps) (t + total_of xs) qs)
unfolding items_after
items-more layout n t xs [] qs e =
    let same : [] ≡ xs = ok-eq [] xs e in
    let none : n + length {A = Parts} [] ≡ n = omega arith in
    let zero : t + 0 ≡ t = omega arith in
    rw (← same, none, zero) (sym (joined-none (items_after layout n t qs)))
items-more layout n t xs (p ∷ ps) qs e =
    by (adds layout t p) e (λ es ys. items-more layout (n + 1) (t + total_of es) ys ps qs)
  where
    More : Type 0
    More = (es ys : List Entry) → items_after layout (n + 1) (t + total_of es) ps ≡ Ok ys
        → items_after layout (n + 1) (t + total_of es) (ps ++ qs)
        ≡ joined ys (items_after layout (n + 1 + length ps) (t + total_of es + total_of ys) qs)

    go : (es : List Entry) (r : Reading) → items_after layout (n + 1) (t + total_of es) ps ≡ r → joined es r ≡ Ok xs
        → More
        → joined es (items_after layout (n + 1) (t + total_of es) (ps ++ qs))
        ≡ joined xs (items_after layout (n + suc (length ps)) (t + total_of xs) qs)
    go es (Err x) f e more = cc e
    go es (Ok ys) f e more =
        let both : es ++ ys ≡ xs = ok-eq (es ++ ys) xs e in
        let sum = sum_by-append (λ (e : Entry). e.1) es ys in
        let number : n + 1 + length ps ≡ n + suc (length ps) = omega arith in
        let total : t + total_of es + total_of ys ≡ t + total_of (es ++ ys) = omega (arith, sum) in
        rw (← both, ← number, ← total) (ap (joined es) (more es ys f)
        ∙ joined-twice es ys (items_after layout (n + 1 + length ps) (t + total_of es + total_of ys) qs))

    by : (o : Result (List Entry) BadRecordCause)
        → adding_next o n (λ es. items_after layout (n + 1) (t + total_of es) ps) ≡ Ok xs
        → More
        → adding_next o n (λ es. items_after layout (n + 1) (t + total_of es) (ps ++ qs))
        ≡ joined xs (items_after layout (n + suc (length ps)) (t + total_of xs) qs)
    by (Ok es) e more = go es (items_after layout (n + 1) (t + total_of es) ps) refl e more
    by (Err x) e more = cc e

-- what was read of a text from a state on, where so many records and a total of t came before: these
-- records, which add these items
abbrev pub ReadSoFar : Config → (Fields → Parts) → Layout → State → ℕ → ℕ → Option (List ℕ) → Option (List ℕ) → State
    → List Entry → ℕ → Type 0
ReadSoFar cfg f layout s0 before t None now s xs n = ⊤
ReadSoFar cfg f layout s0 before t (Some text) now s xs n =
    (y : List ℕ) × (now ≡ Some y) × (rows : List Fields)
    × Reached cfg s0 text rows s y
    × (items_after layout (before + 1) t (map f rows) ≡ Ok xs) × (before + length rows ≡ n)

-- where bytes between two records are known, the state is one there
pub between-known : (s : State) (o : Option (List ℕ)) → IfSome (between s o) (λ bytes. ends_at_end s ≡ false)
between-known s o = by (ends_at_end s) refl o
  where
    by : (b : Bool) → ends_at_end s ≡ b → (o : Option (List ℕ))
        → IfSome (if b then None else o) (λ bytes. ends_at_end s ≡ false)
    by true e o = tt
    by false e None = tt
    by false e (Some bytes) = e

-- the parts of all records that a text has from a state on
abbrev pub left_from : Config → (Fields → Parts) → State → Option (List ℕ) → Option (List Parts)
left_from cfg f s0 known = option_map (λ text. map f (records_from cfg (length text + 1) s0 text)) known

module _ (cfg : Config) (f : Fields → Parts) (layout : Layout) (s0 : State) (before t : ℕ) where
  -- before the first record
  pub read-start : (now : Option (List ℕ)) → ReadSoFar cfg f layout s0 before t (between s0 now) now s0 [] before
  unfolding Reached items_after
  read-start now = by (ends_at_end s0) now
    where
      by : (b : Bool) (now : Option (List ℕ))
          → ReadSoFar cfg f layout s0 before t (if b then None else now) now s0 [] before
      by true now = tt
      by false None = tt
      by false (Some text) = (text, refl, [], (refl, refl), refl, omega arith)

  -- after n records, which add xs, the reader a reads to b
  module _ {R : Type 0} (rem : R → Option (List ℕ)) (a b : Reader R) (row : Fields) (xs : List Entry) (n : ℕ)
      (config : a.config ≡ cfg) where
    -- one more record
    pub read-more : (known : Option (List ℕ)) (es : List Entry)
        → ReadSoFar cfg f layout s0 before t known (source_of rem a) a.state xs n
        → ReadRecord rem a b true row → adds layout (t + total_of xs) (f row) ≡ Ok es
        → ReadSoFar cfg f layout s0 before t known (source_of rem b) b.state (xs ++ es) (n + 1)
    unfolding items_after
    read-more None es h r j = tt
    read-more (Some text) es (y, source, rows, reached, items, count) r j =
        let (z, at, more) = rows-more rem a b row cfg s0 text y rows config source reached r in
        let size = length-append rows (row ∷ []) in
        let all : map f (rows ++ row ∷ []) ≡ map f rows ++ f row ∷ [] = map-append f rows (row ∷ []) in
        let added : items_after layout (before + 1) t (map f (rows ++ row ∷ [])) ≡ Ok (xs ++ es) =
        rw (all, items-more layout (before + 1) t xs (map f rows) (f row ∷ []) items, j, append-nil es) refl in
        (z, at, rows ++ row ∷ [], more, added, omega (arith, size, count))

    -- no more records
    pub read-end : (known : Option (List ℕ)) → IfSome known (λ bytes. ends_at_end s0 ≡ false)
        → ReadSoFar cfg f layout s0 before t known (source_of rem a) a.state xs n
        → ReadRecord rem a b false row
        → IfSome (left_from cfg f s0 known)
        (λ ps. (items_after layout (before + 1) t ps ≡ Ok xs) × (n ≡ before + length ps))
    read-end None q h r = tt
    read-end (Some text) q (y, source, rows, reached, items, count) r =
        let none = rows-end rem a b row cfg y config source r in
        let (m, all) = records-reached cfg s0 a.state text y rows q reached in
        let size = length-map rows f in
        rw (all, no-records cfg a.state y m none, append-nil rows) (items, omega (arith, size, count))

    -- a record that was not taken
    pub read-refused : (known : Option (List ℕ)) (x : TextError) → IfSome known (λ bytes. ends_at_end s0 ≡ false)
        → ReadSoFar cfg f layout s0 before t known (source_of rem a) a.state xs n
        → ReadRecord rem a b true row → RecordRefused (n + 1) (adds layout (t + total_of xs) (f row)) x
        → RowsRefused layout before t (left_from cfg f s0 known) x
    unfolding items_after
    read-refused known text.Memory q h r j = tt
    read-refused None (text.BadRecord l x) q h r j = tt
    read-refused (Some bytes) (text.BadRecord l x) q (y, source, rows, reached, items, count) r (same, j) =
        let (z, at, more) = rows-more rem a b row cfg s0 bytes y rows config source reached r in
        let (m, all) = records-reached cfg s0 b.state bytes z (rows ++ row ∷ []) q more in
        let rest = records_from cfg m b.state z in
        let parts : map f (rows ++ row ∷ rest) ≡ map f rows ++ f row ∷ map f rest = map-append f rows (row ∷ rest) in
        let size = length-map rows f in
        let number : before + 1 + length (map f rows) ≡ n + 1 = omega (arith, size, count) in
        rw (
          same,
          all,
          append_assoc rows (row ∷ []) rest,
          parts,
          items-more layout (before + 1) t xs (map f rows) (f row ∷ map f rest) items,
          j,
          number,
        ) refl
    read-refused known _ q h r j = absurd j

-- ---- the layout of a key and its weight
unadded : (x : BadRecordCause) → added false (Err x) ≡ Err x
unadded cause.FieldCount = refl
unadded cause.EmptyKey = refl
unadded cause.KeyTooLong = refl
unadded cause.BadWeight = refl
unadded cause.ZeroWeight = refl
unadded cause.TotalTooLarge = refl

-- a layout of whole numbers but 0
module _ (layout : Layout) (no_zero : layout.allow_zero ≡ false) (whole : layout.decimals ≡ 0)
    (no_bad : layout.bad_as ≡ None) where
  plain-itself : (p : Parts) → adds_itself layout p ≡ added false (item_of_parts p)
  plain-itself None = refl
  plain-itself (Some (k, None)) = rw (no_zero, whole) refl
  plain-itself (Some (k, Some f)) = rw (no_zero, whole, units-whole f) refl

  -- where bad records count as no key
  as-they-are : (r : Result (List Entry) BadRecordCause) → counted_as layout r ≡ r
  as-they-are (Ok es) = refl
  as-they-are (Err c) = ap (λ bad. adds_instead layout (option_map (λ bad. bad.key.items) bad) c) no_bad

  -- an item alone is added where it fits
  one-after : (t : ℕ) (r : Result Entry BadRecordCause) → added_after t (added false r) ≡ added false (item_after t r)
  one-after t (Ok e) =
      let sum = sum_by-cons (λ (e : Entry). e.1) e [] in
      let alone : t + total_of (e ∷ []) ≡ t + e.1 = omega (arith, sum) in
      ap (λ n. if nat_le n max_total then Ok (e ∷ []) else Err cause.TotalTooLarge) alone ∙ by (nat_le (t + e.1) max_total)
    where
      by : (b : Bool) → (if b then Ok (e ∷ []) else Err cause.TotalTooLarge) ≡ added false (if b then Ok e else Err cause.TotalTooLarge)
      by true = refl
      by false = refl
  one-after t (Err c) = rw (unadded c) refl

  plain-adds : (t : ℕ) (p : Parts) → adds layout t p ≡ added false (item_after t (item_of_parts p))
  plain-adds t p =
      ap (added_after t) (as-they-are (adds_itself layout p) ∙ plain-itself p) ∙ one-after t (item_of_parts p)

  -- what records add are their items
  same-items : (n : ℕ) (xs : List Entry) (rows : List Fields)
      → joined xs (items_after layout n (total_of xs) (map parts_of rows)) ≡ items_from n xs rows
  unfolding items_after items_from
  same-items n xs [] = ap Ok (append-nil xs)
  same-items n xs (r ∷ rows) =
      rw (plain-adds (total_of xs) (parts_of r))
      (by (item_after (total_of xs) (item_of_parts (parts_of r))) (λ e. same-items (n + 1) (xs ++ e ∷ []) rows))
    where
      by : (o : Result Entry BadRecordCause)
          → ((e : Entry) → joined (xs ++ e ∷ []) (items_after layout (n + 1) (total_of (xs ++ e ∷ [])) (map parts_of rows))
          ≡ items_from (n + 1) (xs ++ e ∷ []) rows)
          → joined xs (adding_next (added false o) n (λ es. items_after layout (n + 1) (total_of xs + total_of es) (map parts_of rows)))
          ≡ reading_next o n (λ e. items_from (n + 1) (xs ++ e ∷ []) rows)
      by (Ok e) more =
          let sum = sum_by-append (λ (e : Entry). e.1) xs (e ∷ []) in
          joined-twice xs (e ∷ []) _ ∙ rw (← sum) (more e)
      by (Err x) more = rw (unadded x) refl

-- of a layout that names nothing the parts are those of keys and weights
module _ (layout : Layout) (plain : IsPlain layout) where
  plain-config : config_of layout ≡ default_config
  plain-config =
      ap (λ f. configured (has_quotes f) (byte_between f layout.delimiter)) plain.csv ∙ ap (configured true) plain.delimiter

  plain-columns : columns_in layout [] ≡ Some None
  plain-columns = rw (plain.no_key, plain.no_weight) refl

  plain-rows : (rows : List Fields) → map (parts_at layout None) rows ≡ map parts_of rows
  plain-rows [] = refl
  plain-rows (r ∷ rows) =
      let one : parts_at layout None r ≡ parts_of r =
      ap (λ f. parts_by None (part_said layout.part) (fields_by f (member_names layout) r)) plain.csv
      ∙ whole-parts (part_said layout.part) r plain.whole_field in
      ap (λ (p : Parts). p ∷ map (parts_at layout None) rows) one
      ∙ ap (λ (ps : List Parts). parts_of r ∷ ps) (plain-rows rows)

  plain-text : (text : List ℕ) → text_parts layout text ≡ Some (map parts_of (records default_config (strip_bom text)))
  plain-text text =
      let rows = records (config_of layout) (strip_bom text) in
      ap (λ b. if b then headed_parts layout rows else option_map (λ at. map (parts_at layout at) rows) (columns_in layout []))
      plain.no_header
      ∙ ap (option_map (λ at. map (parts_at layout at) rows)) plain-columns
      ∙ ap Some (plain-rows rows)
      ∙ ap (λ cfg. Some (map parts_of (records cfg (strip_bom text)))) plain-config

  plain-parts : (text : List ℕ)
      → texts_parts layout (text ∷ []) ≡ Some (map parts_of (records default_config (strip_bom text)))
  unfolding gathered
  plain-parts text =
      let nothing = append-nil (map parts_of (records default_config (strip_bom text))) in rw (plain-text text, nothing) refl

-- such a layout reads a text as its stream
pub plain-layouts : PlainLayoutsReadStreams
plain-layouts layout text plain =
    let rows = records default_config (strip_bom text) in
    ap (option_map (items_after layout 1 0)) (plain-parts layout plain text)
    ∙ ap Some (sym (joined-none (items_after layout 1 0 (map parts_of rows)))
    ∙ same-items layout plain.no_zero plain.whole plain.no_bad 1 [] rows)
