-- A text of bytes reads as keys and weights.
use Rattle.std.proofs.Common.{◌≡◌, ◌≤◌, ◌<◌, ◌+◌, ◌∷◌, ◌++◌, ℕ, suc, zero, List, [], length, Bool, true, false, Option, Some, None, Result, Ok, Err, inl, inr, refl, ap, subst, arith}
use Rattle.std.specs.Prelude.{All, if◌then◌else◌}
use Rattle.std.proofs.lemmas.Bool.Decides.{eqb_tells, leb_tells}
use Rattle.std.proofs.lemmas.List.Elements.{All-cons, All-from_get_or, All-from_recursion, All-get_or, All-head, All-nil, All-push, All-tail, recursion_from_All}
use Rattle.std.proofs.lemmas.List.Sums.{sum_by_push}
use Rattle.csv.specs.Machine.{ends_at_end, field_after, fields_after, is_end, next_record, step, Read}
use Rattle.csv.specs.Reading.{default_config, is_bom, records_from, records_next, strip_bom}
use Rattle.csv.specs.declared.parser.Action.{Action}
use Rattle.csv.specs.declared.parser.Action.TheVariants as act
use Rattle.csv.specs.declared.parser.Config.{Config}
use Rattle.csv.specs.declared.parser.State.{State}
use Rattle.csv.specs.declared.parser.State.TheVariants as st
use Rattle.hh_stream.specs.Weights.{AreItems, Entry, IsKey, max_key_len, max_total, total_of}
use Rattle.hh_records.specs.Laws.{TextsAreItems}
use Rattle.hh_records.specs.Streams.{Fields, item_after, item_of_fields, item_of_pair, item_of_parts, items_from, parts_of, reading_next, field_weight, weight_or_cause}
use Rattle.hh_faults.specs.declared.records.BadRecordCause.{BadRecordCause}

-- ---- records of bytes
abbrev IsByte : ℕ → Type 0
IsByte b = b < 256

abbrev AreBytes : List ℕ → Type 0
AreBytes bytes = All IsByte bytes

abbrev HaveBytes : Fields → Type 0
HaveBytes fields = All AreBytes fields

fields_stay : (a : Action) (f : Fields) (p : List ℕ) → HaveBytes f → AreBytes p → HaveBytes (fields_after a f p)
fields_stay act.EndField f p fields field = All-push AreBytes f p fields field
fields_stay act.EndRecord f p fields field = All-push AreBytes f p fields field
fields_stay act.Skip f p fields field = fields
fields_stay act.Copy f p fields field = fields

field_stays : (a : Action) (c : ℕ) (p : List ℕ) → IsByte c → AreBytes p → AreBytes (field_after a c p)
field_stays act.Copy c p byte field = All-push IsByte p c field byte
field_stays act.EndField c p byte field = All-nil IsByte
field_stays act.EndRecord c p byte field = All-nil IsByte
field_stays act.Skip c p byte field = field

-- what a record and the text after it are made of
abbrev HasBytes : Read → Type 0
HasBytes q = HaveBytes q.0 × AreBytes q.2

record_bytes : (cfg : Config) (s : State) (f : Fields) (p xs : List ℕ) (q : Read) → HaveBytes f → AreBytes p
    → AreBytes xs → next_record cfg s f p xs ≡ Some q → HasBytes q
unfolding next_record
record_bytes cfg s f p [] q fields field bytes e = by (ends_at_end s) e
  where
    by : (b : Bool) → (if b then Some (f ++ (p ∷ []), st.StartRecord, []) else None) ≡ Some q → HasBytes q
    by true e =
        let same : ◌≡◌ {A = Read} (f ++ (p ∷ []), st.StartRecord, []) q = cc e in
        subst HasBytes same (All-push AreBytes f p fields field, All-nil IsByte)
    by false e = absurd (cc e)
record_bytes cfg s f p (c ∷ rest) q fields field bytes e =
    let first = All-head IsByte c rest bytes in
    let others = All-tail IsByte c rest bytes in
    let a = (step cfg s c).1 in
    let more = fields_stay a f p fields field in
    by (is_end a) _ _ more e
    (record_bytes cfg (step cfg s c).0 _ _ rest q more (field_stays a c p first field) others)
  where
    by : (b : Bool) (g : Fields) (next : Option Read) → HaveBytes g
        → (if b then Some (g, (step cfg s c).0, rest) else next) ≡ Some q → (next ≡ Some q → HasBytes q) → HasBytes q
    by true g next kept e others =
        let same : ◌≡◌ {A = Read} (g, (step cfg s c).0, rest) q = cc e in
        subst HasBytes same (kept, All-tail IsByte c rest bytes)
    by false g next kept e others = others e

records_bytes : (cfg : Config) (n : ℕ) (s : State) (xs : List ℕ) → AreBytes xs → All HaveBytes (records_from cfg n s xs)
unfolding records_from
records_bytes cfg zero s xs bytes = All-nil HaveBytes
records_bytes cfg (suc n) s xs bytes = by (next_record cfg s [] [] xs) refl (λ t ys more. records_bytes cfg n t ys more)
  where
    by : (o : Option Read) → next_record cfg s [] [] xs ≡ o
        → ((t : State) (ys : List ℕ) → AreBytes ys → All HaveBytes (records_from cfg n t ys))
        → All HaveBytes (records_next (records_from cfg n) o)
    by None is more = All-nil HaveBytes
    by (Some q) is more =
        let (fields, rest) = record_bytes cfg s [] [] xs q (All-nil AreBytes) (All-nil IsByte) bytes is in
        All-cons HaveBytes q.0 (records_from cfg n q.1 q.2) fields (more q.1 q.2 rest)

strip_bytes : (text : List ℕ) → AreBytes text → AreBytes (strip_bom text)
unfolding strip_bom
strip_bytes [] bytes = bytes
strip_bytes (a ∷ []) bytes = bytes
strip_bytes (a ∷ b ∷ []) bytes = bytes
strip_bytes (a ∷ b ∷ c ∷ rest) bytes = by (is_bom a b c)
  where
    by : (mark : Bool) → AreBytes (if mark then rest else a ∷ b ∷ c ∷ rest)
    by true = All-tail IsByte c rest (All-tail IsByte b (c ∷ rest) (All-tail IsByte a (b ∷ c ∷ rest) bytes))
    by false = bytes

-- ---- items of records
some_weight : (o : Option ℕ) (v : ℕ) → weight_or_cause o ≡ Ok v → 0 < v
some_weight None v is = absurd (cc is)
some_weight (Some w) v is = elim (eqb_tells w 0) [
  | inl (e, _) ↦ absurd (cc (rw e at is))
  | inr (e, some) ↦ let same : w ≡ v = cc (rw e at is) in omega (arith, some, same)
]

pair_is : (k : List ℕ) (r : Result ℕ BadRecordCause) (e : Entry) → item_of_pair k r ≡ Ok e → (k ≡ e.0) × (r ≡ Ok e.1)
pair_is k (Ok w) e is = let same : ◌≡◌ {A = Entry} (k, w) e = cc is in (ap (λ p. p.0) same, ap (λ p. Ok p.1) same)
pair_is k (Err c) e is = absurd (cc is)

-- an item that a record gives
abbrev IsItem : Entry → Type 0
IsItem e = IsKey e.0 × (0 < e.1)

parts_give : (k : List ℕ) (o : Option (List ℕ)) (e : Entry) → AreBytes k → item_of_parts (Some (k, o)) ≡ Ok e
    → IsItem e
parts_give k o e bytes is = elim (eqb_tells (length k) 0) [
  | inl (empty, _) ↦ absurd (cc (rw empty at is))
  | inr (empty, some) ↦ elim (leb_tells (length k) max_key_len) [
    | inl (short, few) ↦
        let (key, weight) = pair_is k (weight_or_cause (field_weight o)) e (rw (empty, short) at is) in
        let lawful : IsKey k = record {
          some = omega (arith, some);
          few = few;
          bytes = λ i lt. All-get_or IsByte k i 0 lt bytes;
        } in
        (subst IsKey key lawful, some_weight (field_weight o) e.1 weight)
    | inr (short, _) ↦ absurd (cc (rw (empty, short) at is))
  ]
]

record_gives : (r : Fields) (e : Entry) → HaveBytes r → item_of_parts (parts_of r) ≡ Ok e → IsItem e
record_gives [] e bytes is = absurd (cc is)
record_gives (k ∷ []) e bytes is = parts_give k None e (All-head AreBytes k [] bytes) is
record_gives (k ∷ f ∷ []) e bytes is = parts_give k (Some f) e (All-head AreBytes k (f ∷ []) bytes) is
record_gives (k ∷ f ∷ g ∷ rest) e bytes is = absurd (cc is)

-- an item that is added after a total of t is one before it, and fits
after_fits : (t : ℕ) (r : Result Entry BadRecordCause) (e : Entry) → item_after t r ≡ Ok e
    → (r ≡ Ok e) × (t + e.1 ≤ max_total)
after_fits t (Err c) e is = absurd (cc is)
after_fits t (Ok d) e is = elim (leb_tells (t + d.1) max_total) [
  | inl (f, le) ↦ let same : d ≡ e = cc (rw f at is) in (ap Ok same, rw (← same) le)
  | inr (f, _) ↦ absurd (cc (rw f at is))
]

abbrev HasKey : Entry → Type 0
HasKey e = IsKey e.0

abbrev HasWeight : Entry → Type 0
HasWeight e = 0 < e.1

one_more : (xs : List Entry) (e : Entry) → AreItems xs → IsItem e → AreItems (xs ++ e ∷ [])
one_more xs e (keys, weights) (key, some) = (
  recursion_from_All HasKey (xs ++ e ∷ []) (All-push HasKey xs e (All-from_recursion HasKey xs keys) key),
  All-push HasWeight xs e weights some,
)

all_items : (n : ℕ) (xs ys : List Entry) (rs : List Fields) → All HaveBytes rs → AreItems xs → total_of xs ≤ max_total
    → items_from n xs rs ≡ Ok ys → AreItems ys × (total_of ys ≤ max_total)
unfolding items_from
all_items n xs ys [] bytes items fits is =
    let same : xs ≡ ys = cc is in subst (λ (zs : List Entry). AreItems zs × (total_of zs ≤ max_total)) same (items, fits)
all_items n xs ys (r ∷ rs) bytes items fits is =
    by (item_of_fields (total_of xs) r) refl is (λ zs kept within. all_items (n + 1) zs ys rs (All-tail HaveBytes r rs bytes) kept within)
  where
    by : (o : Result Entry BadRecordCause) → item_of_fields (total_of xs) r ≡ o
        → reading_next o n (λ p. items_from (n + 1) (xs ++ p ∷ []) rs) ≡ Ok ys
        → ((zs : List Entry) → AreItems zs → total_of zs ≤ max_total → items_from (n + 1) zs rs ≡ Ok ys
        → AreItems ys × (total_of ys ≤ max_total))
        → AreItems ys × (total_of ys ≤ max_total)
    by (Err c) given is more = absurd (cc is)
    by (Ok e) given is more =
        let (itself, within) = after_fits (total_of xs) (item_of_parts (parts_of r)) e given in
        let item = record_gives r e (All-head HaveBytes r rs bytes) itself in
        let total = sum_by_push (λ (d : Entry). d.1) xs e in
        more (xs ++ e ∷ []) (one_more xs e items item) (rw total within) is

-- what a text of bytes reads as has keys and weights, of a total in range
pub texts_are_items : TextsAreItems
texts_are_items text xs bytes is =
    let stripped = strip_bytes text (All-from_get_or IsByte text 0 bytes) in
    all_items 1 [] xs _ (records_bytes default_config _ st.StartRecord (strip_bom text) stripped)
    (tt, All-nil HasWeight) (omega arith) is
