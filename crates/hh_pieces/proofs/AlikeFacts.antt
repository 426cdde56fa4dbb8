-- What a layout makes of a record doesn't depend on the ends of its long fields, nor on the fields behind those that it reads.
use Rattle.std.proofs.Common.{◌≡◌, ◌≤◌, ◌<◌, ◌+◌, ◌∷◌, ◌++◌, ◌∙◌, inl, inr, ℕ, suc, zero, List, [], length, map, take, drop, Bool, true, false, Option, Some, None, Err, refl, sym, ap, arith, length-append, length-drop, length-take, take_all}
use Rattle.std.specs.Prelude.{⊤, All, SomeIff, ◌⊎◌, ◌^◌, ◌==◌, ◌&&◌, IfSome, not, nat_le, option_map, option_and_then, if◌then◌else◌}
use Rattle.std.specs.List.{AllByRecursion, filter, list_all}
use Rattle.std.specs.Option.{option_zip}
use Rattle.std.proofs.lemmas.Bool.{lt-leb, ne_eqb}
use Rattle.std.proofs.lemmas.List.{map-id}
use Rattle.std.proofs.lemmas.List.Elements.{All-weaker, recursion_from_All}
use native.Mathlib.Decide.{dec_lt}
use Rattle.csv.specs.Records.{field_at}
use Rattle.csv.specs.Writing.{default_writer, escaped, field_text, fields_text, needs_quotes}
use Rattle.hh_stream.specs.Digits.{is_digit, is_number}
use Rattle.hh_stream.specs.Weights.{max_key_len}
use Rattle.hh_records.specs.Decimals.{is_whole, point_from, units_at, units_of}
use Rattle.hh_records.specs.Formats.{Names, Part, fields_by, is_empty, is_whole_field, part_said, with_part}
use Rattle.hh_records.specs.Layouts.{Columns, adds, every, fields_at, is_hyphen, key_of, member_names, parts_at, parts_by, weight_at, weight_by}
use Rattle.hh_records.specs.Streams.{Fields, Parts, item_of_key, parts_of}
use Rattle.hh_records.specs.declared.format.Format.{Format}
use Rattle.hh_records.specs.declared.format.Format.TheVariants as format
use Rattle.hh_records.specs.declared.layout.Layout.{Layout}
use Rattle.hh_faults.specs.declared.records.BadRecordCause.TheVariants as cause
use Rattle.hh_records.proofs.FormatFacts.{whole-parts, with-whole}
use Rattle.hh_pieces.specs.LongRecords.{ReadsWithin, filled, first_ones, kept_of}
use Rattle.hh_pieces.specs.declared.long_record.Limits.{Limits}

-- ---- fields and records that are alike
-- two fields are one, or both too long for a key
abbrev AlikeField : List ℕ → List ℕ → Type 0
AlikeField f g = (f ≡ g) ⊎ ((max_key_len < length f) × (max_key_len < length g))

-- records with as many fields, which are alike one by one
abbrev AlikeFields : Fields → Fields → Type 0
AlikeFields [] [] = ⊤
AlikeFields [] (g ∷ gs) = ⊥
AlikeFields (f ∷ fs) [] = ⊥
AlikeFields (f ∷ fs) (g ∷ gs) = AlikeField f g × AlikeFields fs gs

-- ---- a weight's field that is long
number-short : (most : ℕ) (f : List ℕ) → most < length f → is_number most f ≡ false
number-short most f h = rw (lt-leb (length f) most h) (by (not (length f == 0)))
  where
    by : (b : Bool) → (b && false && list_all is_digit f) ≡ false
    by true = refl
    by false = refl

whole-short : (f : List ℕ) → 20 < length f → is_whole f ≡ false
whole-short f h =
    let some : (length f == 0) ≡ false = ne_eqb (length f) 0 (λ e. omega (arith, e, h)) in
    rw (number-short 20 f h, some) refl

hyphen-short : (f : List ℕ) → 1 < length f → is_hyphen f ≡ false
hyphen-short [] h = refl
hyphen-short (b ∷ []) h = absurd (omega (arith, h))
hyphen-short (b ∷ c ∷ f) h = refl

units-long : (d : ℕ) (f : List ℕ) (o : Option ℕ) → d ≤ 255 → max_key_len < length f → units_at d f o ≡ None
units-long d f None few h = rw (number-short 20 f (omega (arith, h))) refl
units-long d f (Some i) few h =
    elim (dec_lt 20 i) [
      | yes far ↦
          let size = length-take i f in
          rw (whole-short (take i f) (omega (arith, size, far, h))) refl
      | no near ↦
          let size = length-drop (i + 1) f in
          let short : is_number d (drop (i + 1) f) ≡ false = number-short d (drop (i + 1) f) (omega (arith, size, near, few, h)) in
          rw short (by (is_whole (take i f)) _)
    ]
  where
    by : (b : Bool) (n : ℕ) → (if b && false then Some n else None) ≡ None
    by true n = refl
    by false n = refl

-- ---- fields that are alike
abbrev AlikeOption : Option (List ℕ) → Option (List ℕ) → Type 0
AlikeOption None None = ⊤
AlikeOption None (Some g) = ⊥
AlikeOption (Some f) None = ⊥
AlikeOption (Some f) (Some g) = AlikeField f g

abbrev AlikeMany : Option Fields → Option Fields → Type 0
AlikeMany None None = ⊤
AlikeMany None (Some g) = ⊥
AlikeMany (Some f) None = ⊥
AlikeMany (Some f) (Some g) = AlikeFields f g

at-alike : (fs gs : Fields) (i : ℕ) → AlikeFields fs gs → AlikeOption (field_at fs i) (field_at gs i)
unfolding field_at
at-alike [] [] i h = tt
at-alike [] (g ∷ gs) i h = absurd h
at-alike (f ∷ fs) [] i h = absurd h
at-alike (f ∷ fs) (g ∷ gs) zero h = h.0
at-alike (f ∷ fs) (g ∷ gs) (suc i) h = at-alike fs gs i h.1

fields-alike : (fs gs : Fields) (is : List ℕ) → AlikeFields fs gs → AlikeMany (fields_at fs is) (fields_at gs is)
unfolding every
fields-alike fs gs [] h = tt
fields-alike fs gs (i ∷ is) h = by _ _ _ _ (at-alike fs gs i h) (fields-alike fs gs is h)
  where
    by : (x y : Option (List ℕ)) (xs ys : Option Fields) → AlikeOption x y → AlikeMany xs ys
        → AlikeMany (option_and_then (λ (y : List ℕ). option_map (λ (ys : Fields). y ∷ ys) xs) x)
        (option_and_then (λ (y : List ℕ). option_map (λ (ys : Fields). y ∷ ys) ys) y)
    by None None xs ys h k = tt
    by None (Some y) xs ys h k = absurd h
    by (Some x) None xs ys h k = absurd h
    by (Some x) (Some y) None None h k = tt
    by (Some x) (Some y) None (Some ys) h k = absurd k
    by (Some x) (Some y) (Some xs) None h k = absurd k
    by (Some x) (Some y) (Some xs) (Some ys) h k = (h, k)

-- ---- a key of several fields
escaped-length : (f : List ℕ) → length f ≤ length (escaped default_writer f)
unfolding escaped
escaped-length [] = omega arith
escaped-length (b ∷ f) = by (b == 34) (escaped-length f)
  where
    by : (e : Bool) → length f ≤ length (escaped default_writer f)
        → length (b ∷ f) ≤ length (if e then 34 ∷ b ∷ escaped default_writer f else b ∷ escaped default_writer f)
    by true h = omega (arith, h)
    by false h = omega (arith, h)

text-length : (f : List ℕ) → length f ≤ length (field_text default_writer f)
text-length f = by (needs_quotes default_writer f)
  where
    by : (e : Bool) → length f ≤ length (if e then 34 ∷ (escaped default_writer f ++ 34 ∷ []) else f)
    by true =
        let long = escaped-length f in
        let size = length-append (escaped default_writer f) (34 ∷ []) in
        omega (arith, long, size)
    by false = omega arith

-- what is written of fields that are alike is alike
written-alike : (f g xs ys : List ℕ) → AlikeField f g → AlikeField xs ys
    → AlikeField (field_text default_writer f ++ xs) (field_text default_writer g ++ ys)
written-alike f g xs ys (inl e) (inl k) = inl (rw (e, k) refl)
written-alike f g xs ys (inl e) (inr k) =
    let first = length-append (field_text default_writer f) xs in
    let second = length-append (field_text default_writer g) ys in
    inr (omega (arith, k.0, first), omega (arith, k.1, second))
written-alike f g xs ys (inr e) k =
    let first = length-append (field_text default_writer f) xs in
    let second = length-append (field_text default_writer g) ys in
    let one = text-length f in
    let two = text-length g in
    inr (omega (arith, e.0, one, first), omega (arith, e.1, two, second))

byte-alike : (b : ℕ) (xs ys : List ℕ) → AlikeField xs ys → AlikeField (b ∷ xs) (b ∷ ys)
byte-alike b xs ys (inl e) = inl (ap (λ (t : List ℕ). b ∷ t) e)
byte-alike b xs ys (inr e) = let one = e.0 in let two = e.1 in inr (omega (arith, one), omega (arith, two))

texts-alike : (fs gs : Fields) → AlikeFields fs gs → AlikeField (fields_text default_writer fs) (fields_text default_writer gs)
unfolding fields_text
texts-alike [] [] h = inl refl
texts-alike [] (g ∷ gs) h = absurd h
texts-alike (f ∷ fs) [] h = absurd h
texts-alike (f ∷ fs) (g ∷ gs) h = byte-alike 44 _ _ (written-alike f g _ _ h.0 (texts-alike fs gs h.1))

key-alike : (fs gs : Fields) → AlikeFields fs gs → AlikeField (key_of fs) (key_of gs)
key-alike [] [] h = inl refl
key-alike [] (g ∷ gs) h = absurd h
key-alike (f ∷ fs) [] h = absurd h
key-alike (f ∷ []) (g ∷ []) h = h.0
key-alike (f ∷ []) (g ∷ i ∷ gs) h = absurd h.1
key-alike (f ∷ e ∷ fs) (g ∷ []) h = absurd h.1
key-alike (f ∷ e ∷ fs) (g ∷ i ∷ gs) h = written-alike f g _ _ h.0 (texts-alike (e ∷ fs) (i ∷ gs) h.1)

-- ---- keys and weights
abbrev AlikeParts : Parts → Parts → Type 0
AlikeParts None None = ⊤
AlikeParts None (Some q) = ⊥
AlikeParts (Some p) None = ⊥
AlikeParts (Some p) (Some q) = AlikeField p.0 q.0 × AlikeOption p.1 q.1

pair-alike : (fs gs : Fields) → AlikeFields fs gs → AlikeParts (parts_of fs) (parts_of gs)
pair-alike [] [] h = tt
pair-alike [] (g ∷ gs) h = absurd h
pair-alike (f ∷ fs) [] h = absurd h
pair-alike (f ∷ []) (g ∷ []) h = (h.0, tt)
pair-alike (f ∷ []) (g ∷ i ∷ gs) h = absurd h.1
pair-alike (f ∷ e ∷ fs) (g ∷ []) h = absurd h.1
pair-alike (f ∷ e ∷ []) (g ∷ i ∷ []) h = (h.0, h.1.0)
pair-alike (f ∷ e ∷ []) (g ∷ i ∷ j ∷ gs) h = absurd h.1.1
pair-alike (f ∷ e ∷ x ∷ fs) (g ∷ i ∷ []) h = absurd h.1.1
pair-alike (f ∷ e ∷ x ∷ fs) (g ∷ i ∷ j ∷ gs) h = tt

abbrev AlikeChosen : Option (Option (List ℕ)) → Option (Option (List ℕ)) → Type 0
AlikeChosen None None = ⊤
AlikeChosen None (Some y) = ⊥
AlikeChosen (Some x) None = ⊥
AlikeChosen (Some x) (Some y) = AlikeOption x y

weight-at-alike : (fs gs : Fields) (o : Option ℕ) → AlikeFields fs gs → AlikeChosen (weight_at fs o) (weight_at gs o)
weight-at-alike fs gs None h = tt
weight-at-alike fs gs (Some i) h = by (field_at fs i) (field_at gs i) (at-alike fs gs i h)
  where
    by : (x y : Option (List ℕ)) → AlikeOption x y → AlikeChosen (option_map Some x) (option_map Some y)
    by None None k = tt
    by None (Some y) k = absurd k
    by (Some x) None k = absurd k
    by (Some x) (Some y) k = k

parts-alike : (columns : Columns) (part : Part) (fs gs : Fields) → is_whole_field part ≡ true → AlikeFields fs gs
    → AlikeParts (parts_by columns part fs) (parts_by columns part gs)
parts-alike None part fs gs whole h = rw (whole-parts part fs whole, whole-parts part gs whole) (pair-alike fs gs h)
parts-alike (Some at) part fs gs whole h = by _ _ _ _ (fields-alike fs gs at.0 h) (weight-at-alike fs gs at.1 h)
  where
    key : Fields → List ℕ
    key fs = key_of (with_part part fs)

    by : (xs ys : Option Fields) (v w : Option (Option (List ℕ))) → AlikeMany xs ys → AlikeChosen v w
        → AlikeParts (option_zip (option_map key xs) v) (option_zip (option_map key ys) w)
    by None None v w h k = tt
    by None (Some ys) v w h k = absurd h
    by (Some xs) None v w h k = absurd h
    by (Some xs) (Some ys) None None h k = tt
    by (Some xs) (Some ys) None (Some w) h k = absurd k
    by (Some xs) (Some ys) (Some v) None h k = absurd k
    by (Some xs) (Some ys) (Some v) (Some w) h k =
        (rw (with-whole part xs whole, with-whole part ys whole) (key-alike xs ys h), k)

key-long : (k : List ℕ) (w : Option ℕ) → max_key_len < length k → item_of_key k w ≡ Err cause.KeyTooLong
key-long k w h =
    let some : (length k == 0) ≡ false = ne_eqb (length k) 0 (λ e. omega (arith, e, h)) in
    let long : nat_le (length k) max_key_len ≡ false = lt-leb (length k) max_key_len h in
    rw (some, long) refl

module _ (layout : Layout) (few : layout.decimals ≤ 255) where
  weight-long : (f : List ℕ) → max_key_len < length f → weight_by layout (Some f) ≡ None
  weight-long f h =
      let plain = hyphen-short f (omega (arith, h)) in
      rw plain (by layout.allow_zero)
    where
      by : (b : Bool) → units_of layout.decimals (Some (if b && false then 48 ∷ [] else f)) ≡ None
      by true = units-long layout.decimals f (point_from 0 f) few h
      by false = units-long layout.decimals f (point_from 0 f) few h

  weight-alike : (x y : Option (List ℕ)) → AlikeOption x y → weight_by layout x ≡ weight_by layout y
  weight-alike None None h = refl
  weight-alike None (Some y) h = absurd h
  weight-alike (Some x) None h = absurd h
  weight-alike (Some x) (Some y) (inl e) = ap (λ (f : List ℕ). weight_by layout (Some f)) e
  weight-alike (Some x) (Some y) (inr e) = weight-long x e.0 ∙ sym (weight-long y e.1)

  adds-alike : (t : ℕ) (p q : Parts) → AlikeParts p q → adds layout t p ≡ adds layout t q
  adds-alike t None None h = refl
  adds-alike t None (Some q) h = absurd h
  adds-alike t (Some p) None h = absurd h
  adds-alike t (Some p) (Some q) h = by h.0
    where
      by : AlikeField p.0 q.0 → adds layout t (Some p) ≡ adds layout t (Some q)
      by (inl e) = rw (e, weight-alike p.1 q.1 h.1) refl
      by (inr e) = rw (key-long p.0 (weight_by layout p.1) e.0, key-long q.0 (weight_by layout q.1) e.1) refl

-- ---- the fields behind those that are read
field-among : (n i : ℕ) (fs : Fields) → i < n → field_at (take n fs) i ≡ field_at fs i
unfolding field_at
field-among zero i fs l = absurd (omega (arith, l))
field-among (suc n) i [] l = refl
field-among (suc n) zero (f ∷ fs) l = refl
field-among (suc n) (suc i) (f ∷ fs) l = field-among n i fs (omega (arith, l))

fields-among : (n : ℕ) (is : List ℕ) (fs : Fields) → AllByRecursion (λ i. i < n) is
    → fields_at (take n fs) is ≡ fields_at fs is
unfolding every
fields-among n [] fs all = refl
fields-among n (i ∷ is) fs all = rw (field-among n i fs all.0, fields-among n is fs all.1) refl

weight-among : (n : ℕ) (o : Option ℕ) (fs : Fields) → IfSome o (λ i. i < n) → weight_at (take n fs) o ≡ weight_at fs o
weight-among n None fs l = refl
weight-among n (Some i) fs l = ap (option_map Some) (field-among n i fs l)

pair-among : (n : ℕ) (fs : Fields) → 2 < n → parts_of (take n fs) ≡ parts_of fs
pair-among zero fs l = absurd (omega (arith, l))
pair-among (suc zero) fs l = absurd (omega (arith, l))
pair-among (suc (suc zero)) fs l = absurd (omega (arith, l))
pair-among (suc (suc (suc n))) [] l = refl
pair-among (suc (suc (suc n))) (f ∷ []) l = refl
pair-among (suc (suc (suc n))) (f ∷ g ∷ []) l = refl
pair-among (suc (suc (suc n))) (f ∷ g ∷ i ∷ fs) l = refl

parts-among : (most : Option ℕ) (columns : Columns) (part : Part) (fs : Fields) → ReadsWithin columns most
    → parts_by columns part (first_ones most fs) ≡ parts_by columns part fs
parts-among None columns part fs within = refl
parts-among (Some n) None part fs within = rw (pair-among n fs within) refl
parts-among (Some n) (Some at) part fs within =
    rw (fields-among n at.0 fs (recursion_from_All (λ i. i < n) at.0 within.0), weight-among n at.1 fs within.1) refl

-- ---- the ends of long fields
field-cut : (most : Option ℕ) (f : List ℕ) → IfSome most (λ n. max_key_len < n) → AlikeField (first_ones most f) f
field-cut None f long = inl refl
field-cut (Some n) f long =
    elim (dec_lt n (length f)) [
      | yes more ↦
          let size = length-take n f in
          inr (omega (arith, size, more, long), omega (arith, more, long))
      | no few ↦ inl (take_all n f (omega (arith, few)))
    ]

fields-cut : (most : Option ℕ) (fs : Fields) → IfSome most (λ n. max_key_len < n)
    → AlikeFields (map (first_ones most) fs) fs
fields-cut most [] long = tt
fields-cut most (f ∷ fs) long = (field-cut most f long, fields-cut most fs long)

-- a format of fields that are cut at a delimiter, and whether empty ones count for nothing
abbrev pub IsCut : Format → Bool → Type 0
IsCut format.Csv squeezes = squeezes ≡ false
IsCut format.Unquoted squeezes = squeezes ≡ false
IsCut format.Squeezed squeezes = squeezes ≡ true
IsCut format.Lines squeezes = ⊥
IsCut format.Json squeezes = ⊥

cut-fields : (f : Format) (squeezes : Bool) (names : Names) (fs : Fields) → IsCut f squeezes → fields_by f names fs ≡ filled squeezes fs
cut-fields format.Csv squeezes names fs e = rw e refl
cut-fields format.Unquoted squeezes names fs e = rw e refl
cut-fields format.Squeezed squeezes names fs e = rw e refl
cut-fields format.Lines squeezes names fs e = absurd e
cut-fields format.Json squeezes names fs e = absurd e

-- fields that are not empty stay
filled-twice : (squeezes : Bool) (most : Option ℕ) (fs : Fields)
    → filled squeezes (first_ones most (filled squeezes fs)) ≡ first_ones most (filled squeezes fs)
filled-twice false most fs = refl
filled-twice true None fs = all fs
  where
    all : (fs : Fields) → filter (λ f. not (is_empty f)) (filter (λ f. not (is_empty f)) fs) ≡ filter (λ f. not (is_empty f)) fs
    all [] = refl
    all ([] ∷ fs) = all fs
    all ((b ∷ f) ∷ fs) = ap (λ (gs : Fields). (b ∷ f) ∷ gs) (all fs)
filled-twice true (Some n) fs = by n fs
  where
    by : (n : ℕ) (fs : Fields)
        → filter (λ f. not (is_empty f)) (take n (filter (λ f. not (is_empty f)) fs)) ≡ take n (filter (λ f. not (is_empty f)) fs)
    by zero fs = refl
    by (suc n) [] = refl
    by (suc n) ([] ∷ fs) = by (suc n) fs
    by (suc n) ((b ∷ f) ∷ fs) = ap (λ (gs : Fields). (b ∷ f) ∷ gs) (by n fs)

-- a field that is cut short is empty where it was
cut-filled : (squeezes : Bool) (most : Option ℕ) (fs : Fields) → IfSome most (λ n. 0 < n)
    → filled squeezes (map (first_ones most) fs) ≡ map (first_ones most) (filled squeezes fs)
cut-filled false most fs some = refl
cut-filled true most [] some = refl
cut-filled true None ([] ∷ fs) some = cut-filled true None fs some
cut-filled true None ((b ∷ f) ∷ fs) some = ap (λ (gs : Fields). (b ∷ f) ∷ gs) (cut-filled true None fs some)
cut-filled true (Some zero) (f ∷ fs) some = absurd (omega (arith, some))
cut-filled true (Some (suc n)) ([] ∷ fs) some = cut-filled true (Some (suc n)) fs some
cut-filled true (Some (suc n)) ((b ∷ f) ∷ fs) some =
    ap (λ (gs : Fields). (b ∷ take n f) ∷ gs) (cut-filled true (Some (suc n)) fs some)

-- ---- what is kept of the records of a layout
module _ (layout : Layout) (columns : Columns) (limits : Limits) (t : ℕ) (fs : Fields) where
  abbrev Adds : Type 0
  Adds = adds layout t (parts_at layout columns (kept_of limits fs)) ≡ adds layout t (parts_at layout columns fs)

  pub keeps-all : limits.squeezes ≡ false → limits.fields ≡ None → limits.bytes ≡ None → Adds
  keeps-all squeezes fields bytes = rw (squeezes, fields, bytes, map-id fs) refl

  cut-some : (most : Option ℕ) → IfSome most (λ n. max_key_len < n) → IfSome most (λ n. 0 < n)
  cut-some None long = tt
  cut-some (Some n) long = omega (arith, long)

  -- the fields that are kept are read as all are
  kept-parts : IsCut layout.format limits.squeezes → IfSome limits.bytes (λ n. 0 < n)
      → parts_at layout columns (kept_of limits fs)
      ≡ parts_by columns (part_said layout.part) (first_ones limits.fields (map (first_ones limits.bytes) (filled limits.squeezes fs)))
  kept-parts cut some =
      ap (parts_by columns (part_said layout.part)) (cut-fields layout.format limits.squeezes (member_names layout) (kept_of limits fs) cut
      ∙ filled-twice limits.squeezes limits.fields (map (first_ones limits.bytes) fs)
      ∙ ap (first_ones limits.fields) (cut-filled limits.squeezes limits.bytes fs some))

  pub keeps-enough : IsCut layout.format limits.squeezes → ReadsWithin columns limits.fields
      → IfSome limits.bytes (λ _. is_whole_field (part_said layout.part) ≡ true) → IfSome limits.bytes (λ n. max_key_len < n)
      → IfSome limits.bytes (λ _. layout.decimals ≤ 255) → Adds
  keeps-enough cut within whole long few =
      ap (adds layout t) (kept-parts cut (cut-some limits.bytes long) ∙ parts-among limits.fields columns (part_said layout.part) _ within)
      ∙ by limits.bytes whole long few
      ∙ sym (ap (λ (r : Fields). adds layout t (parts_by columns (part_said layout.part) r))
      (cut-fields layout.format limits.squeezes (member_names layout) fs cut))
    where
      by : (bytes : Option ℕ) → IfSome bytes (λ _. is_whole_field (part_said layout.part) ≡ true) → IfSome bytes (λ n. max_key_len < n)
          → IfSome bytes (λ _. layout.decimals ≤ 255)
          → adds layout t (parts_by columns (part_said layout.part) (map (first_ones bytes) (filled limits.squeezes fs)))
          ≡ adds layout t (parts_by columns (part_said layout.part) (filled limits.squeezes fs))
      by None whole long few =
          ap (λ (r : Fields). adds layout t (parts_by columns (part_said layout.part) r)) (map-id (filled limits.squeezes fs))
      by (Some n) whole long few =
          adds-alike layout few t _ _ (parts-alike columns (part_said layout.part) _ (filled limits.squeezes fs) whole
          (fields-cut (Some n) (filled limits.squeezes fs) long))

-- ---- the greatest place
pub weaker-below : (o : Option ℕ) (m n : ℕ) → m ≤ n → IfSome o (λ i. i ≤ m) → IfSome o (λ i. i ≤ n)
weaker-below None m n l h = tt
weaker-below (Some i) m n l h = omega (arith, l, h)

pub reads-within : (is : List ℕ) (w : Option ℕ) (last : ℕ) (o : Option ℕ) → All (λ i. i ≤ last) is
    → IfSome w (λ i. i ≤ last) → SomeIff o (last + 1 < 2 ^ 64) (last + 1) → ReadsWithin (Some (is, w)) o
reads-within is w last None all weight e = tt
reads-within is w last (Some n) all weight (room, e) =
    (All-weaker (λ i. i ≤ last) (λ i. i < n) (λ i l. omega (arith, l, e)) is all, by w weight)
  where
    by : (w : Option ℕ) → IfSome w (λ i. i ≤ last) → IfSome w (λ i. i < n)
    by None h = tt
    by (Some i) h = omega (arith, h, e)
