-- Parts of fields, and the fields of a format.
use Rattle.std.proofs.Common.{◌≡◌, ◌<◌, ◌+◌, ◌∷◌, ◌++◌, ℕ, suc, zero, List, [], length, map, take, drop, Bool, true, false, Some, None, refl, ap, sym, append-nil, ◌∙◌, arith, Option, Bor}
use Rattle.std.specs.Prelude.{IfSome, not, option_map, if◌then◌else◌}
use Rattle.std.specs.Iterator.{AlwaysYields, Drains}
use Rattle.std.proofs.lemmas.Iterator.{items_from_drains}
use Rattle.std.specs.List.{filter, position_or_len}
use Rattle.std.proofs.lemmas.List.{take_all}
use Rattle.bstr.specs.Bytes.{is_in}
use Rattle.csv.specs.Records.{field_at, fields_of}
use Rattle.csv.specs.declared.record.ByteRecordIter.{ByteRecordIter}
use Rattle.memchr.specs.Find.{Nowhere, Passes}
use Rattle.hh_records.specs.Formats.{Part, is_empty, is_whole_field, line_of, part_of, with_part}
use Rattle.hh_records.specs.Layouts.{parts_by}
use Rattle.hh_records.specs.Streams.{Fields, Parts, parts_of}

-- ---- the first place that passes a test
module _ (test : ℕ → Bool) where
  -- where none does, that is the length
  pub none-place : (hay : List ℕ) → Nowhere (Passes test hay) 0 (length hay) → position_or_len test hay ≡ length hay
  none-place [] h = refl
  none-place (c ∷ rest) h =
      by (test c) refl (none-place rest (λ k a b p. h (suc k) (omega arith) (omega (arith, b)) p))
    where
      by : (b : Bool) → test c ≡ b → position_or_len test rest ≡ length rest
          → position_or_len test (c ∷ rest) ≡ length (c ∷ rest)
      by true e more = absurd (h 0 (omega arith) (omega arith) e)
      by false e more = rw e (omega (arith, more))

  pub first-place : (hay : List ℕ) (k : ℕ) → k < length hay → Nowhere (Passes test hay) 0 k → Passes test hay k
      → position_or_len test hay ≡ k
  first-place [] k l none here = absurd (omega (arith, l))
  first-place (c ∷ rest) zero l none here = rw here refl
  first-place (c ∷ rest) (suc k) l none here =
      by (test c) refl
      (first-place rest k (omega (arith, l)) (λ j a b p. none (suc j) (omega arith) (omega (arith, b)) p) here)
    where
      by : (b : Bool) → test c ≡ b → position_or_len test rest ≡ k → position_or_len test (c ∷ rest) ≡ suc k
      by true e more = absurd (none 0 (omega arith) (omega arith) e)
      by false e more = rw e (omega (arith, more))

-- ---- parts of fields
-- no byte is among none
none-in : (f : List ℕ) → position_or_len (is_in []) f ≡ length f
unfolding is_in
none-in [] = refl
none-in (c ∷ f) = let more = none-in f in omega (arith, more)

whole-part : (part : Part) (f : List ℕ) → is_whole_field part ≡ true → part_of part f ≡ f
whole-part ([], None) f e = take_all (position_or_len (is_in []) f) f (omega (arith, none-in f))
whole-part ([], Some n) f e = cc e
whole-part (b ∷ until, prefix) f e = cc e

-- the whole field in place of the last one
pub with-whole : (part : Part) (fs : Fields) → is_whole_field part ≡ true → with_part part fs ≡ fs
unfolding with_part
with-whole part [] e = refl
with-whole part (f ∷ []) e = ap (λ (g : List ℕ). g ∷ []) (whole-part part f e)
with-whole part (f ∷ g ∷ rest) e = ap (λ (fs : Fields). f ∷ fs) (with-whole part (g ∷ rest) e)

-- a key, and the whole of it
whole-key : (part : Part) (o : Parts) → is_whole_field part ≡ true → option_map (λ p. (part_of part p.0, p.1)) o ≡ o
whole-key part None e = refl
whole-key part (Some p) e = ap (λ (k : List ℕ). Some (k, p.1)) (whole-part part p.0 e)

-- records of a key and its weight, where keys are whole fields
pub whole-parts : (part : Part) (r : Fields) → is_whole_field part ≡ true → parts_by None part r ≡ parts_of r
whole-parts part r e = whole-key part (parts_of r) e

-- a field more, of which a part counts
pub with-part-push : (part : Part) (fs : Fields) (f : List ℕ) → with_part part (fs ++ f ∷ []) ≡ fs ++ part_of part f ∷ []
unfolding with_part
with-part-push part [] f = refl
with-part-push part (g ∷ []) f = refl
with-part-push part (g ∷ h ∷ rest) f = ap (λ (fs : Fields). g ∷ fs) (with-part-push part (h ∷ rest) f)

-- the line of a record that is one field
pub one-line : (r : Fields) (line : List ℕ) → length r ≡ 1 → Some line ≡ field_at r 0 → line_of r ≡ line
unfolding field_at
one-line [] line long e = absurd (omega (arith, long))
one-line (f ∷ []) line long e = append-nil f ∙ cc e
one-line (f ∷ g ∷ r) line long e = absurd (omega (arith, long))

-- the fields of a key that are written, of which a part of the last one counts
abbrev pub so_far : Bool → Part → Fields → Fields
so_far is_last part fs = if is_last then with_part part fs else fs

pub so-far-none : (b : Bool) (part : Part) → so_far b part [] ≡ []
unfolding with_part
so-far-none true part = refl
so-far-none false part = refl

pub so-far-push : (b : Bool) (part : Part) (fs : Fields) (f g : List ℕ) → g ≡ (if b then part_of part f else f)
    → fs ++ g ∷ [] ≡ so_far b part (fs ++ f ∷ [])
so-far-push true part fs f g e = rw e (sym (with-part-push part fs f))
so-far-push false part fs f g e = rw e refl

-- ---- fields that are not empty
-- a field more
pub squeezed-more : (r : Fields) (i : ℕ) (f : List ℕ) → Some f ≡ field_at r i
    → filter (λ f. not (is_empty f)) (take (i + 1) r)
    ≡ filter (λ f. not (is_empty f)) (take i r) ++ filter (λ f. not (is_empty f)) (f ∷ [])
unfolding field_at
squeezed-more [] i f e = cc e
squeezed-more (g ∷ r) zero f e = cc e
squeezed-more (g ∷ r) (suc i) f e =
    let next : suc (i + 1) ≡ suc i + 1 = omega arith in
    rw (← next) (by (is_empty g) (squeezed-more r i f e))
  where
    by : (b : Bool) → filter (λ f. not (is_empty f)) (take (i + 1) r)
        ≡ filter (λ f. not (is_empty f)) (take i r) ++ filter (λ f. not (is_empty f)) (f ∷ [])
        → (if not b then g ∷ filter (λ f. not (is_empty f)) (take (i + 1) r) else filter (λ f. not (is_empty f)) (take (i + 1) r))
        ≡ (if not b then g ∷ filter (λ f. not (is_empty f)) (take i r) else filter (λ f. not (is_empty f)) (take i r))
        ++ filter (λ f. not (is_empty f)) (f ∷ [])
    by true more = more
    by false more = ap (λ (fs : Fields). g ∷ fs) more

-- ---- the fields of a record, as its iterator gives them
pub at-first : (r : Fields) (i : ℕ) (y : List ℕ) (ys : Fields) → drop i r ≡ y ∷ ys → field_at r i ≡ Some y
unfolding field_at
at-first [] zero y ys e = cc e
at-first [] (suc i) y ys e = cc e
at-first (g ∷ r) zero y ys e = cc e
at-first (g ∷ r) (suc i) y ys e = at-first r i y ys e

at-none : (r : Fields) (i : ℕ) → drop i r ≡ [] → field_at r i ≡ None
unfolding field_at
at-none [] zero e = refl
at-none [] (suc i) e = refl
at-none (g ∷ r) zero e = cc e
at-none (g ∷ r) (suc i) e = at-none r i e

after-first : (r : Fields) (i : ℕ) (y : List ℕ) (ys : Fields) → drop i r ≡ y ∷ ys → drop (i + 1) r ≡ ys
after-first [] zero y ys e = cc e
after-first [] (suc i) y ys e = cc e
after-first (g ∷ r) zero y ys e = cc e
after-first (g ∷ r) (suc i) y ys e =
    let next : suc (i + 1) ≡ suc i + 1 = omega arith in rw (← next) (after-first r i y ys e)

-- a call of that iterator
abbrev Steps : ByteRecordIter → Option (Bor (List ℕ)) → ByteRecordIter → Type 0
Steps a r b = (b.row ≡ a.row) × (option_map (λ s. s.now) r ≡ field_at (fields_of a.row.now) a.at)
    × IfSome r (λ _. b.at ≡ a.at + 1)

fields-yield : (ys : Fields) (s : ByteRecordIter) → drop s.at (fields_of s.row.now) ≡ ys
    → AlwaysYields Steps (λ s. s.now) s ys
fields-yield [] s e = λ x j step. cc (step.1, at-none (fields_of s.row.now) s.at e)
fields-yield (y ∷ ys) s e =
    let first = at-first (fields_of s.row.now) s.at y ys e in (
      λ j step. cc (step.1, first),
      λ x j step. (
        cc (step.1, first),
        fields-yield ys j (rw (step.0, step.2) (after-first (fields_of s.row.now) s.at y ys e)),
      ),
    )

-- all that it gives are the fields
pub fields-drained : (r : Fields) (s : ByteRecordIter) (xs : List (Bor (List ℕ))) → fields_of s.row.now ≡ r → s.at ≡ 0
    → Drains Steps s xs → map (λ x. x.now) xs ≡ r
fields-drained r s xs whole start d =
    items_from_drains {steps = Steps} {v = λ x. x.now} {s = s} {all = r} xs (d.1.0, d.1.1, λ _. (d.0, d.1.2)) (record { runs = fields-yield r s (rw (whole, start) refl) })
