-- The fields of a line by their places.
use Rattle.std.proofs.Common.{◌≡◌, ◌==◌, ◌≤◌, ◌<◌, ◌+◌, ◌-◌, ◌∷◌, ◌∙◌, ℕ, suc, zero, List, [], length, drop, get_or, Bool, true, false, Option, Some, None, refl, sym, ap, arith, length-drop}
use Rattle.std.specs.Prelude.{option_map, slice_range}
use Rattle.std.specs.Option.{option_zip}
use Rattle.std.proofs.lemmas.List.{drop-drop}
use native.Mathlib.Decide.{dec_lt}
use Rattle.csv.specs.Records.{field_at}
use Rattle.hh_records.specs.Formats.{with_part}
use Rattle.hh_records.specs.Layouts.{every, fields_at, key_of}
use Rattle.hh_records.specs.Streams.{Fields, Parts}
use Rattle.hh_records.proofs.FormatFacts.{at-first, with-whole}
use Rattle.hh_pieces.specs.Lines.{AreAll, AreBetween, EndsLine, EndsRun, fields_left, is_field_end, line_fields, parts_in_columns}
use Rattle.hh_pieces.proofs.FieldFacts.{feed-behind, feed-there, first-part, last-field, not-first, second-of}

-- ---- the field at a place
at-past : (r : Fields) (i : ℕ) → length r ≤ i → field_at r i ≡ None
unfolding field_at
at-past [] i l = refl
at-past (g ∷ r) zero l = absurd (omega (arith, l))
at-past (g ∷ r) (suc i) l = at-past r i (omega (arith, l))

-- the key in one column
key-there : (r : Fields) (i : ℕ) (f : List ℕ) → field_at r i ≡ Some f
    → option_map (λ fs. key_of (with_part ([], None) fs)) (fields_at r (i ∷ [])) ≡ Some f
unfolding every
key-there r i f e = rw e (ap (λ fs. Some (key_of fs)) (with-whole ([], None) (f ∷ []) refl))

key-none : (r : Fields) (i : ℕ) → field_at r i ≡ None
    → option_map (λ fs. key_of (with_part ([], None) fs)) (fields_at r (i ∷ [])) ≡ None
unfolding every
key-none r i e = rw e refl

-- the parts of a record by the fields at its places
pub key-alone : (r : Fields) (key : ℕ) (k : List ℕ) → field_at r key ≡ Some k → Some (k, None) ≡ parts_in_columns key None r
key-alone r key k e = rw (key-there r key k e) refl

pub key-and-weight : (r : Fields) (key weight : ℕ) (k f : List ℕ) → field_at r key ≡ Some k → field_at r weight ≡ Some f
    → Some (k, Some f) ≡ parts_in_columns key (Some weight) r
key-and-weight r key weight k f e g = rw (key-there r key k e, g) refl

pub no-key : (r : Fields) (key : ℕ) (weight : Option ℕ) → field_at r key ≡ None → ◌≡◌ {A = Parts} None (parts_in_columns key weight r)
no-key r key weight e = rw (key-none r key e) refl

pub no-weight : (r : Fields) (key weight : ℕ) → field_at r weight ≡ None → ◌≡◌ {A = Parts} None (parts_in_columns key (Some weight) r)
no-weight r key weight e = rw e (by (option_map (λ fs. key_of (with_part ([], None) fs)) (fields_at r (key ∷ []))))
  where
    by : (o : Option (List ℕ)) → ◌≡◌ {A = Parts} None (option_zip o None)
    by None = refl
    by (Some k) = refl

-- ---- places in a line
module _ (d : ℕ) (text : List ℕ) where
  -- the line ends behind its first field
  pub line-behind : (from k end : ℕ) → EndsRun (is_field_end d) text from k → EndsLine text k end → EndsLine text from end
  line-behind from k end h g = record {
    after = omega (arith, h.after, g.after);
    within = g.within;
    before = λ j a b p. elim (dec_lt j k) [
      | yes below ↦ h.before j a below (second-of d (get_or text j 0) p)
      | no above ↦ g.before j (omega (arith, above)) b p
    ];
    here = g.here;
  }

  -- the field at the front of what is left of a line
  field-first : (from k end : ℕ) → EndsRun (is_field_end d) text from k → EndsLine text from end
      → (rest : Fields) × (fields_left d text from end ≡ slice_range text from k ∷ rest)
  field-first from k end h g = elim (dec_lt k end) [ yes more ↦ by_more more (get_or text k 0 == d) refl | no other ↦ by_last other ]
    where
      by_more : k < end → (b : Bool) → (get_or text k 0 == d) ≡ b
          → (rest : Fields) × (fields_left d text from end ≡ slice_range text from k ∷ rest)
      by_more more true is = (
        line_fields d (slice_range text (k + 1) end),
        first-part d text from end g.after g.within k h is more,
      )
      by_more more false is =
          absurd (g.before k h.after more (not-first d (get_or text k 0) (h.here (omega (arith, more, g.within))) is))

      by_last : (k < end → ⊥) → (rest : Fields) × (fields_left d text from end ≡ slice_range text from k ∷ rest)
      by_last other = elim (dec_lt end k) [
        | yes less ↦ absurd (h.before end g.after less (second-of d (get_or text end 0) (g.here (omega (arith, less, h.within)))))
        | no more ↦
            let same : end ≡ k = omega (arith, other, more) in
            ([], ap (λ n. fields_left d text from n) same ∙ last-field d text from k h.after h.within h)
      ]

  pub between-none : (from : ℕ) → AreBetween d text from 0 from
  between-none from = record { line = λ end e. e; fields = λ end e. refl }

  -- one field more stands between
  pub between-more : (from i at k : ℕ) → (d == 10) ≡ false → AreBetween d text from i at → EndsRun (is_field_end d) text at k
      → k < length text → (get_or text k 0 == d) ≡ true → AreBetween d text from (i + 1) (k + 1)
  between-more from i at k apart b h l is = record {
    line = λ end e. b.line end (feed-behind d text at k end apart h is e);
    fields = λ end e.
        let g = feed-behind d text at k end apart h is e in
        let more : k < end = omega (arith, e.after) in
        sym (drop-drop 1 i (fields_left d text from end))
        ∙ ap (drop 1) (b.fields end g ∙ first-part d text at end g.after g.within k h is more);
  }

  -- those after these and before others
  pub between-both : (from low at high then : ℕ) → low ≤ high → AreBetween d text from low at → AreBetween d text at (high - low) then
      → AreBetween d text from high then
  between-both from low at high then order a b = record {
    line = λ end e. a.line end (b.line end e);
    fields = λ end e.
        let sum : low + (high - low) ≡ high = omega (arith, order) in
        ap (λ n. drop n (fields_left d text from end)) (sym sum)
        ∙ sym (drop-drop (high - low) low (fields_left d text from end))
        ∙ ap (drop (high - low)) (a.fields end (b.line end e))
        ∙ b.fields end e;
  }

  -- the last field of the line
  pub all-passed : (from i at k count : ℕ) → AreBetween d text from i at → EndsRun (is_field_end d) text at k
      → (k < length text → (get_or text k 0 == d) ≡ false) → i < count → AreAll d text from count k
  all-passed from i at k count b h differs l =
      let end = feed-there d text at k h differs in
      let one = ap length (b.fields k end ∙ last-field d text at k h.after h.within h) in
      record { line = b.line k end; few = omega (arith, one, length-drop i (fields_left d text from k), l) }

  pub all-behind : (from low at high end : ℕ) → low ≤ high → AreBetween d text from low at → AreAll d text at (high - low) end
      → AreAll d text from high end
  all-behind from low at high end order a b =
      let rest = ap length (a.fields end b.line) in
      record {
        line = a.line end b.line;
        few = omega (arith, rest, b.few, length-drop low (fields_left d text from end), order);
      }

  pub all-fewer : (from low high end : ℕ) → low ≤ high → AreAll d text from low end → AreAll d text from high end
  all-fewer from low high end order a = record { line = a.line; few = omega (arith, a.few, order) }

  -- the field at a place of a line that ends here
  pub place-there : (from i at k end : ℕ) → AreBetween d text from i at → EndsRun (is_field_end d) text at k → EndsLine text at end
      → field_at (fields_left d text from end) i ≡ Some (slice_range text at k)
  place-there from i at k end b h e =
      let (rest, first) = field-first at k end h e in
      at-first (fields_left d text from end) i (slice_range text at k) rest (b.fields end e ∙ first)

  pub place-none : (from i end : ℕ) → AreAll d text from i end → field_at (fields_left d text from end) i ≡ None
  place-none from i end a = at-past (fields_left d text from end) i a.few

  -- two fields of a line, which ends behind the second
  module _ (from low at high then k l end : ℕ) (order : low ≤ high) (a : AreBetween d text from low at)
      (b : AreBetween d text at (high - low) then) (h : EndsRun (is_field_end d) text at k)
      (g : EndsRun (is_field_end d) text then l) (e : EndsLine text l end) where
    ends-then : EndsLine text then end
    ends-then = line-behind then l end g e

    pub both-end : EndsLine text from end
    both-end = a.line end (b.line end ends-then)

    low-field : field_at (fields_left d text from end) low ≡ Some (slice_range text at k)
    low-field = place-there from low at k end a h (b.line end ends-then)

    high-field : field_at (fields_left d text from end) high ≡ Some (slice_range text then l)
    high-field = place-there from high then l end (between-both from low at high then order a b) g ends-then

    pub key-first : (key weight : ℕ) → low ≡ key → high ≡ weight
        → Some (slice_range text at k, Some (slice_range text then l)) ≡ parts_in_columns key (Some weight) (fields_left d text from end)
    key-first key weight p q =
        let fields = fields_left d text from end in
        key-and-weight fields key weight (slice_range text at k) (slice_range text then l)
        (ap (field_at fields) (sym p) ∙ low-field) (ap (field_at fields) (sym q) ∙ high-field)

    pub weight-first : (key weight : ℕ) → low ≡ weight → high ≡ key
        → Some (slice_range text then l, Some (slice_range text at k)) ≡ parts_in_columns key (Some weight) (fields_left d text from end)
    weight-first key weight p q =
        let fields = fields_left d text from end in
        key-and-weight fields key weight (slice_range text then l) (slice_range text at k)
        (ap (field_at fields) (sym q) ∙ high-field) (ap (field_at fields) (sym p) ∙ low-field)

  -- or not both
  pub one-lacks : (from high end key weight : ℕ) → AreAll d text from high end → (key ≤ weight → high ≡ weight) → (weight < key → high ≡ key)
      → ◌≡◌ {A = Parts} None (parts_in_columns key (Some weight) (fields_left d text from end))
  one-lacks from high end key weight a p q =
      let fields = fields_left d text from end in
      elim (dec_lt weight key) [
        | yes less ↦ no-key fields key (Some weight) (ap (field_at fields) (sym (q less)) ∙ place-none from high end a)
        | no more ↦ no-weight fields key weight (ap (field_at fields) (sym (p (omega (arith, more)))) ∙ place-none from high end a)
      ]
