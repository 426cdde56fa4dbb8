-- Lines and fields of a text by the places of the bytes that end them.
use Rattle.std.proofs.Common.{◌≡◌, ◌==◌, ◌≤◌, ◌<◌, ◌+◌, ◌-◌, ◌∷◌, ◌∙◌, ℕ, List, [], length, map, take, drop, get_or, cond, Bool, true, false, Some, None, refl, sym, ap, arith, length-drop}
use Rattle.std.specs.Prelude.{bit_or, slice_range}
use Rattle.std.specs.Int.{bit_at}
use Rattle.std.specs.List.{position_or_len}
use Rattle.std.proofs.lemmas.Bool.{eqb-true, false≢true}
use Rattle.std.proofs.lemmas.List.{drop-drop, drop-take, get_or-drop, get_or-map, get_or_past, length-map, take-take}
use Rattle.std.proofs.lemmas.Nat.Bits.{bit_at_or}
use Rattle.std.proofs.lemmas.Simd.{bit_mask_l, get_or-chunk, length-chunk}
use Rattle.std.specs.Simd.Lanes.{mask_l}
use native.Mathlib.Decide.{dec_lt}
use Rattle.csv.specs.Machine.{line_feed}
use Rattle.memchr.specs.Find.{NoneBefore, Nowhere, Passes, is_byte}
use Rattle.hh_pieces.specs.Lines.{EndsRun, HasNoReturn, is_field_end, line_end, line_fields}
use Rattle.hh_records.specs.Streams.{Parts, parts_of}
use Rattle.hh_pieces.proofs.QuoteFacts.{rest-all}
use Rattle.hh_pieces.proofs.SplitFacts.{ends-at-feeds, first-field, no-return-after, one-field, parts-more, parts-one, parts-two}
use Rattle.hh_records.proofs.FormatFacts.{first-place, none-place}

-- ---- what a search of the rest of a text says of the text
module _ (test : ℕ → Bool) (text : List ℕ) (from : ℕ) where
  pub behind : (k : ℕ) → from ≤ k → Passes test text k → Passes test (drop from text) (k - from)
  behind k l p =
      let at : from + (k - from) ≡ k = omega (arith, l) in
      ap test (get_or-drop from text (k - from) 0 ∙ ap (λ m. get_or text m 0) at) ∙ p

  pub run-found : from ≤ length text → (run : ℕ)
      → NoneBefore (Passes test (slice_range text from (length text))) 0 (length (slice_range text from (length text))) run
      → Passes test (slice_range text from (length text)) run → EndsRun test text from (from + run)
  run-found l run h p =
      let g = rw (rest-all text from) at h in
      let q = rw (rest-all text from) at p in
      let size = length-drop from text in
      record {
        after = omega arith;
        within = omega (arith, g.high, size, l);
        before = λ k a b s. g.before (k - from) (omega arith) (omega (arith, a, b)) (behind k a s);
        here = λ _. ap test (sym (get_or-drop from text run 0)) ∙ q;
      }

  pub run-none : from ≤ length text
      → Nowhere (Passes test (slice_range text from (length text))) 0 (length (slice_range text from (length text)))
      → EndsRun test text from (length text)
  run-none l h =
      let g = rw (rest-all text from) at h in
      let size = length-drop from text in
      record {
        after = l;
        within = omega arith;
        before = λ k a b s. g (k - from) (omega arith) (omega (arith, a, b, size)) (behind k a s);
        here = λ m. absurd (omega (arith, m));
      }

  -- a run's end by the words of a list
  pub run-place : (e : ℕ) → EndsRun test text from e → from + position_or_len test (drop from text) ≡ e
  run-place e h = elim (dec_lt e (length text)) [ yes some ↦ by_end some | no none ↦ by_text none ]
    where
      size : length (drop from text) ≡ length text - from
      size = length-drop from text

      before : (j : ℕ) → 0 ≤ j → j < e - from → ¬ Passes test (drop from text) j
      before j a b p = h.before (from + j) (omega arith) (omega (arith, b)) (ap test (sym (get_or-drop from text j 0)) ∙ p)

      by_end : e < length text → from + position_or_len test (drop from text) ≡ e
      by_end some =
          let place = first-place test (drop from text) (e - from) (omega (arith, some, size, h.after)) before (behind e h.after (h.here some)) in
          omega (arith, place, h.after)

      by_text : (e < length text → ⊥) → from + position_or_len test (drop from text) ≡ e
      by_text none =
          let all : length (drop from text) ≡ e - from = omega (arith, none, size, h.within) in
          let place = none-place test (drop from text) (λ j a b p. before j a (omega (arith, b, all)) p) in
          omega (arith, place, all, h.after)

-- ---- fields
-- a byte that passes one of two tests
pub second-of : (d c : ℕ) → (c == line_feed) ≡ true → is_field_end d c ≡ true
second-of d c e = by (c == d) refl
  where
    by : (b : Bool) → (c == d) ≡ b → is_field_end d c ≡ true
    by true is = rw is refl
    by false is = rw (is, e) refl

first-of : (d c : ℕ) → (c == d) ≡ true → is_field_end d c ≡ true
first-of d c e = rw e refl

pub not-first : (d c : ℕ) → is_field_end d c ≡ true → (c == d) ≡ false → (c == line_feed) ≡ true
not-first d c e other = rw other at e

-- ---- marks of the bytes that end a field
abbrev marks_of : ℕ → List ℕ → ℕ
marks_of c xs = mask_l (map (λ x. x == c) xs)

cond-one : (b : Bool) → cond {A = ℕ} b 1 0 ≡ 1 → b ≡ true
cond-one true e = refl
cond-one false e = absurd (omega (arith, e))

marked : (c : ℕ) (xs : List ℕ) (k : ℕ) → bit_at (marks_of c xs) k ≡ 1 → (k < length xs) × ((get_or xs k 0 == c) ≡ true)
marked c xs k set = elim (dec_lt k (length xs)) [
  | yes l ↦ (l, sym (get_or-map (λ x. x == c) xs k 0 false l) ∙ bit)
  | no past ↦
      let none = get_or_past (map (λ x. x == c) xs) k false (omega (arith, past, length-map xs (λ x. x == c))) in
      absurd (false≢true (sym none ∙ bit))
]
  where
    bit : get_or (map (λ x. x == c) xs) k false ≡ true
    bit = cond-one (get_or (map (λ x. x == c) xs) k false) (sym (bit_mask_l (map (λ x. x == c) xs) k) ∙ set)

marked-all : (c : ℕ) (xs : List ℕ) (k : ℕ) → k < length xs → (get_or xs k 0 == c) ≡ true → bit_at (marks_of c xs) k ≡ 1
marked-all c xs k l is =
    bit_mask_l (map (λ x. x == c) xs) k
    ∙ ap (λ b. cond {A = ℕ} b 1 0) (get_or-map (λ x. x == c) xs k 0 false l ∙ is)

module _ (d : ℕ) (xs : List ℕ) (k m n : ℕ) (p : m ≡ marks_of d xs) (q : n ≡ marks_of line_feed xs) where
  pub ends-within : bit_at (bit_or m n) k ≡ 1 → (k < length xs) × (is_field_end d (get_or xs k 0) ≡ true)
  ends-within set = elim (dec_lt 0 (bit_at m k)) [
    | yes some ↦
        let one : bit_at m k ≡ 1 = omega (arith, some, bit_at_or m n k, set) in
        let at = marked d xs k (ap (λ x. bit_at x k) (sym p) ∙ one) in
        (at.0, first-of d (get_or xs k 0) at.1)
    | no none ↦
        let one : bit_at n k ≡ 1 = omega (arith, none, bit_at_or m n k, set) in
        let at = marked line_feed xs k (ap (λ x. bit_at x k) (sym q) ∙ one) in
        (at.0, second-of d (get_or xs k 0) at.1)
  ]

  pub ends-all : k < length xs → is_field_end d (get_or xs k 0) ≡ true → bit_at (bit_or m n) k ≡ 1
  ends-all l e = by (get_or xs k 0 == d) refl
    where
      by : (b : Bool) → (get_or xs k 0 == d) ≡ b → bit_at (bit_or m n) k ≡ 1
      by true is =
          let one : bit_at m k ≡ 1 = ap (λ x. bit_at x k) p ∙ marked-all d xs k l is in
          omega (arith, one, bit_at_or m n k, two)
        where
          two : bit_at n k < 2
          two = omega arith
      by false is =
          let one : bit_at n k ≡ 1 = ap (λ x. bit_at x k) q ∙ marked-all line_feed xs k l (not-first d (get_or xs k 0) e is) in
          omega (arith, one, bit_at_or m n k, two)
        where
          two : bit_at m k < 2
          two = omega arith

module _ (d : ℕ) (text : List ℕ) where
  -- where no delimiter ends the field, the line ends there
  pub feed-there : (from e : ℕ) → EndsRun (is_field_end d) text from e
      → (e < length text → (get_or text e 0 == d) ≡ false) → EndsRun (is_byte line_feed) text from e
  feed-there from e h differs = record {
    after = h.after;
    within = h.within;
    before = λ k a b p. h.before k a b (second-of d (get_or text k 0) p);
    here = λ l. not-first d (get_or text e 0) (h.here l) (differs l);
  }

  -- and where one does, it ends behind it
  pub feed-behind : (from k e : ℕ) → (d == line_feed) ≡ false → EndsRun (is_field_end d) text from k
      → (get_or text k 0 == d) ≡ true → EndsRun (is_byte line_feed) text (k + 1) e → EndsRun (is_byte line_feed) text from e
  feed-behind from k e apart h is g = record {
    after = omega (arith, h.after, g.after);
    within = g.within;
    before = λ j a b p. elim (dec_lt j k) [
      | yes below ↦ h.before j a below (second-of d (get_or text j 0) p)
      | no other ↦ elim (dec_lt k j) [
        | yes above ↦ g.before j (omega (arith, above)) b p
        | no same ↦
            let at : j ≡ k = omega (arith, other, same) in
            let byte : get_or text j 0 ≡ d = ap (λ n. get_or text n 0) at ∙ eqb-true (get_or text k 0) d is in
            absurd (false≢true (sym apart ∙ ap (λ c. c == line_feed) (sym byte) ∙ p))
      ]
    ];
    here = g.here;
  }

  -- ---- the line from one place to another
  module _ (from e : ℕ) (order : from ≤ e) (within : e ≤ length text) where
    abbrev line : List ℕ
    line = slice_range text from e

    size : length line ≡ e - from
    size = length-chunk from (e - from) text (omega (arith, order, within))

    at-line : (j : ℕ) → j < e - from → get_or line j 0 ≡ get_or text (from + j) 0
    at-line j l = get_or-chunk from (e - from) text j 0 l

    -- no delimiter up to a place
    none-up-to : (k : ℕ) → k ≤ e → EndsRun (is_field_end d) text from k → Nowhere (Passes (is_byte d) line) 0 (k - from)
    none-up-to k l h j a b p =
        h.before (from + j) (omega arith) (omega (arith, b))
        (first-of d (get_or text (from + j) 0) (ap (λ c. c == d) (sym (at-line j (omega (arith, b, l)))) ∙ p))

    pub last-field : EndsRun (is_field_end d) text from e → line_fields d line ≡ line ∷ []
    last-field h = one-field d line (λ j a b p. none-up-to e (omega arith) h j a (omega (arith, b, size)) p)

    pub one-part : EndsRun (is_field_end d) text from e → Some (line, None) ≡ parts_of (line_fields d line)
    one-part h = parts-one d line (λ j a b p. none-up-to e (omega arith) h j a (omega (arith, b, size)) p)

    module _ (k : ℕ) (h : EndsRun (is_field_end d) text from k) (is : (get_or text k 0 == d) ≡ true) (more : k < e) where
      abbrev rest : List ℕ
      rest = slice_range line (k - from + 1) (length line)

      here : Passes (is_byte d) line (k - from)
      here =
          let at : from + (k - from) ≡ k = omega (arith, h.after) in
          ap (λ c. c == d) (at-line (k - from) (omega (arith, more, h.after)) ∙ ap (λ n. get_or text n 0) at) ∙ is

      key : take (k - from) line ≡ slice_range text from k
      key = take-take (k - from) (e - from) (drop from text) (omega (arith, more))

      size-rest : length rest ≡ e - (k + 1)
      size-rest =
          let all = ap length (rest-all line (k - from + 1)) in
          omega (arith, all, length-drop (k - from + 1) line, size, more, h.after)

      at-rest : (j : ℕ) → j < e - (k + 1) → get_or rest j 0 ≡ get_or text (k + 1 + j) 0
      at-rest j l =
          let at : from + (k - from + 1 + j) ≡ k + 1 + j = omega (arith, h.after) in
          ap (λ (xs : List ℕ). get_or xs j 0) (rest-all line (k - from + 1))
          ∙ get_or-drop (k - from + 1) line j 0
          ∙ at-line (k - from + 1 + j) (omega (arith, l, h.after))
          ∙ ap (λ n. get_or text n 0) at

      none-behind : (m : ℕ) → m ≤ e → EndsRun (is_field_end d) text (k + 1) m → Nowhere (Passes (is_byte d) rest) 0 (m - (k + 1))
      none-behind m l g j a b p =
          g.before (k + 1 + j) (omega arith) (omega (arith, b))
          (first-of d (get_or text (k + 1 + j) 0) (ap (λ c. c == d) (sym (at-rest j (omega (arith, b, l)))) ∙ p))

      before-key : Nowhere (Passes (is_byte d) line) 0 (k - from)
      before-key = none-up-to k (omega (arith, more)) h

      key-within : k - from < length line
      key-within = omega (arith, size, more, h.after)

      behind-key : drop (k - from + 1) line ≡ slice_range text (k + 1) e
      behind-key =
          let sum : k - from + 1 + (e - (k + 1)) ≡ e - from = omega (arith, h.after, more) in
          let at : from + (k - from + 1) ≡ k + 1 = omega (arith, h.after) in
          ap (λ n. drop (k - from + 1) (take n (drop from text))) (sym sum)
          ∙ drop-take (k - from + 1) (e - (k + 1)) (drop from text)
          ∙ ap (take (e - (k + 1))) (drop-drop (k - from + 1) from text ∙ ap (λ n. drop n text) at)

      -- the first field, and those behind it
      pub first-part : line_fields d line ≡ slice_range text from k ∷ line_fields d (slice_range text (k + 1) e)
      first-part =
          first-field d line (k - from) key-within before-key here
          ∙ ap (λ (f : List ℕ). f ∷ line_fields d (drop (k - from + 1) line)) key
          ∙ ap (λ (l : List ℕ). slice_range text from k ∷ line_fields d l) behind-key

      pub two-parts : EndsRun (is_field_end d) text (k + 1) e
          → Some (slice_range text from k, Some (slice_range text (k + 1) e)) ≡ parts_of (line_fields d line)
      two-parts g =
          let parts = parts-two d line (k - from) key-within before-key here
          (λ j a b p. none-behind e (omega arith) g j a (omega (arith, b, size-rest)) p) in
          let field : rest ≡ slice_range text (k + 1) e = rest-all line (k - from + 1) ∙ behind-key in
          rw (key, field) at parts

      pub more-parts : (m : ℕ) → m < e → EndsRun (is_field_end d) text (k + 1) m → (get_or text m 0 == d) ≡ true
          → ◌≡◌ {A = Parts} None (parts_of (line_fields d line))
      more-parts m l g at-m =
          let at : k + 1 + (m - (k + 1)) ≡ m = omega (arith, g.after) in
          parts-more d line (k - from) key-within before-key here (m - (k + 1))
          (record {
            low = omega arith;
            high = omega (arith, size-rest, l, g.after);
            before = none-behind m (omega (arith, l)) g;
          })
          (ap (λ c. c == d) (at-rest (m - (k + 1)) (omega (arith, l, g.after)) ∙ ap (λ n. get_or text n 0) at) ∙ at-m)

-- the place where a line's run ends
pub line-is : (text : List ℕ) (from e : ℕ) → HasNoReturn text → EndsRun (is_byte line_feed) text from e → e ≡ line_end text from
line-is text from e plain h =
    sym (run-place (is_byte line_feed) text from e h)
    ∙ ap (λ n. from + n) (sym (ends-at-feeds (drop from text) (no-return-after from text plain)))
