-- The last line feed outside quotes, run by run.
use Rattle.std.proofs.Common.{◌≡◌, ◌≤◌, ◌<◌, ◌+◌, ◌-◌, ◌∙◌, ◌==◌, ℕ, suc, zero, List, length, take, drop, get_or, Bool, true, false, Option, Some, None, refl, sym, ap, arith, length-drop}
use Rattle.std.specs.Prelude.{◌||◌, if◌then◌else◌, slice_range}
use Rattle.std.proofs.lemmas.Bool.{eq-eqb, eqb-true, false≢true, ne_eqb}
use Rattle.std.proofs.lemmas.List.{get_or-drop, get_or-take, length-take-le}
use Rattle.std.proofs.lemmas.List.Sums.{fold_more}
use Rattle.std.proofs.Math.Seq.{take-length}
use native.Mathlib.Decide.{dec_lt}
use Rattle.memchr.specs.Find.{IsLast, NoneAfter, NoneBefore, Nowhere, Passes, is_byte}
use Rattle.hh_pieces.specs.declared.cuts.QuoteState.{QuoteState}
use Rattle.hh_pieces.specs.declared.cuts.QuoteState.TheVariants as place
use Rattle.hh_pieces.specs.Quotes.{IsFeedAt, NoQuote, is_open, place_after, place_next, plain_after}

-- ---- the last place
-- no place further on
pub last-none : (P : ℕ → Type 0) (i j : ℕ) (last : Option ℕ) → i ≤ j → IsLast P 0 i last → Nowhere P i j → IsLast P 0 j last
last-none P i j None l h n =
    λ k a b p. elim (dec_lt k i) [ yes below ↦ h k a below p | no above ↦ n k (omega arith) b p ]
last-none P i j (Some m) l h n = (
  record {
    low = h.0.low;
    high = omega (arith, h.0.high);
    after = λ k a b p. elim (dec_lt k i) [ yes below ↦ h.0.after k a below p | no above ↦ n k (omega arith) b p ];
  },
  h.1,
)

pub slice-at : (text : List ℕ) (from to k : ℕ) → from + k < to → get_or (slice_range text from to) k 0 ≡ get_or text (from + k) 0
slice-at text from to k l = get_or-take (to - from) (drop from text) k 0 (omega (arith, l)) ∙ get_or-drop from text k 0

pub slice-length : (text : List ℕ) (from to : ℕ) → from ≤ to → to ≤ length text → length (slice_range text from to) ≡ to - from
slice-length text from to order l =
    length-take-le (to - from) (drop from text) (omega (arith, l, order, length-drop from text))

-- ---- the next quote
-- a slice up to the end
pub rest-all : (text : List ℕ) (from : ℕ) → slice_range text from (length text) ≡ drop from text
rest-all text from = ap (λ n. take n (drop from text)) (sym (length-drop from text)) ∙ take-length (drop from text)

-- up to the first quote there is none
pub no-quote : (text : List ℕ) (from run : ℕ)
    → NoneBefore (Passes (is_byte 34) (slice_range text from (length text))) 0 (length (slice_range text from (length text))) run
    → NoQuote text from (from + run)
no-quote text from run h k a b q =
    let g = rw (rest-all text from) at h in
    let back : from + (k - from) ≡ k = omega (arith, a) in
    let byte = get_or-drop from text (k - from) 0 ∙ ap (λ m. get_or text m 0) back ∙ q in
    g.before (k - from) (omega arith) (omega (arith, a, b)) (eq-eqb _ 34 byte)

pub no-quotes : (text : List ℕ) (from : ℕ) → from ≤ length text
    → Nowhere (Passes (is_byte 34) (slice_range text from (length text))) 0 (length (slice_range text from (length text)))
    → NoQuote text from (length text)
no-quotes text from l h k a b q =
    let g = rw (rest-all text from) at h in
    let back : from + (k - from) ≡ k = omega (arith, a) in
    let byte = get_or-drop from text (k - from) 0 ∙ ap (λ m. get_or text m 0) back ∙ q in
    g (k - from) (omega arith) (omega (arith, a, b, length-drop from text)) (eq-eqb _ 34 byte)

-- ---- runs with no quote
module _ (d : ℕ) where
  place-more : (text : List ℕ) (i : ℕ) → i < length text
      → place_after d (take (i + 1) text) ≡ place_next d (place_after d (take i text)) (get_or text i 0)
  place-more text i l = fold_more (place_next d) place.Start text i 0 l

  next-plain : (p : QuoteState) (c : ℕ) → is_open p ≡ true → (c ≡ 34 → ⊥) → place_next d p c ≡ plain_after d c
  next-plain place.Start c o n = rw (ne_eqb c 34 n) refl
  next-plain place.Field c o n = refl
  next-plain place.Quoted c o n = absurd (false≢true o)
  next-plain place.Left c o n = rw (ne_eqb c 34 n) refl

  next-quoted : (c : ℕ) → (c ≡ 34 → ⊥) → place_next d place.Quoted c ≡ place.Quoted
  next-quoted c n = rw (ne_eqb c 34 n) refl

  plain-outside : (c : ℕ) → is_open (plain_after d c) ≡ true
  plain-outside c = by (c == d) ((c == 13) || (c == 10))
    where
      by : (a b : Bool) → is_open (if a then place.Start else if b then place.Start else place.Field) ≡ true
      by true b = refl
      by false true = refl
      by false false = refl

  outside-run : (text : List ℕ) (from i k : ℕ) → i ≡ from + k → i ≤ length text → NoQuote text from i
      → is_open (place_after d (take from text)) ≡ true → is_open (place_after d (take i text)) ≡ true
  outside-run text from i zero e l n o =
      let same : i ≡ from = omega (arith, e) in
      ap (λ m. is_open (place_after d (take m text))) same ∙ o
  outside-run text from i (suc k) e l n o =
      let j : ℕ = from + k in
      let same : i ≡ j + 1 = omega (arith, e) in
      let before = outside-run text from j k refl (omega (arith, l, e)) (λ q a b. n q a (omega (arith, b, e))) o in
      ap (λ m. is_open (place_after d (take m text))) same
      ∙ ap is_open (place-more text j (omega (arith, l, e)))
      ∙ ap is_open (next-plain (place_after d (take j text)) (get_or text j 0) before (n j (omega arith) (omega (arith, e))))
      ∙ plain-outside (get_or text j 0)

  quoted-run : (text : List ℕ) (from i k : ℕ) → i ≡ from + k → i ≤ length text → NoQuote text from i
      → place_after d (take from text) ≡ place.Quoted → place_after d (take i text) ≡ place.Quoted
  quoted-run text from i zero e l n q =
      let same : i ≡ from = omega (arith, e) in
      ap (λ m. place_after d (take m text)) same ∙ q
  quoted-run text from i (suc k) e l n q =
      let j : ℕ = from + k in
      let same : i ≡ j + 1 = omega (arith, e) in
      let before = quoted-run text from j k refl (omega (arith, l, e)) (λ r a b. n r a (omega (arith, b, e))) q in
      ap (λ m. place_after d (take m text)) same
      ∙ place-more text j (omega (arith, l, e))
      ∙ ap (λ p. place_next d p (get_or text j 0)) before
      ∙ next-quoted (get_or text j 0) (n j (omega arith) (omega (arith, e)))

  not-outside : (p : QuoteState) → is_open p ≡ false → p ≡ place.Quoted
  not-outside place.Start o = absurd (false≢true (sym o))
  not-outside place.Field o = absurd (false≢true (sym o))
  not-outside place.Quoted o = refl
  not-outside place.Left o = absurd (false≢true (sym o))

  -- a run outside quotes, of a byte at least, comes to the place after its last byte
  pub run-outside : (text : List ℕ) (from to : ℕ) (p : QuoteState) → from < to → to ≤ length text
      → p ≡ place_after d (take from text) → NoQuote text from to → is_open p ≡ true
      → plain_after d (get_or text (to - 1) 0) ≡ place_after d (take to text)
  run-outside text from to p some l at n o =
      let j : ℕ = to - 1 in
      let same : to ≡ j + 1 = omega (arith, some) in
      let before = outside-run text from j (j - from) (omega (arith, some)) (omega (arith, l)) (λ q a b. n q a (omega (arith, b)))
      (ap is_open (sym at) ∙ o) in
      sym (ap (λ m. place_after d (take m text)) same
      ∙ place-more text j (omega (arith, l, some))
      ∙ next-plain (place_after d (take j text)) (get_or text j 0) before (n j (omega (arith, some)) (omega (arith, some))))

  pub run-quoted : (text : List ℕ) (from to : ℕ) (p : QuoteState) → from ≤ to → to ≤ length text
      → p ≡ place_after d (take from text) → NoQuote text from to → is_open p ≡ false
      → p ≡ place_after d (take to text)
  run-quoted text from to p order l at n o =
      let is = not-outside p o in
      is ∙ sym (quoted-run text from to (to - from) (omega (arith, order)) l n (sym at ∙ is))

  pub run-empty : (text : List ℕ) (from to : ℕ) (p : QuoteState) → from ≤ to → to ≤ from
      → p ≡ place_after d (take from text) → p ≡ place_after d (take to text)
  run-empty text from to p a b at =
      let same : from ≡ to = omega (arith, a, b) in
      at ∙ ap (λ m. place_after d (take m text)) same

  -- in quotes there is no place
  pub line-quoted : (text : List ℕ) (from to : ℕ) (p : QuoteState) (last : Option ℕ) → from ≤ to → to ≤ length text
      → p ≡ place_after d (take from text) → NoQuote text from to → is_open p ≡ false
      → IsLast (IsFeedAt d text) 0 from last → IsLast (IsFeedAt d text) 0 to last
  line-quoted text from to p last order l at n o h =
      last-none (IsFeedAt d text) from to last order h (λ k a b line.
      let q = quoted-run text from k (k - from) (omega (arith, a)) (omega (arith, b, l)) (λ r c d. n r c (omega (arith, b, d)))
      (sym at ∙ not-outside p o) in
      absurd (false≢true (sym (ap is_open q) ∙ line.outside)))

  -- outside quotes, in a run with no line feed
  pub line-none : (text : List ℕ) (from to : ℕ) (last : Option ℕ) → from ≤ to → to ≤ length text
      → Nowhere (Passes (is_byte 10) (slice_range text from to)) 0 (length (slice_range text from to))
      → IsLast (IsFeedAt d text) 0 from last → IsLast (IsFeedAt d text) 0 to last
  line-none text from to last order l none h =
      last-none (IsFeedAt d text) from to last order h (λ k a b line.
      let size = slice-length text from to order l in
      let back : from + (k - from) ≡ k = omega (arith, a) in
      let is = slice-at text from to (k - from) (omega (arith, a, b)) ∙ ap (λ m. get_or text m 0) back ∙ line.feed in
      none (k - from) (omega arith) (omega (arith, size, a, b)) (eq-eqb _ 10 is))

  -- outside quotes, at the last line feed of a run
  pub line-some : (text : List ℕ) (from to at : ℕ) (p : QuoteState) → from ≤ to → to ≤ length text
      → p ≡ place_after d (take from text) → NoQuote text from to → is_open p ≡ true
      → NoneAfter (Passes (is_byte 10) (slice_range text from to)) 0 (length (slice_range text from to)) at
      → Passes (is_byte 10) (slice_range text from to) at
      → NoneAfter (IsFeedAt d text) 0 to (from + at) × IsFeedAt d text (from + at)
  line-some text from to at p order l is n o none feed =
      let size = slice-length text from to order l in
      let within : from + at < to = omega (arith, size, none.high) in
      let here : get_or text (from + at) 0 ≡ 10 = sym (slice-at text from to at within) ∙ eqb-true _ 10 feed in
      let outside = outside-run text from (from + at) at refl (omega (arith, l, within)) (λ q a b. n q a (omega (arith, b, within)))
      (ap is_open (sym is) ∙ o) in (
        record {
          low = omega arith;
          high = within;
          after = λ k a b line.
              let back : from + (k - from) ≡ k = omega (arith, a) in
              let byte = slice-at text from to (k - from) (omega (arith, a, b)) ∙ ap (λ m. get_or text m 0) back ∙ line.feed in
              none.after (k - from) (omega (arith, a)) (omega (arith, size, a, b)) (eq-eqb _ 10 byte);
        },
        record { feed = here; outside = outside },
      )
