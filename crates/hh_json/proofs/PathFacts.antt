-- Parts of a pointer, and names of members.
use Rattle.std.proofs.Common.{◌≡◌, ◌≢◌, ◌==◌, ◌∙◌, ℕ, zero, suc, ◌+◌, ◌-◌, ◌<◌, ◌≤◌, Bool, true, false, List, [], ◌∷◌, length, drop, take, Option, None, Some, option_and_then, refl, sym, ap, arith, length-drop, ne_eqb, slice_index_or, true≢false}
use Rattle.std.proofs.Math.Seq.{take-length}
use Rattle.std.specs.Option.{is_some}
use Rattle.json.specs.Ascii.{slash}
use Rattle.json.specs.Find.{as_object, at, get}
use Rattle.json.specs.Json.{Json, array, boolean, null, number, object, string}
use Rattle.memchr.specs.Find.{Nowhere, Passes, is_byte}
use Rattle.serde_json.specs.Find.{index_of, unescape}
use Rattle.hh_json.specs.Paths.{parts_of, step}

abbrev at_slash : List ℕ → ℕ → Type 0
at_slash text = Passes (is_byte slash) text

-- a text with no slash is one part
pub parts-one : (text : List ℕ) → Nowhere (at_slash text) 0 (length text) → parts_of text ≡ text ∷ []
parts-one [] none = refl
parts-one (x ∷ text) none =
    by (x == slash) refl (parts-one text (λ k a b p. none (suc k) (omega arith) (omega (arith, b)) p))
  where
    by : (b : Bool) → (x == slash) ≡ b → parts_of text ≡ text ∷ [] → parts_of (x ∷ text) ≡ (x ∷ text) ∷ []
    by true e more = absurd (none 0 (omega arith) (omega arith) e)
    by false e more = rw (e, more) refl

cut-more : (text : List ℕ) (k : ℕ) → k < length text → Nowhere (at_slash text) 0 k → at_slash text k
    → parts_of text ≡ take k text ∷ parts_of (drop (suc k) text)
cut-more [] k l none here = absurd (omega (arith, l))
cut-more (x ∷ text) zero l none here = rw here refl
cut-more (x ∷ text) (suc k) l none here =
    by (x == slash) refl
    (cut-more text k (omega (arith, l)) (λ j a b p. none (suc j) (omega arith) (omega (arith, b)) p) here)
  where
    by : (b : Bool) → (x == slash) ≡ b → parts_of text ≡ take k text ∷ parts_of (drop (suc k) text)
        → parts_of (x ∷ text) ≡ take (suc k) (x ∷ text) ∷ parts_of (drop (suc (suc k)) (x ∷ text))
    by true e more = absurd (none 0 (omega arith) (omega arith) e)
    by false e more = rw (e, more) refl

-- what stands after these bytes, as a slice
abbrev from : ℕ → List ℕ → List ℕ
from n text = take (length text - n) (drop n text)

pub from-drop : (n : ℕ) (text : List ℕ) → from n text ≡ drop n text
from-drop n text = ap (λ k. take k (drop n text)) (sym (length-drop n text)) ∙ take-length (drop n text)

-- the first slash ends the first part
pub parts-more : (text : List ℕ) (k : ℕ) → k < length text → Nowhere (at_slash text) 0 k → at_slash text k
    → parts_of text ≡ take k text ∷ parts_of (from (k + 1) text)
parts-more text k l none here =
    let next : suc k ≡ k + 1 = omega arith in
    let rest = ap (λ n. drop n text) next ∙ sym (from-drop (k + 1) text) in
    cut-more text k l none here ∙ ap (λ rest. take k text ∷ parts_of rest) rest

-- no index leads anywhere
abbrev none_at : ℕ → Option Json
none_at i = None

nowhere : (o : Option ℕ) → None ≡ option_and_then none_at o
nowhere None = refl
nowhere (Some i) = refl

-- what the last step leads to is the end
pub last-step : {A : Type 0} (o : Option A) → option_and_then Some o ≡ o
last-step None = refl
last-step (Some a) = refl

-- a part that leads from no object is the number of an item
pub step-item : (part : List ℕ) (j : Json) → as_object j ≡ None → step part j ≡ option_and_then (λ i. at i j) (index_of part)
step-item part null e = nowhere (index_of part)
step-item part (boolean b) e = nowhere (index_of part)
step-item part (number s) e = nowhere (index_of part)
step-item part (string s) e = nowhere (index_of part)
step-item part (array js) e = refl
step-item part (object ms) e = absurd (true≢false (ap is_some e))

-- what is no object has no members
pub get-none : (name : List ℕ) (j : Json) → as_object j ≡ None → get name j ≡ None
get-none name null e = refl
get-none name (boolean b) e = refl
get-none name (number s) e = refl
get-none name (string s) e = refl
get-none name (array js) e = refl
get-none name (object ms) e = absurd (true≢false (ap is_some e))

-- ---- names that are escaped
-- an unescaped name begins with this byte, and goes on after these bytes
abbrev pub Begins : List ℕ → ℕ → ℕ → Type 0
Begins part b n = (length (from n part) < length part) × (unescape part ≡ b ∷ unescape (from n part))

begins : (part : List ℕ) (b n : ℕ) → 0 < n → n ≤ length part → unescape part ≡ b ∷ unescape (drop n part) → Begins part b n
begins part b n some l e = rw (from-drop n part) (omega (arith, length-drop n part), e)

-- a byte that stands for itself
pub begins-plain : (part : List ℕ) → 0 < length part → slice_index_or part 0 0 ≢ 126 → Begins part (slice_index_or part 0 0) 1
unfolding unescape
begins-plain part l other = begins part _ 1 (omega arith) (omega (arith, l)) (by part l other)
  where
    by : (part : List ℕ) → 0 < length part → slice_index_or part 0 0 ≢ 126 → unescape part ≡ slice_index_or part 0 0 ∷ unescape (drop 1 part)
    by [] l other = absurd (omega (arith, l))
    by (x ∷ []) l other = refl
    by (x ∷ y ∷ part) l other = rw (ne_eqb x 126 other) refl

pub begins-last : (part : List ℕ) → length part ≡ 1 → Begins part (slice_index_or part 0 0) 1
unfolding unescape
begins-last part l = begins part _ 1 (omega arith) (omega (arith, l)) (by part l)
  where
    by : (part : List ℕ) → length part ≡ 1 → unescape part ≡ slice_index_or part 0 0 ∷ unescape (drop 1 part)
    by [] l = absurd (omega (arith, l))
    by (x ∷ []) l = refl
    by (x ∷ y ∷ part) l = absurd (omega (arith, l))

pub begins-alone : (part : List ℕ) → 1 < length part → slice_index_or part 1 0 ≢ 48 → slice_index_or part 1 0 ≢ 49
    → Begins part (slice_index_or part 0 0) 1
unfolding unescape
begins-alone part l a b = begins part _ 1 (omega arith) (omega (arith, l)) (by part l a b)
  where
    by : (part : List ℕ) → 1 < length part → slice_index_or part 1 0 ≢ 48 → slice_index_or part 1 0 ≢ 49
        → unescape part ≡ slice_index_or part 0 0 ∷ unescape (drop 1 part)
    by [] l a b = absurd (omega (arith, l))
    by (x ∷ []) l a b = refl
    by (x ∷ y ∷ part) l a b = grind (arith, ne_eqb y 48 a, ne_eqb y 49 b)

-- an escape
pub begins-tilde : (part : List ℕ) → 1 < length part → slice_index_or part 0 0 ≡ 126 → slice_index_or part 1 0 ≡ 48
    → Begins part 126 2
unfolding unescape
begins-tilde part l e f = begins part _ 2 (omega arith) (omega (arith, l)) (by part l e f)
  where
    by : (part : List ℕ) → 1 < length part → slice_index_or part 0 0 ≡ 126 → slice_index_or part 1 0 ≡ 48
        → unescape part ≡ 126 ∷ unescape (drop 2 part)
    by [] l e f = absurd (omega (arith, l))
    by (x ∷ []) l e f = absurd (omega (arith, l))
    by (x ∷ y ∷ part) l e f = rw (e, f) refl

pub begins-slash : (part : List ℕ) → 1 < length part → slice_index_or part 0 0 ≡ 126 → slice_index_or part 1 0 ≡ 49
    → Begins part 47 2
unfolding unescape
begins-slash part l e f = begins part _ 2 (omega arith) (omega (arith, l)) (by part l e f)
  where
    by : (part : List ℕ) → 1 < length part → slice_index_or part 0 0 ≡ 126 → slice_index_or part 1 0 ≡ 49
        → unescape part ≡ 47 ∷ unescape (drop 2 part)
    by [] l e f = absurd (omega (arith, l))
    by (x ∷ []) l e f = absurd (omega (arith, l))
    by (x ∷ y ∷ part) l e f = rw (e, f) refl
