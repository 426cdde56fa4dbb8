-- What a reading of a plan's text has read, and which texts it accepts.
use Rattle.std.proofs.Common.{◌≡◌, ◌≢◌, ◌+◌, ◌-◌, ◌*◌, ◌/◌, ◌%◌, ◌<◌, ◌≤◌, ◌==◌, ◌&&◌, ◌∷◌, ◌++◌, ◌∙◌, ℕ, Bool, true, false, List, [], length, take, drop, get_or, Option, Some, None, refl, sym, ap, append_assoc, inl, inr, ◌⊎◌, arith, nat_lt, nat_le}
use Rattle.std.specs.Option.{option_and_then}
use Rattle.std.specs.Fmt.{decimal}
use Rattle.std.proofs.lemmas.Bool.Decides.{eqb_tells, nat_tests}
use Rattle.std.proofs.lemmas.Fmt.{decimal_by_steps, decimal_digit, decimal_step}
use Rattle.std.proofs.Math.Seq.{take-length}
use Rattle.std.proofs.lemmas.List.{append-nil, take-append-drop, take_more}
use Rattle.hh_workers.specs.Trees.{MergeTree, Piece, Merge}
use Rattle.hh_stream.specs.Digits.{is_digit}
use Rattle.hh_workers.specs.PlanTexts.{Begins, Done, HasText, IsSyntaxFault, Left, Now, Number, Open, Reading, Right, SpellsTree, Start, after_tree, at_start, first_reading, has_short_numbers, nesting, read_tree, step, steps, text_of}

-- ---- what was read
-- the text before the place that is read
abbrev outer_text : List Open → List ℕ
outer_text [] = []
outer_text (Left ∷ os) = outer_text os ++ 40 ∷ []
outer_text (Right l ∷ os) = outer_text os ++ (40 ∷ (text_of l ++ 32 ∷ []))

abbrev now_text : Now → List ℕ
now_text Start = []
now_text (Number n) = decimal n
now_text (Done t) = text_of t

abbrev read_text : Reading → List ℕ
read_text s = outer_text s.outer ++ now_text s.now

-- the trees that were read have texts, at their depth
abbrev AreSound : List Open → Type 0
AreSound [] = Unit {0}
AreSound (Left ∷ os) = (length os < 1023) × AreSound os
AreSound (Right l ∷ os) = (length os + 1 + nesting l ≤ 1023) × (has_short_numbers l ≡ true) × AreSound os

abbrev IsSoundNow : Now → ℕ → Type 0
IsSoundNow Start d = d ≤ 1023
IsSoundNow (Number n) d = (n < 10000) × (d ≤ 1023)
IsSoundNow (Done t) d = (d + nesting t ≤ 1023) × (has_short_numbers t ≡ true)

record IsSound (s : Reading) : Type 0 where
  outer : AreSound s.outer
  now : IsSoundNow s.now (length s.outer)

some-eq : (x y : Reading) → ◌≡◌ {A = Option Reading} (Some x) (Some y) → x ≡ y
some-eq x y e = cc e

-- the number of one more digit
decimal-more : (n c : ℕ) → 1 ≤ n → n < 1000 → 48 ≤ c → c ≤ 57 → decimal (n * 10 + (c - 48)) ≡ decimal n ++ c ∷ []
decimal-more n c some few low high =
    let step = decimal_step (n * 10 + (c - 48)) (omega arith) (omega arith) in
    let front : (n * 10 + (c - 48)) / 10 ≡ n = omega arith in
    let last : 48 + (n * 10 + (c - 48)) % 10 ≡ c = omega arith in
    rw (front, last) at step

decimal-first : (c : ℕ) → 48 ≤ c → c ≤ 57 → decimal (c - 48) ≡ c ∷ []
decimal-first c low high =
    let digit = decimal_digit (c - 48) (omega arith) in
    let same : 48 + (c - 48) ≡ c = omega arith in
    rw same at digit

-- ---- one more byte is one more byte of what was read
after-sound : (t : MergeTree) (os : List Open) (c : ℕ) (s : Reading) → AreSound os → length os + nesting t ≤ 1023
    → has_short_numbers t ≡ true
    → after_tree t os c ≡ Some s → (read_text s ≡ (outer_text os ++ text_of t) ++ c ∷ []) × IsSound s
after-sound t [] c s so deep short h = cc h
after-sound t (Left ∷ os) c s so deep short h = by (eqb_tells c 32)
  where
    by : ((c == 32) ≡ true) × (c ≡ 32) ⊎ ((c == 32) ≡ false) × (c ≢ 32)
        → (read_text s ≡ (outer_text (Left ∷ os) ++ text_of t) ++ c ∷ []) × IsSound s
    by (inr e) = let bad = rw e.0 at h in cc bad
    by (inl e) =
        let is = some-eq (record { now = Start; outer = Right t ∷ os }) s (rw e.0 at h) in
        rw (← is, e.1) (
          simp (append_assoc, append-nil),
          record {
            outer = (omega (arith, deep), short, so.1);
            now =
                omega (arith, deep);
          },
        )
after-sound t (Right l ∷ os) c s so deep short h = by (eqb_tells c 41)
  where
    by : ((c == 41) ≡ true) × (c ≡ 41) ⊎ ((c == 41) ≡ false) × (c ≢ 41)
        → (read_text s ≡ (outer_text (Right l ∷ os) ++ text_of t) ++ c ∷ []) × IsSound s
    by (inr e) = let bad = rw e.0 at h in cc bad
    by (inl e) =
        let is = some-eq (record { now = Done (Merge l t); outer = os }) s (rw e.0 at h) in
        rw (← is, e.1) (
          simp append_assoc,
          record {
            outer = so.2;
            now =
                (omega (arith, deep, so.0), rw (so.1, short) refl);
          },
        )

-- what a test of a digit tells
digit-tells : (c : ℕ) → ((is_digit c ≡ true) × (48 ≤ c) × (c ≤ 57)) ⊎ (is_digit c ≡ false)
digit-tells c = by (is_digit c) refl
  where
    low : is_digit c ≡ true → 48 ≤ c
    low e = grind (arith, nat_tests)

    high : is_digit c ≡ true → c ≤ 57
    high e = grind (arith, nat_tests)

    by : (b : Bool) → is_digit c ≡ b → ((is_digit c ≡ true) × (48 ≤ c) × (c ≤ 57)) ⊎ (is_digit c ≡ false)
    by true e = inl (e, low e, high e)
    by false e = inr e

start-sound : (os : List Open) (c : ℕ) (s : Reading) → AreSound os → length os ≤ 1023 → at_start os c ≡ Some s
    → (read_text s ≡ outer_text os ++ c ∷ []) × IsSound s
start-sound os c s so deep h = by (digit-tells c) ((c == 40) && nat_lt (length os) 1023) refl
  where
    is-open : (c == 40) && nat_lt (length os) 1023 ≡ true → (c ≡ 40) × (length os < 1023)
    is-open e = (grind (arith, nat_tests), grind (arith, nat_tests))

    by : ((is_digit c ≡ true) × (48 ≤ c) × (c ≤ 57)) ⊎ (is_digit c ≡ false) → (b : Bool)
        → (c == 40) && nat_lt (length os) 1023 ≡ b → (read_text s ≡ outer_text os ++ c ∷ []) × IsSound s
    by (inl d) b e =
        let is = some-eq (record { now = Number (c - 48); outer = os }) s (rw d.0 at h) in
        rw (← is, decimal-first c d.1 d.2) (refl, record { outer = so; now = (omega (arith, d.2), deep) })
    by (inr d) true e =
        let is = some-eq (record { now = Start; outer = Left ∷ os }) s (rw (d, e) at h) in
        let o = is-open e in
        rw (← is, o.0) (append-nil (outer_text os ++ 40 ∷ []), record { outer = (o.1, so); now = omega (arith, o.1) })
    by (inr d) false e = let bad = rw (d, e) at h in cc bad

number-sound : (n : ℕ) (os : List Open) (c : ℕ) (s : Reading) → AreSound os → n < 10000 → length os ≤ 1023
    → step (record { now = Number n; outer = os }) c ≡ Some s → (read_text s ≡ (outer_text os ++ decimal n) ++ c ∷ [])
    × IsSound s
number-sound n os c s so small deep h = by (digit-tells c) (nat_le 1 n && nat_lt n 1000) refl
  where
    middle : nat_le 1 n && nat_lt n 1000 ≡ true → (1 ≤ n) × (n < 1000)
    middle e = (grind (arith, nat_tests), grind (arith, nat_tests))

    short : has_short_numbers (Piece n) ≡ true
    short = grind (arith, nat_tests)

    by : ((is_digit c ≡ true) × (48 ≤ c) × (c ≤ 57)) ⊎ (is_digit c ≡ false) → (b : Bool)
        → nat_le 1 n && nat_lt n 1000 ≡ b → (read_text s ≡ (outer_text os ++ decimal n) ++ c ∷ []) × IsSound s
    by (inl d) true e =
        let m = middle e in
        let is = some-eq (record { now = Number (n * 10 + (c - 48)); outer = os }) s (rw (d.0, e) at h) in
        rw (← is, decimal-more n c m.0 m.1 d.1 d.2) (
          sym (append_assoc (outer_text os) (decimal n) (c ∷ [])),
          record {
            outer = so;
            now =
                (omega (arith, m.1, d.2), deep);
          },
        )
    by (inl d) false e = let bad = rw (d.0, e) at h in cc bad
    by (inr d) b e = after-sound (Piece n) os c s so (omega (arith, deep)) short (rw d at h)

step-sound : (s : Reading) (c : ℕ) (s' : Reading) → IsSound s → step s c ≡ Some s'
    → (read_text s' ≡ read_text s ++ c ∷ []) × IsSound s'
step-sound s c s' sound h = by s.now s.outer sound.outer sound.now h
  where
    by : (now : Now) (os : List Open) → AreSound os → IsSoundNow now (length os)
        → step (record { now = now; outer = os }) c ≡ Some s'
        → (read_text s' ≡ (outer_text os ++ now_text now) ++ c ∷ []) × IsSound s'
    by Start os so sn h = rw (append-nil (outer_text os)) (start-sound os c s' so sn h)
    by (Number n) os so sn h = number-sound n os c s' so sn.0 sn.1 h
    by (Done t) os so sn h = after-sound t os c s' so sn.0 sn.1 h

-- ---- the text of a tree is read as that tree
-- where the reading of a tree ends
abbrev end_of : MergeTree → Now
end_of (Piece i) = Number i
end_of (Merge l r) = Done (Merge l r)

steps-append : (s : Reading) (xs ys : List ℕ) → steps s (xs ++ ys) ≡ option_and_then (λ s. steps s ys) (steps s xs)
steps-append s [] ys = refl
steps-append s (x ∷ xs) ys = by (step s x) (λ s'. steps-append s' xs ys)
  where
    by : (o : Option Reading) → ((s' : Reading) → steps s' (xs ++ ys) ≡ option_and_then (λ s. steps s ys) (steps s' xs))
        → option_and_then (λ s. steps s (xs ++ ys)) o
        ≡ option_and_then (λ s. steps s ys) (option_and_then (λ s. steps s xs) o)
    by None h = refl
    by (Some s') h = h s'

-- a space or a closing parenthesis after a tree's end
after-end : (t : MergeTree) (os : List Open) (c : ℕ) → is_digit c ≡ false
    → step (record { now = end_of t; outer = os }) c ≡ after_tree t os c
after-end (Piece i) os c e = rw e refl
after-end (Merge l r) os c e = refl

number-read : (os : List Open) (n : ℕ) → n < 10000 → steps (record { now = Start; outer = os }) (decimal n)
    ≡ Some (record { now = Number n; outer = os })
number-read os n small =
    decimal_by_steps (λ n ds. n < 10000 → steps (record { now = Start; outer = os }) ds
    ≡ Some (record { now = Number n; outer = os })) one more n (omega (arith, small)) small
  where
    one : (n : ℕ) → n < 10 → n < 10000 → steps (record { now = Start; outer = os }) ((48 + n) ∷ [])
        ≡ Some (record { now = Number n; outer = os })
    one n lt small =
        let digit : is_digit (48 + n) ≡ true = grind (arith, nat_tests) in
        let back : 48 + n - 48 ≡ n = omega arith in
        rw (digit, back) refl

    more : (n : ℕ) (ds : List ℕ) → 10 ≤ n
        → (n / 10 < 10000 → steps (record { now = Start; outer = os }) ds
        ≡ Some (record { now = Number (n / 10); outer = os }))
        → n < 10000 → steps (record { now = Start; outer = os }) (ds ++ ((48 + n % 10) ∷ []))
        ≡ Some (record { now = Number n; outer = os })
    more n ds ten h small =
        let front = h (omega (arith, small)) in
        let digit : is_digit (48 + n % 10) ≡ true = grind (arith, nat_tests) in
        let room : nat_le 1 (n / 10) && nat_lt (n / 10) 1000 ≡ true = grind (arith, nat_tests) in
        let back : n / 10 * 10 + (48 + n % 10 - 48) ≡ n = omega arith in
        rw (steps-append (record { now = Start; outer = os }) ds ((48 + n % 10) ∷ []), front, digit, room, back) refl

tree-read : (t : MergeTree) (os : List Open) → has_short_numbers t ≡ true → length os + nesting t ≤ 1023
    → steps (record { now = Start; outer = os }) (text_of t) ≡ Some (record { now = end_of t; outer = os })
tree-read (Piece i) os short deep = number-read os i (grind (arith, nat_tests))
tree-read (Merge l r) os short deep =
    let both = and-parts (has_short_numbers l) (has_short_numbers r) short in
    let room : nat_lt (length os) 1023 ≡ true = grind (arith, nat_tests) in
    let left = tree-read l (Left ∷ os) both.0 (omega (arith, deep)) in
    let right = tree-read r (Right l ∷ os) both.1 (omega (arith, deep)) in
    rw (
      room,
      steps-append (record { now = Start; outer = Left ∷ os }) (text_of l) (32 ∷ (text_of r ++ 41 ∷ [])),
      left,
      after-end l (Left ∷ os) 32 refl,
      steps-append (record { now = Start; outer = Right l ∷ os }) (text_of r) (41 ∷ []),
      right,
      after-end r (Right l ∷ os) 41 refl,
    )
    refl
  where
    and-parts : (a b : Bool) → a && b ≡ true → (a ≡ true) × (b ≡ true)
    and-parts true true h = (refl, refl)
    and-parts true false h = cc h
    and-parts false b h = cc h

-- the whole of it, from the first byte on
text-read : (t : MergeTree) → HasText t → steps first_reading (text_of t) ≡ Some (record { now = end_of t; outer = [] })
text-read t h = tree-read t [] h.short (omega (arith, h.shallow))

-- a tree that has ended was read
end-read : (t : MergeTree) → read_tree (record { now = end_of t; outer = [] }) ≡ Some t
end-read (Piece i) = refl
end-read (Merge l r) = refl

read-spells : (s : Reading) (t : MergeTree) → IsSound s → read_tree s ≡ Some t → SpellsTree (read_text s) t
read-spells s t sound h = by s.now s.outer sound.now h
  where
    some-tree : (x y : MergeTree) → ◌≡◌ {A = Option MergeTree} (Some x) (Some y) → x ≡ y
    some-tree x y e = cc e

    by : (now : Now) (os : List Open) → IsSoundNow now (length os) → read_tree (record { now = now; outer = os })
        ≡ Some t → SpellsTree (outer_text os ++ now_text now) t
    by Start os sn h = cc h
    by (Number n) [] sn h = rw (← some-tree (Piece n) t h)
        (record { tree = record { short = grind (arith, nat_tests); shallow = omega arith }; bytes = refl })
    by (Done u) [] sn h = rw (← some-tree u t h)
        (record { tree = record { short = sn.1; shallow = omega (arith, sn.0) }; bytes = refl })
    by (Number n) (o ∷ os) sn h = cc h
    by (Done u) (o ∷ os) sn h = cc h

-- ---- each reading can be continued
continues : (os : List Open) (t : MergeTree) → AreSound os → length os + nesting t ≤ 1023 → has_short_numbers t ≡ true
    → (u : MergeTree) × HasText u × ((rest : List ℕ) × (text_of u ≡ (outer_text os ++ text_of t) ++ rest))
continues [] t so deep short =
    (t, record { short = short; shallow = omega (arith, deep) }, ([], sym (append-nil (text_of t))))
continues (Left ∷ os) t so deep short =
    let (u, has, (rest, e)) = continues os (Merge t (Piece 0)) so.1 (omega (arith, deep)) (rw short refl) in
    (u, has, (32 ∷ (decimal 0 ++ 41 ∷ []) ++ rest, e ∙ simp append_assoc))
continues (Right l ∷ os) t so deep short =
    let (u, has, (rest, e)) = continues os (Merge l t) so.2 (omega (arith, deep, so.0)) (rw (so.1, short) refl) in
    (u, has, (41 ∷ rest, e ∙ simp append_assoc))

reading-continues : (s : Reading) → IsSound s → (t : MergeTree) × Begins (read_text s) t
reading-continues s sound = by s.now s.outer sound.outer sound.now
  where
    by : (now : Now) (os : List Open) → AreSound os → IsSoundNow now (length os)
        → (t : MergeTree) × Begins (outer_text os ++ now_text now) t
    by Start os so sn =
        let (u, has, (rest, e)) = continues os (Piece 0) so (omega (arith, sn)) refl in
        (u, (has, (decimal 0 ++ rest, e ∙ simp (append_assoc, append-nil))))
    by (Number n) os so sn =
        let (u, has, more) = continues os (Piece n) so (omega (arith, sn.1)) (grind (arith, nat_tests)) in
        (u, (has, more))
    by (Done t) os so sn =
        let (u, has, more) = continues os t so sn.0 sn.1 in
        (u, (has, more))

-- ---- where the first byte stands that can't go on
first-sound : IsSound first_reading
first-sound = record { outer = tt; now = omega arith }

steps-sound : (s : Reading) (xs : List ℕ) (s' : Reading) → IsSound s → steps s xs ≡ Some s'
    → (read_text s' ≡ read_text s ++ xs) × IsSound s'
steps-sound s [] s' sound h = rw (← some-eq s s' h) (sym (append-nil (read_text s)), sound)
steps-sound s (x ∷ xs) s' sound h = by (step s x) refl (λ m e. steps-sound m xs s' (step-sound s x m sound e).1) h
  where
    by : (o : Option Reading) → step s x ≡ o
        → ((m : Reading) → step s x ≡ Some m → steps m xs ≡ Some s' → (read_text s' ≡ read_text m ++ xs) × IsSound s')
        → option_and_then (λ s. steps s xs) o ≡ Some s' → (read_text s' ≡ read_text s ++ x ∷ xs) × IsSound s'
    by None e more h = cc h
    by (Some m) e more h =
        let rest = more m e h in
        let first = (step-sound s x m sound e).0 in
        (rest.0 ∙ ap (λ (t : List ℕ). t ++ xs) first ∙ append_assoc (read_text s) (x ∷ []) xs, rest.1)

-- what was read so far is the text so far
read-so-far : (text : List ℕ) (s : Reading) → steps first_reading text ≡ Some s → (read_text s ≡ text) × IsSound s
read-so-far text s h = steps-sound first_reading text s first-sound h

-- the text is read one byte further
pub steps-more : (text : List ℕ) (n d : ℕ) (s s' : Reading) → n < length text
    → steps first_reading (take n text) ≡ Some s → Some s' ≡ step s (get_or text n d)
    → steps first_reading (take (n + 1) text) ≡ Some s'
steps-more text n d s s' lt h e =
    rw (take_more text n d lt, steps-append first_reading (take n text) (get_or text n d ∷ []), h, ← e) refl

-- where no step goes on, the text has its syntax fault
pub syntax-at : (text : List ℕ) (n d : ℕ) (s : Reading) → n < length text → steps first_reading (take n text) ≡ Some s
    → None ≡ step s (get_or text n d) → IsSyntaxFault text n
syntax-at text n d s lt h stuck = record {
  within = omega (arith, lt);
  continues = let sofar = read-so-far (take n text) s h in rw sofar.0 at (reading-continues s sofar.1);
  stops = λ _. stops;
  ends = λ t spells. stops t (spells.tree, (drop (n + 1) text, sym spells.bytes ∙ sym (take-append-drop (n + 1) text)));
}
  where
    stuck-steps : (rest : List ℕ) → steps first_reading (take (n + 1) text ++ rest) ≡ None
    stuck-steps rest =
        let more = steps-append first_reading (take n text) (get_or text n d ∷ []) in
        rw (steps-append first_reading (take (n + 1) text) rest, take_more text n d lt, more, h, ← stuck) refl

    stops : (t : MergeTree) → Begins (take (n + 1) text) t → ⊥
    stops t (has, (rest, e)) = let bad = sym (text-read t has) ∙ ap (steps first_reading) e ∙ stuck-steps rest in cc bad

-- where the reading has not ended with a tree, the text ends too early
pub syntax-end : (text : List ℕ) (s : Reading) → steps first_reading text ≡ Some s → None ≡ read_tree s
    → IsSyntaxFault text (length text)
syntax-end text s h none = record {
  within = omega arith;
  continues = let sofar = read-so-far text s h in rw (take-length text, ← sofar.0) (reading-continues s sofar.1);
  stops = λ lt. absurd (omega (arith, lt));
  ends = ends;
}
  where
    ends : (t : MergeTree) → SpellsTree text t → ⊥
    ends t spells =
        let is = some-eq _ _ (sym h ∙ ap (steps first_reading) spells.bytes ∙ text-read t spells.tree) in
        let bad = none ∙ ap read_tree is ∙ end-read t in
        cc bad

-- the loop over the text has come to its end
pub whole-read : (text : List ℕ) (n : ℕ) (s : Reading) → n ≤ length text → length text ≤ n
    → steps first_reading (take n text) ≡ Some s → steps first_reading text ≡ Some s
whole-read text n s low high h = let all : n ≡ length text = omega (arith, low, high) in rw (all, take-length text) at h

-- where it has, the text spells that tree
pub spells-end : (text : List ℕ) (s : Reading) (t : MergeTree) → steps first_reading text ≡ Some s
    → Some t ≡ read_tree s → SpellsTree text t
spells-end text s t h e = let sofar = read-so-far text s h in rw sofar.0 at (read-spells s t sofar.1 (sym e))

-- a text is that of one tree
pub spells-one : (text : List ℕ) (s t : MergeTree) → SpellsTree text s → SpellsTree text t → s ≡ t
spells-one text s t one other =
    let first = ap (steps first_reading) one.bytes ∙ text-read s one.tree in
    let second = ap (steps first_reading) other.bytes ∙ text-read t other.tree in
    let same = some-eq _ _ (sym first ∙ second) in
    let tree : ◌≡◌ {A = Option MergeTree} (Some s) (Some t) = sym (end-read s) ∙ ap read_tree same ∙ end-read t in
    cc
