-- The fault of a text is that of its first field from the left that is short or fails.
use Rattle.std.proofs.Common.{◌≡◌, ◌∙◌, ◌⊎◌, inl, inr, ⊎_elim, ℕ, zero, suc, ◌+◌, ◌-◌, ◌*◌, ◌^◌, ◌<◌, ◌≤◌, ◌==◌, Bool, true, false, cond, List, [], ◌∷◌, ◌++◌, length, take, drop, Result, Ok, Err, refl, sym, ap, subst, arith, nat_lt, nat_le}
use Rattle.std.specs.Prelude.{sum}
use Rattle.std.specs.Int.{Width, w8, w16, w32, w64, byte_len, from_be_bytes}
use Rattle.std.specs.Ordering.{is_lt}
use Rattle.std.proofs.lemmas.Bool.{cases_lt}
use Rattle.std.proofs.lemmas.Bool.Decides.{nat_tests}
use Rattle.std.proofs.lemmas.List.{drop-drop, drop-take, drop_all, length-drop, length-take, take-take}
use Rattle.hh_stream.specs.Weights.{Bytes, Entry, key_cmp}
use Rattle.hh_stream.specs.Ranges.{in_range}
use Rattle.hh_summaries.specs.Counters.{SummaryView}
use Rattle.hh_countmin.specs.Family.{Coefficients, max_depth, max_width}
use Rattle.hh_countmin.specs.Table.{TableView}
use Rattle.hh_saved.specs.declared.format.Version.{Version}
use Rattle.hh_saved.specs.declared.saved.Saved.{Saved}
use Rattle.hh_saved.specs.declared.saved.Saved.TheVariants.{Counters, Cells}
use Rattle.hh_faults.specs.declared.saved.SavedFault.{SavedFault}
use Rattle.hh_faults.specs.declared.saved.SavedFault.TheVariants as faults
use Rattle.hh_saved.specs.Laws.{FaultsAreFirst, IsCutShort, IsDecidedBy, IsFollowed}
use Rattle.hh_saved.specs.Reading.{◌>>=◌, body_at, bytes_at, cells_in, count_at, entries_at, entry_at, family_at, family_in, grid_at, has_coefficients, k_at, key_at, len_at, number_at, number_where, row_at, rows_at, saved_of, sketch_at, total_at, value_at, version_at, version_of}
use Rattle.hh_saved.specs.Spelling.{len_width, max_len}
use Rattle.hh_saved.proofs.Heads.{failed}

-- ---- what reads at the front of a text
abbrev Reader : Type 0 → Type 0
Reader A = List ℕ → Result (A × List ℕ) SavedFault

-- what was read, and the bytes after it
abbrev got : {A : Type 0} → A → List ℕ → Result (A × List ℕ) SavedFault
got x rest = Ok (x, rest)

-- the first n bytes of a text are read, whatever comes after them, and one that is cut off before is cut short
pub record Takes {A : Type 0} (read : Reader A) (bytes : List ℕ) (n : ℕ) (x : A) : Type 0 where
  pub within : n ≤ length bytes
  pub short : (m : ℕ) → m < n → read (take m bytes) ≡ failed faults.Truncated
  pub again : (other : List ℕ) → take n other ≡ take n bytes → n ≤ length other → read other ≡ got x (drop n other)

-- or they fail
pub record Fails {A : Type 0} (read : Reader A) (bytes : List ℕ) (n : ℕ) (fault : SavedFault) : Type 0 where
  pub within : n ≤ length bytes
  pub short : (m : ℕ) → m < n → read (take m bytes) ≡ failed faults.Truncated
  pub again : (other : List ℕ) → take n other ≡ take n bytes → read other ≡ failed fault

-- what came of reading a text
abbrev Outcome : {A : Type 0} → Reader A → List ℕ → Result (A × List ℕ) SavedFault → Type 0
Outcome read bytes (Ok x) = (n : ℕ) × Takes read bytes n x.0 × (x.1 ≡ drop n bytes)
Outcome read bytes (Err e) =
    ((e ≡ faults.Truncated) × ((m : ℕ) → read (take m bytes) ≡ failed faults.Truncated)) ⊎ ((n : ℕ) × Fails read bytes n e)

abbrev IsField : {A : Type 0} → Reader A → Type 0
IsField read = (bytes : List ℕ) → Outcome read bytes (read bytes)

-- ---- one after the other
module _ {A B : Type 0} (read : Reader A) (more : A → Reader B) (bytes : List ℕ) where
  abbrev both : Reader B
  both other = read other >>= λ x. more x.0 x.1

  module _ (n : ℕ) (x : A) (t : Takes read bytes n x) where
    -- what comes after the first is read next
    after : (other : List ℕ) → take n other ≡ take n bytes → n ≤ length other → both other ≡ more x (drop n other)
    after other same long = ap (λ q. q >>= λ y. more y.0 y.1) (t.again other same long)

    before : (m : ℕ) → m < n → both (take m bytes) ≡ failed faults.Truncated
    before m l = ap (λ q. q >>= λ y. more y.0 y.1) (t.short m l)

    -- a beginning that is longer ends in what is read next
    ends : (m : ℕ) → n ≤ m → both (take m bytes) ≡ more x (take (m - n) (drop n bytes))
    ends m le =
        let whole : n + (m - n) ≡ m = omega (arith, le) in
        let rest : drop n (take m bytes) ≡ take (m - n) (drop n bytes) =
        ap (λ j. drop n (take j bytes)) (sym whole) ∙ drop-take n (m - n) bytes in
        after (take m bytes) (take-take n m bytes le) (omega (arith, length-take m bytes, t.within, le)) ∙ ap (more x) rest

    long : (other : List ℕ) → take n other ≡ take n bytes → n ≤ length other
    long other same = omega (arith, ap length same, length-take n other, length-take n bytes, t.within)

    -- a text that begins with n + p of the bytes has p of them after n
    agree : (p : ℕ) (other : List ℕ) → take (n + p) other ≡ take (n + p) bytes
        → (take n other ≡ take n bytes) × (take p (drop n other) ≡ take p (drop n bytes))
    agree p other same = (
      sym (take-take n (n + p) other (omega arith)) ∙ ap (take n) same ∙ take-take n (n + p) bytes (omega arith),
      sym (drop-take n p other) ∙ ap (drop n) same ∙ drop-take n p bytes,
    )

    module _ (rest : List ℕ) (is : rest ≡ drop n bytes) where
      -- a beginning is cut short where what is read next is
      still_short : (m : ℕ) → (n ≤ m → more x (take (m - n) rest) ≡ failed faults.Truncated)
          → both (take m bytes) ≡ failed faults.Truncated
      still_short m next = ⊎_elim
          (λ (l : m < n). before m l)
          (λ (le : n ≤ m). ends m le ∙ ap (λ (b : List ℕ). more x (take (m - n) b)) (sym is) ∙ next le)
          (cases_lt m n)

      next : (r : Result (B × List ℕ) SavedFault) → Outcome (more x) rest r → Outcome both bytes r
      next (Err e) (inl (same, all)) = inl (same, λ m. still_short m (λ le. all (m - n)))
      next (Err e) (inr (p, f)) = inr (
        n + p,
        record {
          within = omega (arith, f.within, t.within, ap length is, length-drop n bytes);
          short = λ m l. still_short m (λ le. f.short (m - n) (omega (arith, l, le)));
          again = λ other same.
              let (front, back) = agree p other same in
              after other front (long other front) ∙ f.again (drop n other) (back ∙ ap (take p) (sym is));
        },
      )
      next (Ok (y, left)) (p, u, lies) = (
        n + p,
        record {
          within = omega (arith, u.within, t.within, ap length is, length-drop n bytes);
          short = λ m l. still_short m (λ le. u.short (m - n) (omega (arith, l, le)));
          again = λ other same far.
              let (front, back) = agree p other same in
              after other front (long other front)
              ∙ u.again (drop n other) (back ∙ ap (take p) (sym is)) (omega (arith, far, length-drop n other))
              ∙ ap (got y) (drop-drop p n other);
        },
        lies ∙ ap (drop p) is ∙ drop-drop p n bytes,
      )

  begun : (r : Result (A × List ℕ) SavedFault) → Outcome read bytes r → ((x : A) → IsField (more x))
      → Outcome both bytes (r >>= λ x. more x.0 x.1)
  begun (Err e) (inl (same, all)) fields = inl (same, λ m. ap (λ q. q >>= λ y. more y.0 y.1) (all m))
  begun (Err e) (inr (n, f)) fields = inr (
    n,
    record {
      within = f.within;
      short = λ m l. ap (λ q. q >>= λ y. more y.0 y.1) (f.short m l);
      again = λ other same. ap (λ q. q >>= λ y. more y.0 y.1) (f.again other same);
    },
  )
  begun (Ok (x, rest)) (n, t, is) fields = next n x t rest is (more x rest) (fields x rest)

in_turn : {A B : Type 0} (read : Reader A) (more : A → Reader B) → IsField read → ((x : A) → IsField (more x))
    → IsField (λ bytes. read bytes >>= λ x. more x.0 x.1)
in_turn read more field fields bytes = begun read more bytes (read bytes) (field bytes) fields

-- ---- what takes no byte
-- what was decided before
made : {A : Type 0} (r : Result A SavedFault) → IsField (λ rest. r >>= λ x. got x rest)
made (Ok x) bytes = (
  0,
  record {
    within = omega arith;
    short = λ m l. absurd (omega (arith, l));
    again = λ other same far. refl;
  },
  refl,
)
made (Err e) bytes = inr (
  0,
  record {
    within = omega arith;
    short = λ m l. absurd (omega (arith, l));
    again = λ other same. refl;
  },
)

-- a test
tested : {A : Type 0} (b : Bool) (x : A) (e : SavedFault) → IsField (λ rest. cond b (got x rest) (failed e))
tested true x e = made (Ok x)
tested false x e = made (Err e)

-- a choice
chosen : {A : Type 0} (b : Bool) (one other : Reader A) → IsField one → IsField other
    → IsField (λ bytes. cond b (one bytes) (other bytes))
chosen true one other field fields = field
chosen false one other field fields = fields

-- what is made of what was read
mapped : {A B : Type 0} (read : Reader A) (f : A → B) → IsField read → IsField (λ bytes. read bytes >>= λ x. got (f x.0) x.1)
mapped read f field = in_turn read (λ x rest. got (f x) rest) field (λ x. made (Ok (f x)))

-- ---- the first bytes
abbrev judged : {A : Type 0} → Bool → A → List ℕ → Result (A × List ℕ) SavedFault
judged b x rest = cond b (failed faults.Truncated) (got x rest)

abbrev cut : {A : Type 0} → ℕ → (List ℕ → A) → Reader A
cut len f bytes = judged (nat_lt (length bytes) len) (f (take len bytes)) (drop len bytes)

too_short : {A : Type 0} (len : ℕ) (f : List ℕ → A) (bytes : List ℕ) → length bytes < len
    → cut len f bytes ≡ failed faults.Truncated
too_short len f bytes l =
    let test : nat_lt (length bytes) len ≡ true = grind (arith, nat_tests, l) in
    ap (λ b. judged b (f (take len bytes)) (drop len bytes)) test

fits : {A : Type 0} (len : ℕ) (f : List ℕ → A) (bytes : List ℕ) → len ≤ length bytes
    → cut len f bytes ≡ got (f (take len bytes)) (drop len bytes)
fits len f bytes le =
    let test : nat_lt (length bytes) len ≡ false = grind (arith, nat_tests, le) in
    ap (λ b. judged b (f (take len bytes)) (drop len bytes)) test

cut-field : {A : Type 0} (len : ℕ) (f : List ℕ → A) → IsField (cut len f)
cut-field len f bytes = ⊎_elim
    (λ (l : length bytes < len). subst (Outcome (cut len f) bytes) (sym (too_short len f bytes l))
    (inl (refl, λ m. too_short len f (take m bytes) (omega (arith, length-take m bytes, l)))))
    (λ (le : len ≤ length bytes). subst (Outcome (cut len f) bytes) (sym (fits len f bytes le)) (
      len,
      record {
        within = le;
        short = λ m l. too_short len f (take m bytes) (omega (arith, length-take m bytes, l));
        again = λ other same far. fits len f other far ∙ ap (λ (b : List ℕ). got (f b) (drop len other)) same;
      },
      refl,
    ))
    (cases_lt (length bytes) len)

-- ---- the fields of a file
where-field : (w : Width) (test : ℕ → Bool) (e : SavedFault) → IsField (number_where w test e)
where-field w test e = in_turn (number_at w) (λ n rest. cond (test n) (got n rest) (failed e))
    (cut-field (byte_len w) (from_be_bytes w)) (λ n. tested (test n) n e)

total-field : IsField total_at
total-field = where-field w64 (λ n. nat_lt n (2 ^ 63)) faults.TotalTooLarge

key-field : (version : Version) (before : Bytes) → IsField (key_at version before)
unfolding key_at
key-field version before = in_turn (len_at version)
    (λ len rest. bytes_at len rest >>= λ key. cond (is_lt (key_cmp before key.0)) (Ok key) (Err faults.KeyOrder))
    (where-field (len_width version) (λ n. in_range n (max_len version)) faults.BadKey)
    (λ len. in_turn (bytes_at len) (λ key rest. cond (is_lt (key_cmp before key)) (got key rest) (failed faults.KeyOrder))
    (cut-field len (λ b. b)) (λ key. tested (is_lt (key_cmp before key)) key faults.KeyOrder))

entry-field : (version : Version) (before : Bytes) (left : ℕ) → IsField (entry_at version before left)
unfolding entry_at
entry-field version before left = in_turn (key_at version before)
    (λ key rest. number_where w64 (λ n. nat_lt 0 n) faults.BadCounter rest
    >>= λ counter. cond (nat_le counter.0 left) (Ok ((key, counter.0), counter.1)) (Err faults.SumTooLarge))
    (key-field version before)
    (λ key. in_turn (number_where w64 (λ n. nat_lt 0 n) faults.BadCounter)
    (λ counter rest. cond (nat_le counter left) (got (key, counter) rest) (failed faults.SumTooLarge))
    (where-field w64 (λ n. nat_lt 0 n) faults.BadCounter) (λ counter. tested (nat_le counter left) (key, counter) faults.SumTooLarge))

entries-field : (version : Version) (n : ℕ) (before : Bytes) (left : ℕ) → IsField (entries_at version n before left)
unfolding entries_at
entries-field version zero before left = made (Ok [])
entries-field version (suc n) before left = in_turn (entry_at version before left)
    (λ (first : Entry) rest. entries_at version n first.0 (left - first.1) rest >>= λ others. Ok (first ∷ others.0, others.1))
    (entry-field version before left)
    (λ (first : Entry). mapped (entries_at version n first.0 (left - first.1)) (λ others. first ∷ others)
    (entries-field version n first.0 (left - first.1)))

sketch-field : (version : Version) → IsField (sketch_at version)
unfolding sketch_at
sketch-field version =
    let view : ℕ → ℕ → List Entry → SummaryView = λ k total entries. record { k = k; total = total; counters = entries } in
    in_turn k_at
    (λ k rest. total_at rest >>= λ total. count_at k total.1 >>= λ count. entries_at version count.0 [] total.0 count.1
    >>= λ entries. Ok (view k total.0 entries.0, entries.1))
    (where-field w16 (λ n. nat_lt 0 n) faults.BadK)
    (λ k. in_turn total_at
    (λ total rest. count_at k rest >>= λ count. entries_at version count.0 [] total count.1
    >>= λ entries. Ok (view k total entries.0, entries.1))
    total-field
    (λ total. in_turn (count_at k)
    (λ count rest. entries_at version count [] total rest >>= λ entries. Ok (view k total entries.0, entries.1))
    (where-field w16 (λ n. nat_le n k) faults.BadCount)
    (λ count. mapped (entries_at version count [] total) (view k total) (entries-field version count [] total))))

family-field : (depth : ℕ) → IsField (family_at depth)
unfolding family_at
family-field depth = in_turn (bytes_at (8 + 16 * depth))
    (λ field rest. cond (has_coefficients (family_in depth field)) (got (family_in depth field) rest) (failed faults.BadCoefficient))
    (cut-field (8 + 16 * depth) (λ b. b))
    (λ field. tested (has_coefficients (family_in depth field)) (family_in depth field) faults.BadCoefficient)

row-field : (width total : ℕ) → IsField (row_at width total)
unfolding row_at
row-field width total = in_turn (bytes_at (8 * width))
    (λ field rest. cond (sum (cells_in width field) == total) (got (cells_in width field) rest) (failed faults.RowSum))
    (cut-field (8 * width) (λ b. b))
    (λ field. tested (sum (cells_in width field) == total) (cells_in width field) faults.RowSum)

rows-field : (n width total : ℕ) → IsField (rows_at n width total)
unfolding rows_at
rows-field zero width total = made (Ok [])
rows-field (suc n) width total = in_turn (row_at width total)
    (λ (first : List ℕ) rest. rows_at n width total rest >>= λ others. Ok (first ++ others.0, others.1))
    (row-field width total)
    (λ (first : List ℕ). mapped (rows_at n width total) (λ others. first ++ others) (rows-field n width total))

grid-field : IsField grid_at
unfolding grid_at
grid-field =
    let view : ℕ → Coefficients → ℕ → List ℕ → TableView =
    λ width family total cells. record { family = family; width = width; total = total; cells = cells } in
    in_turn (number_where w32 (λ n. in_range n max_width) faults.BadWidth)
    (λ width rest. number_where w8 (λ n. in_range n max_depth) faults.BadDepth rest >>= λ depth. family_at depth.0 depth.1
    >>= λ family. total_at family.1 >>= λ total. rows_at depth.0 width total.0 total.1
    >>= λ cells. Ok (view width family.0 total.0 cells.0, cells.1))
    (where-field w32 (λ n. in_range n max_width) faults.BadWidth)
    (λ width. in_turn (number_where w8 (λ n. in_range n max_depth) faults.BadDepth)
    (λ depth rest. family_at depth rest >>= λ family. total_at family.1 >>= λ total. rows_at depth width total.0 total.1
    >>= λ cells. Ok (view width family.0 total.0 cells.0, cells.1))
    (where-field w8 (λ n. in_range n max_depth) faults.BadDepth)
    (λ depth. in_turn (family_at depth)
    (λ family rest. total_at rest >>= λ total. rows_at depth width total.0 total.1
    >>= λ cells. Ok (view width family total.0 cells.0, cells.1))
    (family-field depth)
    (λ family. in_turn total_at
    (λ total rest. rows_at depth width total rest >>= λ cells. Ok (view width family total cells.0, cells.1))
    total-field
    (λ total. mapped (rows_at depth width total) (view width family total) (rows-field depth width total)))))

version-field : IsField version_at
unfolding version_at
version-field = in_turn (number_at w32) (λ n rest. version_of n >>= λ version. Ok (version, rest))
    (cut-field (byte_len w32) (from_be_bytes w32)) (λ n. made (version_of n))

body-field : (version : Version) (kind : ℕ) → IsField (body_at version kind)
unfolding body_at
body-field version kind = chosen (kind == 1)
    (λ bytes. sketch_at version bytes >>= λ sketch. Ok (Counters sketch.0, sketch.1))
    (λ bytes. cond (kind == 2) (grid_at bytes >>= λ grid. Ok (Cells grid.0, grid.1)) (Err faults.BadKind))
    (mapped (sketch_at version) Counters (sketch-field version))
    (chosen (kind == 2) (λ bytes. grid_at bytes >>= λ grid. Ok (Cells grid.0, grid.1)) (λ bytes. Err faults.BadKind)
    (mapped grid_at Cells grid-field) (made (Err faults.BadKind)))

value-field : IsField value_at
unfolding value_at
value-field = in_turn version_at (λ version rest. number_at w8 rest >>= λ kind. body_at version kind.0 kind.1) version-field
    (λ version. in_turn (number_at w8) (λ kind rest. body_at version kind rest)
    (cut-field (byte_len w8) (from_be_bytes w8)) (λ kind. body-field version kind))

-- ---- a whole text
-- nothing may follow
abbrev whole : Saved × List ℕ → Result Saved SavedFault
whole value = cond (length value.1 == 0) (Ok value.0) (Err faults.Trailing)

not_whole : (b : Bool) (v : Saved) (fault : SavedFault) → cond b (Ok v) (failed faults.Trailing) ≡ failed fault
    → (b ≡ false) × (fault ≡ faults.Trailing)
not_whole true v fault h = absurd cc
not_whole false v fault h = (refl, cc)

module _ (bytes : List ℕ) (fault : SavedFault) where
  first_of : (r : Result (Saved × List ℕ) SavedFault) → Outcome value_at bytes r → (r >>= whole) ≡ failed fault
      → IsCutShort bytes fault ⊎ (((n : ℕ) × IsDecidedBy bytes fault n) ⊎ IsFollowed bytes fault)
  unfolding saved_of
  first_of (Err e) (inl (same, all)) h =
      let is : fault ≡ e = cc in inl (is ∙ same, λ m. ap (λ q. q >>= whole) (all m))
  first_of (Err e) (inr (n, f)) h = inr (inl (
    n,
    record {
      within = f.within;
      before = λ m l. ap (λ q. q >>= whole) (f.short m l);
      after = λ other same. ap (λ q. q >>= whole) (f.again other same) ∙ h;
    },
  ))
  first_of (Ok (v, rest)) (n, t, is) h =
      let (some, trailing) = not_whole (length rest == 0) v fault h in
      let less : n < length bytes = grind (arith, nat_tests, some, ap length is, length-drop n bytes) in
      let spelled = t.again (take n bytes) (take-take n n bytes (omega arith)) (omega (arith, length-take n bytes, t.within)) in
      let none = drop_all n (take n bytes) (omega (arith, length-take n bytes)) in
      inr (inr (trailing, n, v, less, ap (λ q. q >>= whole) (spelled ∙ ap (got v) none)))

pub faults_first : FaultsAreFirst
unfolding saved_of
faults_first bytes fault h = first_of bytes fault (value_at bytes) (value-field bytes) h
