-- Reading entries and rows one after the other, as loops do.
use Rattle.std.proofs.Common.{◌≡◌, ℕ, suc, ◌-◌, ◌+◌, ◌≤◌, ◌<◌, List, [], ◌∷◌, ◌++◌, length, Result, Ok, Err, refl, sym, ap, ◌∙◌, append_assoc, arith}
use Rattle.std.proofs.lemmas.List.{append-nil, get_or_push, length_push}
use Rattle.hh_stream.specs.Weights.{Entry}
use Rattle.hh_saved.specs.declared.format.Version.{Version}
use Rattle.hh_faults.specs.declared.saved.SavedFault.{SavedFault}
use Rattle.hh_faults.specs.declared.saved.SavedFault.TheVariants as faults
use Rattle.hh_saved.proofs.Fields.{ok_is}
use Rattle.hh_saved.specs.Reading.{◌>>=◌, Refuses, with_front, last_key_of, entry_at, entries_at, row_at, rows_at}

-- a failure of a part is one of the whole, and so of what equals it
refused-along : {X Y : Type 0} (e : SavedFault) (part : Result X SavedFault) (whole all : Result Y SavedFault)
    → (part ≡ Err e → whole ≡ Err e) → whole ≡ all → Refuses part e → Refuses all e
refused-along faults.Memory part whole all so same fails = tt
refused-along e part whole all so same fails = sym same ∙ so fails

-- ---- entries

-- the key of the last entry
last_key_of-push : (front : List Entry) (e : Entry) → last_key_of (front ++ e ∷ []) ≡ e.0
last_key_of-push front e =
    let last : length front ≡ length (front ++ e ∷ []) - 1 = omega (arith, length_push front e) in
    ap (λ (d : Entry). d.0) (get_or_push front e ([], 0) (length (front ++ e ∷ []) - 1) last)

-- what was read in front stays in front
regroup : {X : Type 0} (front first : List X) (read : Result (List X × List ℕ) SavedFault)
    → with_front front (read >>= λ x. Ok (first ++ x.0, x.1)) ≡ with_front (front ++ first) read
regroup {X} front first (Ok x) = ap (λ (xs : List X). Ok (xs, x.1)) (sym (append_assoc front first x.0))
regroup front first (Err e) = refl

-- one entry more
pub entries_go_on : (version : Version) (front : List Entry) (count i left : ℕ) (bytes : List ℕ) (e : Entry)
    (after : List ℕ) (all : Result (List Entry × List ℕ) SavedFault) → i < count
    → entry_at version (last_key_of front) left bytes ≡ Ok (e, after)
    → with_front front (entries_at version (count - i) (last_key_of front) left bytes) ≡ all
    → with_front (front ++ e ∷ [])
    (entries_at version (count - (i + 1)) (last_key_of (front ++ e ∷ [])) (left - e.1) after) ≡ all
unfolding entries_at
entries_go_on version front count i left bytes e after all lt read so_far =
    let k : count - i ≡ suc (count - (i + 1)) = omega arith in
    let rest = entries_at version (count - (i + 1)) e.0 (left - e.1) after in
    rw (last_key_of-push front e) (sym (regroup front (e ∷ []) rest) ∙ rw (k, read) at so_far)

-- an entry that fails
pub entries_fail : (version : Version) (fault : SavedFault) (front : List Entry) (count i left : ℕ) (bytes : List ℕ)
    (all : Result (List Entry × List ℕ) SavedFault) → i < count
    → Refuses (entry_at version (last_key_of front) left bytes) fault
    → with_front front (entries_at version (count - i) (last_key_of front) left bytes) ≡ all → Refuses all fault
unfolding entries_at
entries_fail version fault front count i left bytes all lt fails so_far =
    let k : count - i ≡ suc (count - (i + 1)) = omega arith in
    refused-along fault (entry_at version (last_key_of front) left bytes) _ all (λ h. rw (k, h) refl) so_far fails

-- no entry is left
pub entries_end : (version : Version) (front : List Entry) (count i left : ℕ) (bytes : List ℕ)
    (all : Result (List Entry × List ℕ) SavedFault) → count ≤ i
    → with_front front (entries_at version (count - i) (last_key_of front) left bytes) ≡ all → all ≡ Ok (front, bytes)
unfolding entries_at
entries_end version front count i left bytes all le so_far =
    let k : count - i ≡ 0 = omega arith in
    sym (rw k at so_far) ∙ ap (λ (es : List Entry). Ok (es, bytes)) (append-nil front)

-- ---- rows

-- a row that is read, and the rows after it
rows_step : (front : List ℕ) (n width total : ℕ) (bytes : List ℕ) (read : Result (List ℕ × List ℕ) SavedFault)
    (cells after : List ℕ)
    → with_front front read ≡ Ok (cells, after)
    → with_front front
    (read >>= λ first. rows_at n width total first.1 >>= λ others. Ok (first.0 ++ others.0, others.1))
    ≡ with_front cells (rows_at n width total after)
rows_step front n width total bytes (Ok x) cells after e =
    let same = ok_is (front ++ x.0, x.1) (cells, after) e in
    regroup front x.0 (rows_at n width total x.1)
    ∙ ap (λ (p : List ℕ × List ℕ). with_front p.0 (rows_at n width total p.1)) same
rows_step front n width total bytes (Err f) cells after e = absurd cc

-- one row more
pub rows_go_on : (front cells : List ℕ) (depth i width total : ℕ) (bytes after : List ℕ)
    (all : Result (List ℕ × List ℕ) SavedFault) → i < depth
    → with_front front (row_at width total bytes) ≡ Ok (cells, after)
    → with_front front (rows_at (depth - i) width total bytes) ≡ all
    → with_front cells (rows_at (depth - (i + 1)) width total after) ≡ all
unfolding rows_at
rows_go_on front cells depth i width total bytes after all lt read so_far =
    let k : depth - i ≡ suc (depth - (i + 1)) = omega arith in
    sym (rows_step front (depth - (i + 1)) width total bytes (row_at width total bytes) cells after read)
    ∙ rw k at so_far

-- a row that fails, whatever is after it
rows_stop : (front : List ℕ) (n width total : ℕ) (read : Result (List ℕ × List ℕ) SavedFault) (fault : SavedFault)
    → with_front front read ≡ Err fault
    → with_front front
    (read >>= λ first. rows_at n width total first.1 >>= λ others. Ok (first.0 ++ others.0, others.1)) ≡ Err fault
rows_stop front n width total (Ok x) fault e = absurd cc
rows_stop front n width total (Err f) fault e = e

-- a row that fails
pub rows_fail : (fault : SavedFault) (front : List ℕ) (depth i width total : ℕ) (bytes : List ℕ)
    (all : Result (List ℕ × List ℕ) SavedFault) → i < depth
    → Refuses (with_front front (row_at width total bytes)) fault
    → with_front front (rows_at (depth - i) width total bytes) ≡ all → Refuses all fault
unfolding rows_at
rows_fail fault front depth i width total bytes all lt fails so_far =
    let k : depth - i ≡ suc (depth - (i + 1)) = omega arith in
    refused-along fault (with_front front (row_at width total bytes)) _ all
    (λ h. rw k (rows_stop front (depth - (i + 1)) width total (row_at width total bytes) fault h)) so_far fails

-- no row is left
pub rows_end : (front : List ℕ) (depth i width total : ℕ) (bytes : List ℕ) (all : Result (List ℕ × List ℕ) SavedFault)
    → depth ≤ i
    → with_front front (rows_at (depth - i) width total bytes) ≡ all → all ≡ Ok (front, bytes)
unfolding rows_at
rows_end front depth i width total bytes all le so_far =
    let k : depth - i ≡ 0 = omega arith in
    sym (rw k at so_far) ∙ ap (λ (es : List ℕ). Ok (es, bytes)) (append-nil front)
