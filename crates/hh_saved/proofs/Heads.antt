-- The fault that stands before any memory is taken.
use Rattle.std.proofs.Common.{◌≡◌, ℕ, zero, suc, ◌+◌, ◌<◌, ◌≤◌, List, [], Result, Ok, Err, refl, ap, ◌∙◌, inl, inr, arith}
use Rattle.std.proofs.lemmas.Bool.{cases_lt}
use Rattle.hh_stream.specs.Weights.{Entry}
use Rattle.hh_saved.specs.declared.format.Version.{Version}
use Rattle.hh_faults.specs.declared.saved.SavedFault.{SavedFault}
use Rattle.hh_saved.specs.Reading.{◌>>=◌, StopsAt, last_key_of, entry_at, entries_head_at}

-- a fault, as the result of a function
abbrev pub failed : {A : Type 0} → SavedFault → Result A SavedFault
failed e = Err e

-- one fault is one whatever was to be read
pub err_is : {A B : Type 0} (d e : SavedFault) → failed {A = A} d ≡ Err e → failed {A = B} d ≡ Err e
err_is d e h = let same : d ≡ e = cc in ap Err same

-- a fault of the head is the function's
pub stopped : {X Y : Type 0} (r : Result X SavedFault) (head : Result Y SavedFault) → StopsAt r head
    → (fault : SavedFault) → head ≡ Err fault → r ≡ Err fault
stopped r (Ok y) s fault h = absurd cc
stopped r (Err e) s fault h = s ∙ err_is e fault h

-- a function that fails wherever the head does stops there
pub stops_by : {X Y : Type 0} (r : Result X SavedFault) (head : Result Y SavedFault)
    → ((fault : SavedFault) → head ≡ Err fault → r ≡ Err fault) → StopsAt r head
stops_by r (Ok y) so = tt
stops_by r (Err e) so = so e refl

-- ---- entries

-- where only the first step can fail, it did
of_bind : {A B : Type 0} (r : Result A SavedFault) (f : A → B) (fault : SavedFault) → (r >>= λ x. Ok (f x)) ≡ Err fault
    → r ≡ Err fault
of_bind (Ok x) f fault h = absurd cc
of_bind (Err e) f fault h = err_is e fault h

-- after the first entry the head has no fault
first_read : (version : Version) (count total : ℕ) (bytes : List ℕ) (x : Entry × List ℕ) (fault : SavedFault)
    → 0 < count → entry_at version [] total bytes ≡ Ok x → entries_head_at version count total bytes ≡ Err fault → ⊥
unfolding entries_head_at
first_read version zero total bytes x fault lt read h = omega arith
first_read version (suc n) total bytes x fault lt read h = let e = rw read at h in absurd cc

-- a fault of the head is the first entry's
first_failed : (version : Version) (count total : ℕ) (bytes : List ℕ) (fault : SavedFault)
    → entries_head_at version count total bytes ≡ Err fault → entry_at version [] total bytes ≡ Err fault
unfolding entries_head_at
first_failed version zero total bytes fault h = absurd cc
first_failed version (suc n) total bytes fault h =
    of_bind (entry_at version [] total bytes) (λ (x : Entry × List ℕ). x.1) fault h

-- before the first entry nothing has been read, and after it the head has no fault
pub record IsBegun (version : Version) (count total : ℕ) (bytes : List ℕ) (i : ℕ) (front : List Entry) (left : ℕ)
    (rest : List ℕ) : Type 0 where
  pub first : i ≡ 0 → (last_key_of front ≡ []) × (left ≡ total) × (rest ≡ bytes)
  pub later : 0 < i → (fault : SavedFault) → entries_head_at version count total bytes ≡ Err fault → ⊥

-- once an entry was read the head has no fault
no_fault : (version : Version) (count total : ℕ) (bytes : List ℕ) (i : ℕ) (front : List Entry) (left : ℕ)
    (rest : List ℕ) (x : Entry × List ℕ) → i < count → entry_at version (last_key_of front) left rest ≡ Ok x
    → IsBegun version count total bytes i front left rest
    → (fault : SavedFault) → entries_head_at version count total bytes ≡ Err fault → ⊥
no_fault version count total bytes i front left rest x lt read b fault h =
    elim (cases_lt 0 i) [
      | inl some ↦ b.later some fault h
      | inr none ↦
          let p = b.first (omega arith) in
          let again : entry_at version [] total bytes ≡ Ok x = rw (← p.0, ← p.1, ← p.2) read in
          first_read version count total bytes x fault (omega arith) again h
    ]

-- one entry more
pub begun_more : (version : Version) (count total : ℕ) (bytes : List ℕ) (i : ℕ) (front after : List Entry)
    (left less : ℕ) (rest others : List ℕ) (x : Entry × List ℕ) → i < count
    → entry_at version (last_key_of front) left rest ≡ Ok x → IsBegun version count total bytes i front left rest
    → IsBegun version count total bytes (i + 1) after less others
begun_more version count total bytes i front after left less rest others x lt read b =
    record { first = λ none. absurd (omega arith); later = λ _ fault h. no_fault _ _ _ _ _ _ _ _ _ lt read b fault h }

-- the head of no entries has no fault
none_stops : {Y : Type 0} (r : Result Y SavedFault) (version : Version) (total : ℕ) (bytes : List ℕ)
    → StopsAt r (entries_head_at version 0 total bytes)
unfolding entries_head_at
none_stops r version total bytes = tt

-- after the last entry
pub begun_ends : {Y : Type 0} (r : Result Y SavedFault) (version : Version) (count total : ℕ) (bytes : List ℕ) (i : ℕ)
    (front : List Entry) (left : ℕ) (rest : List ℕ) → count ≤ i → IsBegun version count total bytes i front left rest
    → StopsAt r (entries_head_at version count total bytes)
begun_ends r version zero total bytes i front left rest le b = none_stops r version total bytes
begun_ends r version (suc n) total bytes i front left rest le b =
    stops_by r (entries_head_at version (suc n) total bytes) (λ fault h. absurd (b.later (omega arith) fault h))

-- an entry that was read, and memory that ran out after it
pub begun_stops : {Y : Type 0} (r : Result Y SavedFault) (version : Version) (count total : ℕ) (bytes : List ℕ) (i : ℕ)
    (front : List Entry) (left : ℕ) (rest : List ℕ) (x : Entry × List ℕ) → i < count
    → entry_at version (last_key_of front) left rest ≡ Ok x → IsBegun version count total bytes i front left rest
    → StopsAt r (entries_head_at version count total bytes)
begun_stops r version count total bytes i front left rest x lt read b =
    stops_by r (entries_head_at version count total bytes)
    (λ fault h. absurd (no_fault _ _ _ _ _ _ _ _ _ lt read b fault h))

-- an entry that was not read
pub entry_stops : {X Y : Type 0} (r : Result X SavedFault) (s : Result Y SavedFault) (version : Version)
    (count total : ℕ) (bytes : List ℕ) (i : ℕ) (front : List Entry) (left : ℕ) (rest : List ℕ)
    → StopsAt s (entry_at version (last_key_of front) left rest)
    → ((fault : SavedFault) → s ≡ Err fault → r ≡ Err fault) → IsBegun version count total bytes i front left rest
    → StopsAt r (entries_head_at version count total bytes)
entry_stops r s version count total bytes i front left rest stops so b =
    stops_by r (entries_head_at version count total bytes) (λ fault h. elim (cases_lt 0 i) [
      | inl some ↦ absurd (b.later some fault h)
      | inr none ↦
          let p = b.first (omega arith) in
          let again : entry_at version (last_key_of front) left rest ≡ Err fault =
          rw (p.0, p.1, p.2) (first_failed version count total bytes fault h) in
          so fault (stopped s (entry_at version (last_key_of front) left rest) stops fault again)
    ])
