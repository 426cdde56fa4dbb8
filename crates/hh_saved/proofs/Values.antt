-- Whole files: what is read is spelled so, what is spelled so is read, and no spelling begins another, whatever the
-- versions.
use Rattle.std.proofs.Common.{◌≡◌, ℕ, ◌^◌, ◌<◌, Bool, true, false, cond, eqb, List, [], ◌∷◌, ◌++◌, Result, Ok, Err, refl, sym, ap, subst, ◌∙◌, ◌⊎◌, inl, inr, ⊎_elim, append_assoc, arith, IfOk}
use Rattle.std.specs.List.{AllByRecursion}
use Rattle.std.specs.Int.{w8, w32, to_be_bytes}
use Rattle.std.proofs.lemmas.Bool.{eqb-true}
use Rattle.std.proofs.lemmas.List.{append-nil, nil_from_length}
use Rattle.hh_stream.specs.Weights.{Entry}
use Rattle.hh_saved.specs.declared.format.Version.{Version}
use Rattle.hh_saved.specs.declared.format.Version.TheVariants.{One, Two}
use Rattle.hh_saved.specs.declared.saved.Saved.{Saved}
use Rattle.hh_saved.specs.declared.saved.Saved.TheVariants.{Counters, Cells}
use Rattle.hh_faults.specs.declared.saved.SavedFault.{SavedFault}
use Rattle.hh_faults.specs.declared.saved.SavedFault.TheVariants as faults
use Rattle.hh_saved.specs.Spelling.{magic_of, kind_of, content_bytes, spelling_of, IsSavedKey, IsSaved, Spells}
use Rattle.hh_saved.specs.Reading.{◌>>=◌, Gives, sketch_at, grid_at, version_of, version_at, body_at, value_at, saved_of}
use Rattle.hh_saved.proofs.Fields.{IsBytes, bind_ok, passed, ok_is, Takes, Takes-then, wide8, wide32, number_takes, number_again}
use Rattle.hh_saved.proofs.Entries.{sketch_takes, sketch_again}
use Rattle.hh_saved.proofs.Grids.{grid_takes, grid_again}

-- which of two tests passed, where neither is refused
chosen : {A : Type 0} (b c : Bool) (x y : Result A SavedFault) (fault : SavedFault) (z : A)
    → cond b x (cond c y (Err fault)) ≡ Ok z → ((b ≡ true) × (x ≡ Ok z)) ⊎ ((c ≡ true) × (y ≡ Ok z))
chosen true c x y fault z e = inl (refl, e)
chosen false true x y fault z e = inr (refl, e)
chosen false false x y fault z e = absurd cc

-- ---- the version

-- a magic that names a version is its own
named : (n : ℕ) (version : Version) → version_of n ≡ Ok version → n ≡ magic_of version
named n version e =
    ⊎_elim
    (λ first. eqb-true _ _ first.0 ∙ ap magic_of (ok_is One version first.1))
    (λ second. eqb-true _ _ second.0 ∙ ap magic_of (ok_is Two version second.1))
    (chosen (eqb n (magic_of One)) (eqb n (magic_of Two)) (Ok One) (Ok Two) faults.BadMagic version e)

-- a version that is read is spelled so
version_takes : (bytes : List ℕ) (x : Version × List ℕ) → IsBytes bytes → version_at bytes ≡ Ok x
    → Takes bytes (to_be_bytes w32 (magic_of x.0)) x.1
unfolding version_at
version_takes bytes x fits e =
    let a = bind_ok _ _ x e in
    let b = bind_ok _ _ x a.2 in
    let t = number_takes _ _ wide32 _ _ fits a.1 in
    let front = rw (named a.0.0 b.0 b.1) at t.0 in
    rw (← ok_is (b.0, a.0.1) x b.2) front

-- a magic names its version
names : (version : Version) → (version_of (magic_of version) ≡ Ok version) × (magic_of version < 2 ^ 32)
names One = (refl, omega arith)
names Two = (refl, omega arith)

-- and a version that is spelled so is read
version_again : (version : Version) (rest : List ℕ)
    → version_at (to_be_bytes w32 (magic_of version) ++ rest) ≡ Ok (version, rest)
unfolding version_at
version_again version rest =
    rw (number_again _ _ wide32 (magic_of version) rest (names version).1, (names version).0) refl

-- ---- values

-- what follows the kind
abbrev IsContent : Version → ℕ → List ℕ → Saved × List ℕ → Type 0
IsContent version kind bytes x =
    Takes bytes (content_bytes version x.0) x.1 × IsSaved version x.0 × (kind ≡ kind_of x.0)

-- a body that is read is spelled so
body_takes : (version : Version) (kind : ℕ) (bytes : List ℕ) (x : Saved × List ℕ) → IsBytes bytes
    → body_at version kind bytes ≡ Ok x → IsContent version kind bytes x
unfolding body_at
body_takes version kind bytes x fits e =
    let counters : Result (Saved × List ℕ) SavedFault = sketch_at version bytes >>= λ s. Ok (Counters s.0, s.1) in
    let cells : Result (Saved × List ℕ) SavedFault = grid_at bytes >>= λ t. Ok (Cells t.0, t.1) in
    ⊎_elim
    (λ first.
    let a = bind_ok _ _ x first.1 in
    let t = sketch_takes _ _ _ fits a.1 in
    let made : Saved × List ℕ = (Counters a.0.0, a.0.1) in
    subst (IsContent version kind bytes) (ok_is made x a.2) (t.0, (t.1, t.2), eqb-true _ _ first.0))
    (λ second.
    let a = bind_ok _ _ x second.1 in
    let t = grid_takes _ _ fits a.1 in
    let made : Saved × List ℕ = (Cells a.0.0, a.0.1) in
    subst (IsContent version kind bytes) (ok_is made x a.2) (t.0, (t.1, t.2), eqb-true _ _ second.0))
    (chosen (eqb kind 1) (eqb kind 2) counters cells faults.BadKind x e)

-- and a body that is spelled so is read
body_again : (version : Version) (v : Saved) (rest : List ℕ) → IsSaved version v
    → body_at version (kind_of v) (content_bytes version v ++ rest) ≡ Ok (v, rest)
unfolding body_at
body_again version (Counters s) rest is = rw (sketch_again version s rest is.0 is.1) refl
body_again version (Cells t) rest is = rw (grid_again t rest is.0 is.1) refl

-- a value that is read is spelled so, in one of the versions
value_takes : (bytes : List ℕ) (x : Saved × List ℕ) → IsBytes bytes → value_at bytes ≡ Ok x
    → (version : Version) × Takes bytes (spelling_of version x.0) x.1 × IsSaved version x.0
unfolding value_at
value_takes bytes x fits e =
    let a = bind_ok {A = Version × List ℕ} _ _ x e in
    let version = a.0.0 in
    let rest = a.0.1 in
    let b = bind_ok _ _ x a.2 in
    let kind = b.0 in
    let t0 = version_takes _ _ fits a.1 in
    let t1 = number_takes _ _ wide8 _ _ t0.rest_fits b.1 in
    let t2 = body_takes _ _ _ _ t1.0.rest_fits b.2 in
    let second = rw t2.2 at t1.0 in
    let tail = Takes-then _ _ _ _ _ second t2.0 in
    (version, Takes-then _ _ _ _ _ t0 tail, t2.1)

-- a kind has one byte
kind_small : (v : Saved) → kind_of v < 2 ^ 8
kind_small (Counters s) = omega arith
kind_small (Cells t) = omega arith

-- the version that a spelling begins with
pub spelling_names : (version : Version) (v : Saved) (rest : List ℕ)
    → version_at (spelling_of version v ++ rest)
    ≡ Ok (version, to_be_bytes w8 (kind_of v) ++ (content_bytes version v ++ rest))
spelling_names version v rest =
    let magic = to_be_bytes w32 (magic_of version) in
    let kind = to_be_bytes w8 (kind_of v) in
    let content = content_bytes version v in
    let regrouped : spelling_of version v ++ rest ≡ magic ++ (kind ++ (content ++ rest)) = simp append_assoc in
    ap version_at regrouped ∙ version_again version (kind ++ (content ++ rest))

-- and a value that is spelled so is read
value_again : (version : Version) (v : Saved) (rest : List ℕ) → IsSaved version v
    → value_at (spelling_of version v ++ rest) ≡ Ok (v, rest)
unfolding value_at
value_again version v rest is =
    rw (
      spelling_names version v rest,
      number_again _ _ wide8 (kind_of v) (content_bytes version v ++ rest) (kind_small v),
      body_again version v rest is,
    ) refl

-- ---- all of the bytes

-- all bytes that are read spell the value
saved_takes : (bytes : List ℕ) (v : Saved) → IsBytes bytes → saved_of bytes ≡ Ok v
    → (version : Version) × Spells version bytes v
unfolding saved_of
saved_takes bytes v fits e =
    let a = bind_ok _ _ v e in
    let g = passed _ _ _ v a.2 in
    let t = value_takes _ _ fits a.1 in
    let version = t.0 in
    let nothing : a.0.1 ≡ [] = nil_from_length a.0.1 (eqb-true _ _ g.0) in
    let whole : bytes ≡ spelling_of version a.0.0 =
    t.1.parts ∙ ap (λ (rest : List ℕ). spelling_of version a.0.0 ++ rest) nothing
    ∙ append-nil (spelling_of version a.0.0) in
    (version, subst (Spells version bytes) g.1 (record { saved = t.2; spelled = whole }))

-- and all that spell it are read
pub saved_again : (version : Version) (bytes : List ℕ) (v : Saved) → Spells version bytes v → saved_of bytes ≡ Ok v
unfolding saved_of
saved_again version bytes v is =
    let whole : bytes ≡ spelling_of version v ++ [] = is.spelled ∙ sym (append-nil (spelling_of version v)) in
    ap saved_of whole ∙ rw (value_again version v [] is.saved) refl

-- what a function found that reads so is spelled so
pub is_found : (bytes : List ℕ) (r : Result Saved SavedFault) → IsBytes bytes → Gives (λ v. v) r (saved_of bytes)
    → IfOk r (λ v. (version : Version) × Spells version bytes v)
is_found bytes (Ok v) fits given = saved_takes bytes v fits given
is_found bytes (Err e) fits given = tt

-- ---- laws

-- values of one spelling are one, and no spelling begins another
pub one_spelling : (p q : Version) (v w : Saved) (rest : List ℕ) → IsSaved p v → IsSaved q w
    → spelling_of p v ++ rest ≡ spelling_of q w → (p ≡ q) × (v ≡ w) × (rest ≡ [])
one_spelling p q v w rest first second e =
    let whole : spelling_of p v ++ rest ≡ spelling_of q w ++ [] = e ∙ sym (append-nil (spelling_of q w)) in
    let front = ok_is _ _ (sym (spelling_names p v rest) ∙ ap version_at whole ∙ spelling_names q w []) in
    let same =
    ok_is (v, rest) (w, []) (sym (value_again p v rest first) ∙ ap value_at whole ∙ value_again q w [] second) in (
      ap (λ (x : Version × List ℕ). x.0) front,
      ap (λ (x : Saved × List ℕ). x.0) same,
      ap (λ (x : Saved × List ℕ). x.1) same,
    )

-- files that are read alike hold one value, and those of one version are one
pub read_alike : (p q : Version) (b c : List ℕ) (v w : Saved) → Spells p b v → Spells q c w → saved_of b ≡ saved_of c
    → (v ≡ w) × (p ≡ q → b ≡ c)
read_alike p q b c v w first second e =
    let same = ok_is v w (sym (saved_again p b v first) ∙ e ∙ saved_again q c w second) in (
      same,
      λ version. first.spelled ∙ ap (λ (x : Saved). spelling_of p x) same
          ∙ ap (λ (x : Version). spelling_of x w) version ∙ sym second.spelled,
    )

-- a key of version 1 is one of version 2
longer_keys : (es : List Entry) → AllByRecursion (λ e. IsSavedKey One e.0) es
    → AllByRecursion (λ e. IsSavedKey Two e.0) es
longer_keys [] are = tt
longer_keys (e ∷ es) are = (record { key = are.0.key; few = are.0.key.few }, longer_keys es are.1)

-- a value of version 1 is one of version 2
pub rewritten : (v : Saved) → IsSaved One v → IsSaved Two v
rewritten (Counters s) is = (is.0, longer_keys s.counters is.1)
rewritten (Cells t) is = is
