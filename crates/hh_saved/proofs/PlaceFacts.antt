-- Where the entries of a saved summary lie in its bytes.
use Rattle.std.proofs.Common.{◌≡◌, ℕ, ◌+◌, ◌<◌, ◌≤◌, ◌∙◌, List, [], ◌∷◌, ◌++◌, length, length-append, length-drop, length-take, arith, get_or, map, take, drop, Ok, ap, refl, sym, append_assoc, All}
use Rattle.std.specs.List.{flat_map}
use Rattle.std.specs.Int.{w64, byte_len, to_be_bytes}
use Rattle.std.proofs.lemmas.List.{append-nil, drop-drop, drop_at, drop_more, map-append, take_at, take_more}
use Rattle.std.proofs.lemmas.List.Elements.{All-push}
use Rattle.std.proofs.lemmas.List.Concat.{flat_map-cons}
use Rattle.std.proofs.Math.Seq.{drop-append-add}
use Rattle.hh_stream.specs.Weights.{Entry}
use Rattle.hh_summaries.specs.Counters.{SummaryView}
use Rattle.hh_saved.specs.declared.format.Version.{Version}
use Rattle.hh_saved.specs.declared.saved.Saved.TheVariants.{Counters}
use Rattle.hh_saved.specs.declared.offsets.Place.{Place}
use Rattle.hh_saved.specs.Reading.{version_at}
use Rattle.hh_saved.specs.Sizes.{LiesIn, entry_in}
use Rattle.hh_saved.specs.Spelling.{Spells, entry_bytes, len_width, spelling_of}
use Rattle.hh_saved.proofs.Fields.{wide64, wide_len}
use Rattle.hh_saved.proofs.Values.{spelling_names}

-- a file names its version
pub version_named : (version : Version) (file : List ℕ) (s : SummaryView) → Spells version file (Counters s)
    → (rest : List ℕ) × (version_at file ≡ Ok (version, rest))
version_named version file s is = (
  _,
  ap version_at (is.spelled ∙ sym (append-nil (spelling_of version (Counters s))))
      ∙ spelling_names version (Counters s) [],
)

-- an entry that begins here, and what follows it
module _ (version : Version) (file rest : List ℕ) (start : ℕ) (e : Entry)
    (here : drop start file ≡ entry_bytes version e ++ rest) where
  from_key : drop (start + byte_len (len_width version)) file ≡ e.0 ++ (to_be_bytes w64 e.1 ++ rest)
  from_key =
      let w = byte_len (len_width version) in
      let len = to_be_bytes (len_width version) (length e.0) in
      let counter = to_be_bytes w64 e.1 in
      let apart : drop start file ≡ len ++ (e.0 ++ (counter ++ rest)) = here ∙ simp append_assoc in
      sym (drop-drop w start file) ∙ ap (drop w) apart
      ∙ drop_at len (e.0 ++ (counter ++ rest)) w ((wide_len version).len (length e.0))

  pub key_lies : take (length e.0) (drop (start + byte_len (len_width version)) file) ≡ e.0
  key_lies = ap (take (length e.0)) from_key ∙ take_at e.0 (to_be_bytes w64 e.1 ++ rest) (length e.0) refl

  pub next_begins : drop (start + byte_len (len_width version) + (length e.0 + 8)) file ≡ rest
  next_begins =
      let counter = to_be_bytes w64 e.1 in
      sym (drop-drop (length e.0 + 8) (start + byte_len (len_width version)) file) ∙ ap (drop (length e.0 + 8)) from_key
      ∙ drop-append-add e.0 (counter ++ rest) 8 ∙ drop_at counter rest 8 (wide64.len e.1)

-- one more place, which is that of the next entry
pub place_listed : (file : List ℕ) (counters : List Entry) (old new : List Place) (i : ℕ) (e : Entry) (p : Place)
    → i < length counters → e ≡ get_or counters i e → new ≡ old ++ p ∷ [] → entry_in file p ≡ e
    → map (entry_in file) old ≡ take i counters
    → map (entry_in file) new ≡ take (i + 1) counters
place_listed file counters old new i e p lt is more lies before =
    ap (map (entry_in file)) more ∙ map-append (entry_in file) old (p ∷ [])
    ∙ ap (λ (es : List Entry). es ++ entry_in file p ∷ []) before
    ∙ ap (λ (x : Entry). take i counters ++ x ∷ []) (lies ∙ is) ∙ sym (take_more counters i e lt)

-- a place whose bytes are a key lies within the file, and so do all with it
pub place_within : (file : List ℕ) (old new : List Place) (p : Place) (key : List ℕ)
    → take p.len (drop p.start file) ≡ key → length key ≡ p.len → 0 < length key → new ≡ old ++ p ∷ []
    → All (LiesIn file) old → All (LiesIn file) new
place_within file old new p key is len some more before =
    rw more (All-push (LiesIn file) old p before
    (omega (arith, ap length is, length-take p.len (drop p.start file), length-drop p.start file)))

-- what is left begins with the next entry
pub next_entry : (version : Version) (file : List ℕ) (counters : List Entry) (start i : ℕ) (e : Entry)
    → i < length counters → e ≡ get_or counters i e → drop start file ≡ flat_map (entry_bytes version) (drop i counters)
    → drop start file ≡ entry_bytes version e ++ flat_map (entry_bytes version) (drop (i + 1) counters)
next_entry version file counters start i e lt is here =
    let f = entry_bytes version in
    here ∙ ap (flat_map f) (drop_more counters i e lt ∙ ap (λ (x : Entry). x ∷ drop (i + 1) counters) (sym is))
    ∙ flat_map-cons f e (drop (i + 1) counters)

-- the next entry lies within the file
pub next_within : (version : Version) (file : List ℕ) (counters : List Entry) (start i : ℕ) (e : Entry)
    → i < length counters → e ≡ get_or counters i e → drop start file ≡ flat_map (entry_bytes version) (drop i counters)
    → start + byte_len (len_width version) + (length e.0 + 8) ≤ length file
next_within version file counters start i e lt is here =
    let lengths = simp (length-append, length-drop) at (ap length (next_entry version file counters start i e lt is here)) in
    omega (arith, lengths, (wide_len version).len (length e.0), wide64.len e.1)
