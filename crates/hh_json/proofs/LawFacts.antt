-- The laws.
use Rattle.std.proofs.Common.{◌≡◌, ◌==◌, ◌⊎◌, inl, inr, ◌∙◌, ◌+◌, ℕ, Bool, true, false, List, [], ◌∷◌, ◌++◌, Bor, Option, None, Some, length, refl, sym, ap, arith, eqb-true, length-append}
use Rattle.std.specs.Prelude.{option_and_then, option_map}
use Rattle.std.specs.List.{flat_map}
use Rattle.std.specs.Option.{option_len, unwrap_or}
use Rattle.std.proofs.lemmas.List.Splits.{slice_split_at}
use Rattle.std.proofs.lemmas.Slice.Eq.{bytes_eq-Decides}
use Rattle.json.specs.Ascii.{slash}
use Rattle.json.specs.Find.{get_member}
use Rattle.json.specs.Json.{Json, object}
use Rattle.json.specs.Value.{members_of}
use Rattle.serde_json.specs.Find.{unescape}
use Rattle.hh_json.specs.Fields.{fields_in, key_of, keys_of, object_in, weight_text, weights_of}
use Rattle.hh_json.specs.Laws.{EachMemberHasAPointer, FieldsAreAllOrNone, LastMemberCounts, LinesOfOneObject, PointersGoPartByPart, escaped}
use Rattle.hh_json.specs.Paths.{follow, parts_of}
use Rattle.hh_json.proofs.PathFacts.{last-step}

pub lines_of_one_object : LinesOfOneObject
lines_of_one_object names weight a b same = ap (λ o. unwrap_or (option_and_then (fields_in names weight) o) []) same

-- ---- as many fields as names
abbrev Has : Option (List (List ℕ)) → ℕ → Type 0
Has o n = (unwrap_or o [] ≡ []) ⊎ (length (unwrap_or o []) ≡ n)

abbrev Counts : Option (List (List ℕ)) → ℕ → Type 0
Counts None n = n ≡ n
Counts (Some texts) n = length texts ≡ n

keys-count : (j : Json) (names : List (List ℕ)) → Counts (keys_of j names) (length names)
keys-count j [] = refl
keys-count j (name ∷ names) = by (key_of j name) (keys_of j names) (keys-count j names)
  where
    by : (t : Option (List ℕ)) (o : Option (List (List ℕ))) → Counts o (length names)
        → Counts (option_and_then (λ text. option_map (λ texts. text ∷ texts) o) t) (length (name ∷ names))
    by None o h = refl
    by (Some t) None h = refl
    by (Some t) (Some ts) h = omega (arith, h)

weights-count : (j : Json) (weight : Option (List ℕ)) → Counts (weights_of j weight) (option_len weight)
weights-count j None = refl
weights-count j (Some name) = by (weight_text j name)
  where
    by : (t : Option (List ℕ)) → Counts (option_map (λ text. text ∷ []) t) 1
    by None = refl
    by (Some t) = refl

fields-count : (j : Json) (names : List (List ℕ)) (weight : Option (List ℕ))
    → Has (fields_in names weight j) (length names + option_len weight)
fields-count j names weight = by (keys_of j names) (weights_of j weight) (keys-count j names) (weights-count j weight)
  where
    by : (k w : Option (List (List ℕ))) → Counts k (length names) → Counts w (option_len weight)
        → Has (option_and_then (λ keys. option_map (λ rest. keys ++ rest) w) k) (length names + option_len weight)
    by None w a b = inl refl
    by (Some keys) None a b = inl refl
    by (Some keys) (Some rest) a b = inr (omega (arith, length-append keys rest, a, b))

pub fields_are_all_or_none : FieldsAreAllOrNone
fields_are_all_or_none names weight line = by (object_in line)
  where
    by : (o : Option Json) → Has (option_and_then (fields_in names weight) o) (length names + option_len weight)
    by None = inl refl
    by (Some j) = fields-count j names weight

-- ---- members
last-found : (ms : List (Bor (List ℕ) × Json)) (m : Bor (List ℕ) × Json)
    → get_member m.0.now (members_of (ms ++ m ∷ [])) ≡ Some m.1
last-found [] m = rw ((bytes_eq-Decides m.0.now m.0.now).1 refl) refl
last-found (n ∷ ms) m = rw (last-found ms m) refl

pub last_member_counts : LastMemberCounts
last_member_counts ms m plain = rw plain (last-found ms m)

-- ---- pointers
pub pointers_go_part_by_part : PointersGoPartByPart
pointers_go_part_by_part part rest j none =
    ap (λ parts. follow parts j) (slice_split_at (λ b. b == slash) part slash rest none refl)

-- a name that is escaped is one part, and is read back
unescape-plain : (x : ℕ) (rest : List ℕ) → (x == 126) ≡ false → unescape (x ∷ rest) ≡ x ∷ unescape rest
unfolding unescape
unescape-plain x [] e = refl
unescape-plain x (y ∷ rest) e = rw e refl

read-back : (name : List ℕ) → unescape (flat_map escaped name) ≡ name
unfolding unescape
read-back [] = refl
read-back (x ∷ name) = by (x == 126) (x == slash) refl refl (read-back name)
  where
    by : (a b : Bool) → (x == 126) ≡ a → (x == slash) ≡ b → unescape (flat_map escaped name) ≡ name
        → unescape (flat_map escaped (x ∷ name)) ≡ x ∷ name
    by true b e f more = rw (e, more) (ap (λ y. y ∷ name) (sym (eqb-true x 126 e)))
    by false true e f more = rw (e, f, more) (ap (λ y. y ∷ name) (sym (eqb-true x slash f)))
    by false false e f more = rw (e, f, unescape-plain x (flat_map escaped name) e) (ap (λ rest. x ∷ rest) more)

one-part : (name : List ℕ) → parts_of (flat_map escaped name) ≡ flat_map escaped name ∷ []
one-part [] = refl
one-part (x ∷ name) = by (x == 126) (x == slash) refl refl (one-part name)
  where
    by : (a b : Bool) → (x == 126) ≡ a → (x == slash) ≡ b → parts_of (flat_map escaped name) ≡ flat_map escaped name ∷ []
        → parts_of (flat_map escaped (x ∷ name)) ≡ flat_map escaped (x ∷ name) ∷ []
    by true b e f more = rw (e, more) refl
    by false true e f more = rw (e, f, more) refl
    by false false e f more = rw (e, f, more, f) refl

pub each_member_has_a_pointer : EachMemberHasAPointer
each_member_has_a_pointer name ms =
    ap (λ parts. follow parts (object ms)) (one-part name)
    ∙ last-step (get_member (unescape (flat_map escaped name)) ms)
    ∙ ap (λ n. get_member n ms) (read-back name)
