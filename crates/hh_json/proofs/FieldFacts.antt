-- The kinds of a key's member, and the fields of a line.
use Rattle.std.proofs.Common.{◌≡◌, ℕ, Bool, true, false, List, [], ◌++◌, Option, None, Some, cond, refl, sym, ap, true≢false}
use Rattle.std.specs.Bool.{then_some}
use Rattle.std.specs.Option.{is_some, option_or, unwrap_or}
use Rattle.std.specs.Prelude.{option_map}
use Rattle.json.specs.Ascii.{false_text, true_text}
use Rattle.json.specs.Find.{as_bool, as_number, as_str}
use Rattle.json.specs.Json.{Json, array, boolean, null, number, object, string}
use Rattle.hh_json.specs.Fields.{fields_in, json_fields, key_text, object_in}

abbrev word_text : Bool → List ℕ
word_text true = true_text
word_text false = false_text

pub key-kind : (j : Json) → key_text j ≡ option_or (as_str j) (option_or (as_number j) (option_map word_text (as_bool j)))
key-kind null = refl
key-kind (boolean true) = refl
key-kind (boolean false) = refl
key-kind (number s) = refl
key-kind (string s) = refl
key-kind (array js) = refl
key-kind (object ms) = refl

-- the fields of a line, once the members of its object are put behind none
pub fields-found : (names : List (List ℕ)) (weight : Option (List ℕ)) (line : List ℕ) (j : Json) (found : Bool)
    (before after : List (List ℕ)) → object_in line ≡ Some j → before ≡ []
    → then_some found after ≡ option_map (λ texts. before ++ texts) (fields_in names weight j)
    → cond found after [] ≡ json_fields names weight line
fields-found names weight line j found before after e none pushed = rw (e) (by found (fields_in names weight j) (rw none at pushed))
  where
    by : (b : Bool) (o : Option (List (List ℕ))) → then_some b after ≡ option_map (λ texts. [] ++ texts) o
        → cond b after [] ≡ unwrap_or o []
    by true None h = absurd (true≢false (ap is_some h))
    by true (Some texts) h = ap (λ o. unwrap_or o []) h
    by false None h = refl
    by false (Some texts) h = absurd (true≢false (sym (ap is_some h)))
