-- The object that a line is.
use Rattle.std.proofs.Common.{◌≡◌, ℕ, Bool, true, false, List, Option, None, Some, refl, sym, ap, true≢false}
use Rattle.std.specs.Option.{IsSome, MatchOption, is_some}
use Rattle.std.specs.Str.{IsUtf8, is_utf8}
use Rattle.std.proofs.lemmas.Str.{IsUtf8-from_is_utf8, is_utf8-from_IsUtf8}
use Rattle.json.specs.Find.{BeginsWith, Finds, InMembers, as_object}
use Rattle.json.specs.Json.{Json, Members, array, boolean, document, null, number, object, string}
use Rattle.json.specs.Token.{Token}
use Rattle.hh_json.specs.Fields.{is_object, object_in}

-- bytes that are no value
pub object-none : (line : List ℕ) → (IsUtf8 line → document line ≡ None) → object_in line ≡ None
object-none line none = by (is_utf8 line) refl
  where
    by : (b : Bool) → is_utf8 line ≡ b → object_in line ≡ None
    by true e = rw (e, none (IsUtf8-from_is_utf8 line e)) refl
    by false e = rw e refl

no-object : (j : Json) → as_object j ≡ None → is_object j ≡ false
no-object null e = refl
no-object (boolean b) e = refl
no-object (number s) e = refl
no-object (string s) e = refl
no-object (array js) e = refl
no-object (object ms) e = absurd (true≢false (ap is_some e))

module _ (line : List ℕ) (ts : List Token) (r : Option (List Token)) (text : IsUtf8 line) (some : IsSome (document line))
    (value : (j : Json) → document line ≡ Some j → BeginsWith ts j)
    (members : (j : Json) → BeginsWith ts j
    → MatchOption r (as_object j ≡ None) (λ rest. (ms : Members) × (j ≡ object ms) × InMembers rest ms)) where
  -- tokens of a value that has members
  pub object-read : is_some r ≡ true → Finds (Some ts) (object_in line)
  object-read is = by (document line) refl some
    where
      at : (j : Json) → document line ≡ Some j → (o : Option (List Token)) → is_some o ≡ true
          → MatchOption o (as_object j ≡ None) (λ rest. (ms : Members) × (j ≡ object ms) × InMembers rest ms)
          → object_in line ≡ Some j
      at j e None i m = absurd (true≢false (sym i))
      at j e (Some rest) i m = rw (is_utf8-from_IsUtf8 line text, e, m.1) refl

      by : (o : Option Json) → document line ≡ o → IsSome o → Finds (Some ts) (object_in line)
      by None e h = absurd (true≢false (sym h))
      by (Some j) e h = (j, at j e r is (members j (value j e)), value j e)

  -- tokens of one that has none
  pub object-other : is_some r ≡ false → object_in line ≡ None
  object-other is = by (document line) refl some
    where
      at : (j : Json) → document line ≡ Some j → (o : Option (List Token)) → is_some o ≡ false
          → MatchOption o (as_object j ≡ None) (λ rest. (ms : Members) × (j ≡ object ms) × InMembers rest ms)
          → object_in line ≡ None
      at j e None i m = rw (is_utf8-from_IsUtf8 line text, e, no-object j m) refl
      at j e (Some rest) i m = absurd (true≢false i)

      by : (o : Option Json) → document line ≡ o → IsSome o → object_in line ≡ None
      by None e h = absurd (true≢false (sym h))
      by (Some j) e h = at j e r is (members j (value j e))
