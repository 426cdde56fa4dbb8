-- What `clap` found of an option.
use Rattle.std.specs.Prelude.{ℕ, ◌≡◌, ◌<◌, ◌^◌, Bool, true, false, [], Option, None, Some, codes, unwrap_or}
use Rattle.std.specs.Str.Parse.{IsNumeral, digits_value, without_leading_plus}
use Rattle.clap.specs.Words.{Text, first_value, one_text}
use Rattle.clap.specs.declared.parser.matches.Found.{Found}
use Rattle.heavy_arguments.specs.declared.options.Argument.{Argument}
use Rattle.heavy_arguments.specs.declared.options.Kind.{Kind}
use Rattle.heavy_arguments.specs.declared.options.Kind.TheVariants as kind

-- the number that a text spells, which may begin with a plus
abbrev pub number_in : Text → ℕ
number_in text = digits_value 10 (without_leading_plus text)

-- the number that stands where none is given
abbrev pub number_of_kind : {T : Type 0} → Kind T → ℕ
number_of_kind (kind.Number (Some number)) = number
number_of_kind kind.Count = 1
number_of_kind _ = 0

-- the text that stands where none is given
abbrev pub text_of_kind : {T : Type 0} → (T → Text) → Kind T → Text
text_of_kind as_text (kind.Text value text) = as_text text
text_of_kind as_text _ = []

-- the number of this name, below a bound: the one that was given, or else the default
pub record IsNumber (found : Found) (name : Text) (bound default number : ℕ) : Type 0 where
  pub absent : one_text found name ≡ None → number ≡ default
  pub given : (text : Text) → one_text found name ≡ Some text → IsNumeral 10 (without_leading_plus text)
      → number_in text < bound → number ≡ number_in text

-- the number of this name, where one was given
pub record IsNumberGiven (found : Found) (name : Text) (number : Option ℕ) : Type 0 where
  pub absent : one_text found name ≡ None → number ≡ None
  pub given : (text : Text) → one_text found name ≡ Some text → IsNumeral 10 (without_leading_plus text)
      → number_in text < 2 ^ 64 → number ≡ Some (number_in text)

-- whether the flag of this name is given
pub record IsFlag (found : Found) (name : Text) (given : Bool) : Type 0 where
  pub yes : one_text found name ≡ Some (codes "true") → given ≡ true
  pub no : one_text found name ≡ None → given ≡ false

-- the text of an option: the one that was given, or else the default
abbrev pub text_found : {T : Type 0} → (T → Text) → Found → Argument T → Text
text_found as_text found it = unwrap_or (first_value found (as_text it.name)) (text_of_kind as_text it.kind)
