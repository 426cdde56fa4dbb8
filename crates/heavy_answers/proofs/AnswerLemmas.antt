-- What holds of an outcome, and more.
use Rattle.std.proofs.Common.{◌≡◌, ◌∙◌, ◌⊎◌, ◌||◌, ℕ, Bool, true, false, List, Option, IfOk, IfErr, Result, Ok, Err, inl, inr, refl, sym, subst}
use Rattle.std.specs.Prelude.{⊤}
use Rattle.hh_records.specs.Streams.{Known}
use Rattle.hh_records.specs.declared.layout.Layout.{Layout}
use Rattle.heavy_requests.specs.declared.request.RecordWords.{RecordWords}
use Rattle.heavy_answers.specs.Answers.{IfOnce, OfRecords}
use Rattle.heavy_answers.specs.Inputs.{AreRecords}

-- what follows from what holds of a success
pub if_ok_more : {A E : Type 0} {P Q : A → Type 0} (r : Result A E) → ((a : A) → P a → Q a) → IfOk r P → IfOk r Q
if_ok_more (Ok a) more holds = more a holds
if_ok_more (Err e) more holds = tt

-- what follows from what holds of a refusal
pub if_err_more : {A E : Type 0} {P Q : E → Type 0} (r : Result A E) → ((e : E) → P e → Q e) → IfErr r P → IfErr r Q
if_err_more (Ok a) more holds = tt
if_err_more (Err e) more holds = more e holds

-- what is true holds
abbrev pub Holds : Bool → Type 0
Holds true = ⊤
Holds false = ⊥

-- nothing is both
not_both : (b : Bool) → b ≡ true → b ≡ false → ⊥
not_both b holds fails = subst Holds (sym holds ∙ fails) tt

-- what holds of one reading
pub read_once : {P T : Type 0} (once : Bool) → once ≡ true → P → IfOnce once P T
read_once once reads holds = record { once = λ _. holds; again = λ fails. absurd (not_both once reads fails) }

-- what holds of several
pub read_again : {P T : Type 0} (once : Bool) → once ≡ false → T → IfOnce once P T
read_again once reads holds = record { once = λ is. absurd (not_both once is reads); again = λ _. holds }

-- one of two holds
pub either_holds : (a b : Bool) → (a ≡ true) ⊎ ((a ≡ false) × (b ≡ true)) → (a || b) ≡ true
either_holds a b (inl holds) = subst (λ v. (v || b) ≡ true) (sym holds) refl
either_holds a b (inr other) = subst (λ v. (v || b) ≡ true) (sym other.0) other.1

-- neither of two holds
pub neither_holds : (a b : Bool) → a ≡ false → b ≡ false → (a || b) ≡ false
neither_holds a b first second = subst (λ v. (v || b) ≡ false) (sym first) second

-- what is made of records is of those that the words name
pub of_records : (opens : Bool → List ℕ → Option (List ℕ) → Type 0) (words : RecordWords) (Makes : Known → Type 0) (layout : Layout)
    (known : Known) → AreRecords opens words layout known → Makes known → OfRecords opens words Makes
of_records opens words Makes layout known records made = record { layout = layout; known = known; records = records; made = made }

-- what follows from what is made of the same records
pub of_records_more : {P Q : Known → Type 0} (opens : Bool → List ℕ → Option (List ℕ) → Type 0) (words : RecordWords)
    → ((known : Known) → P known → Q known) → OfRecords opens words P → OfRecords opens words Q
of_records_more opens words more of =
    record { layout = of.layout; known = of.known; records = of.records; made = more of.known of.made }

-- what can't be opened can't begin
pub begin_refused : {P Q R : Type 0} → P ⊎ R → (P ⊎ Q) ⊎ R
begin_refused (inl opening) = inl (inl opening)
begin_refused (inr records) = inr records
