-- What a call leaves, by what it is of.
use Rattle.std.proofs.Common.{◌≡◌, ◌∙◌, ◌⊎◌, inl, inr, ℕ, List, [], ◌∷◌, length, ap, arith, Option, Some, None, Result, Ok, Err, IfOk, IfErr, refl, subst, sym}
use Rattle.std.specs.Prelude.{IfSome, IsErrAnd, IsOk, IsOkAnd, MatchResult}
use Rattle.std.specs.Global.{Vec}
use Rattle.hh_faults.specs.Status.{status_of}
use Rattle.hh_faults.specs.declared.error.ToolError.{ToolError}
use Rattle.hh_faults.specs.declared.error.ToolError.TheVariants as tool
use Rattle.hh_saved.specs.Spelling.{Spells}
use Rattle.hh_saved.specs.declared.format.Version.TheVariants as version
use Rattle.hh_saved.specs.declared.saved.Saved.{Saved}
use Rattle.heavy_ffi.specs.Faults.{IsTold}
use Rattle.heavy_ffi.specs.declared.fault.Fault.{Fault}
use Rattle.heavy_ffi.specs.Outcomes.{IsGiven, IsOutcome, IsRefused, file_with}

came_so : {X : Type 0} (P : List X → Type 0) (given : Result (Vec X) ToolError) → IfOk given (λ v. P v.items)
    → (xs : List X) → IsGiven given xs → P xs
came_so P (Ok v) all xs is = subst P (sym is) all
came_so P (Err e) all xs is = absurd is

refused_so : {X : Type 0} (Q : ToolError → Type 0) (given : Result (Vec X) ToolError) → IfErr given Q
    → (e : ToolError) → given ≡ Err e → Q e
refused_so Q (Ok v) all e is = absurd cc
refused_so Q (Err f) all e is = let same : f ≡ e = cc in subst Q same all

-- what holds of an answer that came, by two clauses
pub came : {X : Type 0} (r : Result X ToolError) {P Q : X → Type 0} → IfOk r P → IsOkAnd r Q
    → (x : X) × P x × Q x × (r ≡ Ok x)
came (Ok x) p q = (x, p, q, refl)
came (Err e) p q = absurd q

-- a call that was refused tells the refusal
pub told_refused : {X : Type 0} (Q : ToolError → Type 0) (given : Result (Vec X) ToolError)
    {status : ℕ} {old new : List X} {needed : ℕ} {fault : Fault} → IsErrAnd given Q
    → ((status ≡ 0) ⊎ (status ≡ 5) → IsOkAnd given (λ v. needed ≡ length v.items))
    → IsOutcome (IsGiven given) (λ e. given ≡ Err e) status old new needed fault → IsRefused Q status fault
told_refused Q (Ok v) came size o = absurd came
told_refused Q (Err e) came size o =
    let (other, is, told) = o.refused (λ done. size (inl done)) (λ small. size (inr small)) in
    let same : e ≡ other = cc in (other, subst Q same came, told)

-- a call whose argument is wrong tells what is refused for it
pub told_wrong : {X : Type 0} (wrong : Option ToolError) (Q : ToolError → ToolError → Type 0)
    (given : Result (Vec X) ToolError) {status : ℕ} {old new : List X} {needed : ℕ} {fault : Fault}
    → IfSome wrong (λ w. IsErrAnd given (Q w))
    → ((status ≡ 0) ⊎ (status ≡ 5) → IsOkAnd given (λ v. needed ≡ length v.items))
    → IsOutcome (IsGiven given) (λ e. given ≡ Err e) status old new needed fault
    → IfSome wrong (λ w. IsRefused (Q w) status fault)
told_wrong None Q given came size o = tt
told_wrong (Some w) Q given came size o = told_refused (Q w) given came size o

-- a call that gives what came, or refuses as it was refused, leaves what holds of both
pub outcome_of : {X : Type 0} (P : List X → Type 0) (Q : ToolError → Type 0) (given : Result (Vec X) ToolError)
    {status : ℕ} {old new : List X} {needed : ℕ} {fault : Fault} → IfOk given (λ v. P v.items) → IfErr given Q
    → IsOutcome (IsGiven given) (λ e. given ≡ Err e) status old new needed fault
    → IsOutcome P Q status old new needed fault
outcome_of P Q given came refused o = record {
  done = λ h. came_so P given came _ (o.done h);
  within = o.within;
  small = λ h. let (answer, is, long, more) = o.small h in (answer, came_so P given came answer is, long, more);
  refused = λ h k. let (e, is, told) = o.refused h k in (e, refused_so Q given refused e is, told);
  unchanged = o.unchanged;
  no_fault = o.no_fault;
}

-- a call on the saved file of a value gives and refuses by that
module _ (Gives : List ℕ → List ℕ → Type 0) (Refused : List ℕ → ToolError → Type 0)
    (memory : (file : List ℕ) → Refused file tool.Memory) where
  pub by_file : (held : Option Saved) (file given : Result (Vec ℕ) ToolError)
      {status : ℕ} {old new : List ℕ} {needed : ℕ} {fault : Fault}
      → IfSome held (λ v. IfOk file (λ bytes. Spells version.Two bytes.items v)) → IfErr file (λ e. e ≡ tool.Memory)
      → IfOk given (λ bytes. IfOk file (λ (f : Vec ℕ). Gives f.items bytes.items)) → IfOk given (λ bytes. IsOk file)
      → IfErr given (λ e. MatchResult file (λ (f : Vec ℕ). Refused f.items e) (λ other. e ≡ other))
      → IsOutcome (IsGiven given) (λ e. given ≡ Err e) status old new needed fault
      → IfSome held (λ v. IsOutcome (Gives (file_with v)) (Refused (file_with v)) status old new needed fault)
  by_file None file given saved no_memory gives made refused o = tt
  by_file (Some v) (Ok f) given saved no_memory gives made refused o =
      outcome_of (Gives (file_with v)) (Refused (file_with v)) given
      (subst (λ (bytes : List ℕ). IfOk given (λ (b : Vec ℕ). Gives bytes b.items)) saved.spelled gives)
      (subst (λ (bytes : List ℕ). IfErr given (Refused bytes)) saved.spelled refused) o
  by_file (Some v) (Err e) (Ok b) saved no_memory gives made refused o = absurd cc
  by_file (Some v) (Err e) (Err f) saved no_memory gives made refused o =
      outcome_of (Gives (file_with v)) (Refused (file_with v)) (Err f) tt
      (subst (Refused (file_with v)) (sym (refused ∙ no_memory)) (memory (file_with v))) o

-- a refusal has a status of its own
refusal_status : (e : ToolError) → (status_of e ≡ 0 → ⊥) × (status_of e ≡ 5 → ⊥)
refusal_status tool.BadDepth = (λ h. omega (arith, h), λ h. omega (arith, h))
refusal_status tool.BadK = (λ h. omega (arith, h), λ h. omega (arith, h))
refusal_status tool.BadWorkers = (λ h. omega (arith, h), λ h. omega (arith, h))
refusal_status tool.BadWidth = (λ h. omega (arith, h), λ h. omega (arith, h))
refusal_status tool.BadPieces = (λ h. omega (arith, h), λ h. omega (arith, h))
refusal_status (tool.BadTree f) = (λ h. omega (arith, h), λ h. omega (arith, h))
refusal_status tool.BadMethod = (λ h. omega (arith, h), λ h. omega (arith, h))
refusal_status tool.ReadFault = (λ h. omega (arith, h), λ h. omega (arith, h))
refusal_status (tool.BadRecord n c) = (λ h. omega (arith, h), λ h. omega (arith, h))
refusal_status (tool.BadFile n f) = (λ h. omega (arith, h), λ h. omega (arith, h))
refusal_status (tool.MixedKinds n) = (λ h. omega (arith, h), λ h. omega (arith, h))
refusal_status (tool.CannotMerge n c) = (λ h. omega (arith, h), λ h. omega (arith, h))
refusal_status (tool.BadKey n c) = (λ h. omega (arith, h), λ h. omega (arith, h))
refusal_status tool.NotCounters = (λ h. omega (arith, h), λ h. omega (arith, h))
refusal_status tool.TotalDiffers = (λ h. omega (arith, h), λ h. omega (arith, h))
refusal_status (tool.WriteFault n) = (λ h. omega (arith, h), λ h. omega (arith, h))
refusal_status (tool.FileFault n) = (λ h. omega (arith, h), λ h. omega (arith, h))
refusal_status tool.Memory = (λ h. omega (arith, h), λ h. omega (arith, h))
refusal_status tool.BadThreshold = (λ h. omega (arith, h), λ h. omega (arith, h))
refusal_status tool.BadDelimiter = (λ h. omega (arith, h), λ h. omega (arith, h))
refusal_status tool.BadColumn = (λ h. omega (arith, h), λ h. omega (arith, h))
refusal_status tool.NoColumn = (λ h. omega (arith, h), λ h. omega (arith, h))
refusal_status tool.WeightOutside = (λ h. omega (arith, h), λ h. omega (arith, h))
refusal_status (tool.TopUncertain n m) = (λ h. omega (arith, h), λ h. omega (arith, h))
refusal_status (tool.ReportUncertain n m) = (λ h. omega (arith, h), λ h. omega (arith, h))

-- a change that is refused leaves the value as it was, and tells the refusal
pub refused_change : (P : Saved → List (Option Saved) → Type 0) (Q : Saved → ToolError → Type 0) (held new : Option Saved)
    (v lent w : Saved) (e : ToolError) {status : ℕ} {fault : Fault} → held ≡ Some v → new ≡ Some w → lent ≡ v → w ≡ lent
    → Q lent e → IsTold status fault e
    → IfSome held (λ value. IsOutcome (P value) (Q value) status (held ∷ []) (new ∷ []) 1 fault)
refused_change P Q held new v lent w e {status} {fault} is came same stays refused told =
    let some : status ≡ 0 → ⊥ = λ h. (refusal_status e).0 (sym told.status ∙ h) in
    let fits : status ≡ 5 → ⊥ = λ h. (refusal_status e).1 (sym told.status ∙ h) in
    rw (is, came) (record {
      done = λ h. absurd (some h);
      within = λ h. absurd (some h);
      small = λ h. absurd (fits h);
      refused = λ h k. (e, subst (λ (x : Saved). Q x e) same refused, told);
      unchanged = λ h. ap (λ (x : Saved). Some x ∷ []) (stays ∙ same);
      no_fault = λ h. elim h [
        | inl a ↦ absurd (some a)
        | inr b ↦ absurd (fits b)
      ];
    })
