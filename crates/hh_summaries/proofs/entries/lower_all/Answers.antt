use Rattle.std.proofs.Common.{◌≡◌, ℕ, Bool, cond, [], ◌∷◌, ◌∙◌, ap, sym, subst, refl, rules}
use Rattle.std.specs.List.Retain.{RetainsInTurn}
use Rattle.hh_stream.specs.Weights.{Entry}
use Rattle.hh_summaries.specs.Counters.{Counters, exceeds, less_by, lower}
use Rattle.hh_summaries.proofs.Level.{lower-nil, lower-cons}
use Rattle.hh_summaries.proofs.entries.lower_all.Goals as goal

-- a closure that keeps each entry above t, less t, leaves what lowering by t leaves
module _ {F : Type 0} (R : F → Entry → Bool → F → Entry
    → Type 0) (f : F) (t : ℕ) (h : (e : Entry) (b : Bool) (g : F) (d : Entry) → R f e b g d
    → (b ≡ exceeds t e) × (g ≡ f) × (d ≡ less_by t e)) where
  lowered_in_turn : (c : Counters) (g : F) (d : Counters) → g ≡ f → RetainsInTurn R g c d → d ≡ lower t c
  lowered_in_turn [] g d is r = r ∙ sym (lower-nil t)
  lowered_in_turn (e ∷ c) g d is r =
      let one = h e r.0 r.1 r.2 (subst (λ (g : F). R g e r.0 r.1 r.2) is r.3) in
      let rest = lowered_in_turn c r.1 r.4 one.1 r.5 in
      r.6
      ∙ ap (λ b. cond b (r.2 ∷ r.4) r.4) one.0
      ∙ ap (λ x. cond (exceeds t e) (x ∷ r.4) r.4) one.2
      ∙ ap (λ zs. cond (exceeds t e) (less_by t e ∷ zs) zs) rest
      ∙ sym (lower-cons t e c)

pub returns : goal.returns
returns c = lowered_in_turn _ _ c.args.t (λ e b g d k. search rules) c.args.entries.now.items _ _ refl
    c.retain_mut.ensures.filtered
