use Rattle.std.proofs.Common.{rules, arith, ◌≡◌, ℕ, zero, suc, ◌+◌, ◌<◌, ◌∷◌, [], ◌++◌, List, length, get_or, sym, ap, ◌∙◌, subst, below_more}
use Rattle.std.proofs.lemmas.List.{get_or_push, get_or_append_left}
use mathlib.Core.Option.{some, some-injective, some-ne-none}
use lib.ListN.{get_elem?}
use Rattle.hh_shared.specs.Numbers.{HasAllBelow, sum_at}
use Rattle.hh_shared.proofs.Steps.{closes}
use Rattle.hh_shared.proofs.sums.SharedSums.close.Goals as goal

get_or-at : (xs : List ℕ) (i x : ℕ) → get_elem? xs i ≡ some x → get_or xs i 0 ≡ x
get_or-at [] i x e = absurd (some-ne-none x (sym e))
get_or-at (y ∷ ys) zero x e = some-injective y x e
get_or-at (y ∷ ys) (suc i) x e = get_or-at ys i x e

-- a list that gains the next value of f has f's values
get_or-of_push : (xs ys : List ℕ) (x : ℕ) (f : ℕ → ℕ) (n : ℕ) → ys ≡ xs ++ x ∷ [] → length xs ≡ n
    → ((k : ℕ) → k < n → get_or xs k 0 ≡ f k) → x ≡ f n → (k : ℕ) → k < n + 1 → get_or ys k 0 ≡ f k
get_or-of_push xs ys x f n e long before here = below_more (λ k. get_or ys k 0 ≡ f k) n
    (λ k low. rw e (get_or_append_left xs (x ∷ []) 0 k (omega arith) ∙ before k low))
    (rw e (get_or_push xs x 0 n long ∙ here))

pub loop-cell-preserved : goal.loop-cell-preserved
loop-cell-preserved c =
    let pushes = c.push_reserved.ensures in
    let i = c.loop-cell.invariant in
    let word = get_or-at c.close_with-closed.result.words.items (c.self.inside.claims + c.loop-cell.cell) c.word.result
    c.word.ensures in
    record {
      len = search rules;
      room = search rules;
      read = get_or-of_push c.loop-cell.sums.items _ c.word.result
          (λ k. get_or c.close_with-closed.result.words.items (c.self.inside.claims + k) 0) c.loop-cell.cell
          pushes.items (omega (arith, i.len, c.loop-cell.sums.ok)) i.read (sym word);
    }

pub returns-clause-sums : goal.returns-clause-sums
returns-clause-sums c cell inside =
    let sums = ap (λ h. h.sums) c.seat.view_is ∙ (c.requires.seat ∙ sym c.self.view_is) in
    let counts = c.self.invariant.counts in
    let first = ap (λ z. z.0) counts in
    let final = c.close_with-closed.ensures.values.2 in
    let state = final.0 in
    let claims_now : c.self.inside.table.shared.key.0 ≡ c.args.self.claims = first
    ∙ ap (λ s. s.claims) c.self.view_is in
    let mine = ap (λ h. h.claims) c.seat.view_is in
    let all = subst (λ (z : ℕ × List ℕ). HasAllBelow z.0 z.1) (λ i. (sym claims_now i, sym mine i)) c.requires.all in
    let low : cell < c.loop-cell.cell = omega (arith, ap (λ s. s.cells) c.self.view_is) in
    let fit : cell < c.self.inside.table.shared.key.1 = omega (arith, ap (λ z. z.1) counts) in
    c.loop-cell.invariant.read cell low ∙ (ap (λ ws. get_or ws (c.self.inside.claims + cell) 0) (sym final.2)
    ∙ (ap (λ k. get_or state.words (k + cell) 0) (sym first)
    ∙ (closes _ _ _ _ _ _ final.1.0 final.1.1 all cell fit ∙ ap (λ h. sum_at h.adds cell) c.seat.view_is)))
