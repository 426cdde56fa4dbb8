-- Items that are taken in turn.
use Rattle.std.proofs.Common.{◌≡◌, ◌<◌, ◌+◌, ◌++◌, ◌∙◌, ℕ, List, [], refl, sym, ap, arith}
use Rattle.std.specs.Prelude.{OnOk, Result, Ok, Err, fold}
use Rattle.std.proofs.lemmas.List.Elements.{All-append, All-from_recursion}
use Rattle.std.proofs.lemmas.List.Sums.{fold-append, sum_by-append}
use Rattle.hh_stream.specs.Weights.{Entry, total_of}
use Rattle.hh_stream.specs.Taking.{Takes}

abbrev Weighs : Entry → Type 0
Weighs e = 0 < e.1

pub takes-none : {A : Type 0} (f : A → Entry → A) (w : A → ℕ) (old : A) (P : List Entry → Type 0) → P []
    → Takes f w old old P
takes-none f w old P h = record {
  xs = [];
  given = h;
  positive = All-from_recursion Weighs [] tt;
  weight = omega arith;
  taken = refl;
}

-- items of which something else is true
pub takes-as : {A : Type 0} (f : A → Entry → A) (w : A → ℕ) (a b : A) (P Q : List Entry → Type 0) → Takes f w a b P
    → ((xs : List Entry) → P xs → Q xs) → Takes f w a b Q
takes-as f w a b P Q t h = record {
  xs = t.xs;
  given = h t.xs t.given;
  positive = t.positive;
  weight = t.weight;
  taken = t.taken;
}

pub takes-on : {A : Type 0} (f : A → Entry → A) (w : A → ℕ) (a b c : A) (P Q R : List Entry → Type 0)
    → Takes f w a b P → Takes f w b c Q
    → ((xs ys : List Entry) → w b ≡ w a + total_of xs → P xs → Q ys → w c ≡ w a + total_of (xs ++ ys) → R (xs ++ ys))
    → Takes f w a c R
takes-on f w a b c P Q R s t h =
    let sum = sum_by-append (λ (e : Entry). e.1) s.xs t.xs in
    let weight : w c ≡ w a + total_of (s.xs ++ t.xs) = omega (arith, s.weight, t.weight, sum) in
    record {
      xs = s.xs ++ t.xs;
      given = h s.xs t.xs s.weight s.given t.given weight;
      positive = All-append Weighs s.xs t.xs s.positive t.positive;
      weight = weight;
      taken = t.taken ∙ ap (λ taker. fold f taker t.xs) s.taken ∙ sym (fold-append f a s.xs t.xs);
    }

-- what follows from two facts where a call gives something, follows where it does
pub on-ok : {A E : Type 0} (r : Result A E) (P B Q : Type 0) → OnOk r P → OnOk r B → (P → B → Q) → OnOk r Q
on-ok (Ok a) P B Q p b h = h p b
on-ok (Err e) P B Q p b h = tt
