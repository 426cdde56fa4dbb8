use Rattle.std.proofs.Common.{◌≡◌, ℕ, List, length, ap, ap₂, ◌∙◌, refl, subst, sym, true≢false}
use Rattle.std.specs.Int.{w64, from_be_bytes}
use Rattle.hh_stream.specs.Ranges.{in_range}
use Rattle.hh_countmin.specs.Family.{Coefficients, AreCoefficients, max_depth}
use Rattle.hh_saved.specs.Reading.{blocks_in, pair_of, family_in}
use Rattle.hh_saved.proofs.Blocks.{length-blocks_in}
use Rattle.hh_saved.proofs.Families.{has_coefficients-Decides, has_coefficients-refused, family_at-is}
use Rattle.hh_saved.proofs.reading.take_family.Goals as goal

pub from_rows-requires : goal.from_rows-requires
from_rows-requires c =
    let len : length c.in_ok-rows.rows.items ≡ c.args.depth =
    ap length c.in_ok-rows.ensures ∙ length-blocks_in pair_of 16 c.args.depth c.split_at.result.1.now in
    record {
      depth = ap (λ n. in_range n max_depth) len ∙ c.requires;
      coefficients = subst (AreCoefficients c.number_in-z.result) c.deref.ensures.value
          (c.if-not-are_coefficients.ensures.0 refl);
    }

pub returns-clause-family : goal.returns-clause-family
returns-clause-family c =
    let family : Coefficients = record { z = c.number_in-z.result; rows = c.in_ok-rows.rows.items } in
    let z = c.number_in-z.ensures ∙ ap (from_be_bytes w64) c.split_at.ensures.front in
    let rows = c.in_ok-rows.ensures ∙ ap (blocks_in pair_of 16 c.args.depth) c.split_at.ensures.back in
    let is : family ≡ family_in c.args.depth c.in_ok-field.field.now =
    ap₂ (λ (n : ℕ) (xs : List (ℕ × ℕ)). record { z = n; rows = xs }) z rows in
    rw c.from_rows.ensures (family_at-is c.args.depth _ _ _ family _ c.in_ok-field.ensures is
    ((has_coefficients-Decides family).1 (subst (AreCoefficients c.number_in-z.result) c.deref.ensures.value
    (c.if-not-are_coefficients.ensures.0 refl))))

pub returns-then-not-are_coefficients-clause-family : goal.returns-then-not-are_coefficients-clause-family
returns-then-not-are_coefficients-clause-family c =
    let family : Coefficients = record { z = c.number_in-z.result; rows = c.deref.result.now } in
    let z = c.number_in-z.ensures ∙ ap (from_be_bytes w64) c.split_at.ensures.front in
    let rows = c.deref.ensures.value ∙ c.in_ok-rows.ensures
    ∙ ap (blocks_in pair_of 16 c.args.depth) c.split_at.ensures.back in
    let is : family ≡ family_in c.args.depth c.in_ok-field.field.now =
    ap₂ (λ (n : ℕ) (xs : List (ℕ × ℕ)). record { z = n; rows = xs }) z rows in
    family_at-is c.args.depth _ _ _ family _ c.in_ok-field.ensures is
    (has_coefficients-refused family (λ are. true≢false (sym (c.if-not-are_coefficients.ensures.1 are))))
