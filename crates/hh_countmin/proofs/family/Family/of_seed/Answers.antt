use Rattle.std.proofs.Common.{◌≡◌, ℕ, List, ap, sym, ap₂, ◌∙◌}
use Rattle.rand_pcg.specs.Lcg.{Lcg}
use Rattle.rand_pcg.specs.Pcg.{pcg64}
use Rattle.hh_countmin.specs.Family.{factor_of}
use Rattle.hh_countmin.proofs.Drawing.{next_rows, is_drawn, drawn_is_family}
use Rattle.hh_countmin.proofs.family.Family.of_seed.Goals as goal

pub invariant_of-result : goal.invariant_of-result
invariant_of-result c =
    rw (c.factor-z.ensures, c.in_ok-rows.ensures) (
      drawn_is_family c.next_word.result c.args.depth c.next_word.new.self c.requires,
      rw (sym c.factor-z.ensures) c.powers_of.ensures,
    )

pub returns : goal.returns
returns c =
    let g = c.seed_from_u64-generator.result in
    let word : c.next_word.result ≡ (pcg64 g).0 = ap (λ (p : ℕ × Lcg). p.0) c.next_word.ensures in
    let left : c.next_word.new.self ≡ (pcg64 g).1 = ap (λ (p : ℕ × Lcg). p.1) c.next_word.ensures in
    ap₂ (λ (z : ℕ) (rows : List (ℕ × ℕ)). record { z = z; rows = rows }) (c.factor-z.ensures
    ∙ ap factor_of word) (c.in_ok-rows.ensures ∙ ap (next_rows c.args.depth) left)
    ∙ is_drawn c.args.seed c.args.depth g c.seed_from_u64-generator.ensures
