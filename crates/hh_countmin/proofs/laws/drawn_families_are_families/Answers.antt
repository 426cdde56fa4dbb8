use Rattle.std.proofs.Common.{length, ap, sym, subst, refl, ◌∙◌}
use Rattle.rand_pcg.specs.Pcg.{pcg64}
use Rattle.hh_countmin.specs.Family.{Coefficients, IsFamily, generator_of}
use Rattle.hh_countmin.proofs.Drawing.{is_drawn, drawn_is_family, length-next_rows}
use Rattle.hh_countmin.proofs.laws.drawn_families_are_families.Goals as goal

pub returns : goal.returns
returns c = λ seed depth is_depth.
    let first = pcg64 (generator_of seed) in
    let is = is_drawn seed depth (generator_of seed) refl in (
      subst IsFamily is (drawn_is_family first.0 depth first.1 is_depth),
      ap (λ (f : Coefficients). length f.rows) (sym is) ∙ length-next_rows depth first.1,
    )
