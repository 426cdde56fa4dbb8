use Rattle.std.proofs.Common.{◌≡◌, ◌+◌, ◌-◌, ◌∙◌, ap, arith}
use Rattle.std.specs.Prelude.{slice_index}
use Rattle.hh_pieces.specs.Lines.{is_field_end}
use Rattle.hh_pieces.proofs.fields.field_end.Goals as goal

pub returns-then-ends-ne0 : goal.returns-then-ends-ne0
returns-then-ends-ne0 c =
    let from = c.args.from in
    let marks = c.ends_among-ends.ensures in
    let first = c.lowest.ensures in
    let here = marks.within c.lowest.result first.set in
    record {
      after = omega arith;
      within = omega (arith, here.0, c.if-text-from-ge16.true, c.requires.within);
      before = λ k a b p.
          let at : from + (k - from) ≡ k = omega (arith, a) in
          let same = ap (λ n. is_field_end c.args.delimiter (slice_index c.args.text.now n)) at in
          let set = marks.all (k - from) (omega (arith, a, b, here.0)) (same ∙ p) in
          omega (arith, set, first.below (k - from) (omega (arith, a, b)));
      here = λ _. here.1;
    }
