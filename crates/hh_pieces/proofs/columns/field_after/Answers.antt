use Rattle.std.proofs.Common.{◌≡◌, ◌==◌, ◌<◌, arith, false, get_or, length}
use Rattle.std.proofs.lemmas.Bool.{eq-eqb, ne_eqb}
use Rattle.hh_pieces.proofs.ColumnFacts.{all-passed, between-more, between-none}
use Rattle.hh_pieces.proofs.columns.field_after.Goals as goal
use Rattle.hh_pieces.proofs.columns.field_after.Goals.{then-later-text-via-then-later-text, then-later-text-via-else-later-text+then-text-later}

pub loop-passed-init : goal.loop-passed-init
loop-passed-init c = record {
  few = omega arith;
  between = between-none c.args.delimiter c.args.text.now c.args.field.from;
  end = c.requires.end;
}

pub returns-then-later-text-clause-none : goal.returns-then-later-text-clause-none
returns-then-later-text-clause-none c =
    let text = c.args.text.now in
    let e = c.loop-passed.later.end in
    let differs : (e < length text → (get_or text e 0 == c.args.delimiter) ≡ false) = elim c.then-later-text.branch [
      | then-later-text-via-then-later-text w ↦ λ l. absurd (omega (arith, l, w.if-later-text.true))
      | then-later-text-via-else-later-text+then-text-later w ↦ λ _. ne_eqb _ _ w.if-text-later.true
    ] in
    let so_far = c.loop-passed.invariant in
    all-passed c.args.delimiter text c.args.field.from c.loop-passed.passed c.loop-passed.later.from e c.args.count so_far.between
    so_far.end differs c.loop-passed-test.true

pub loop-passed-preserved : goal.loop-passed-preserved
loop-passed-preserved c =
    let so_far = c.loop-passed.invariant in
    let next = c.field_at-later.ensures in
    record {
      few = omega (arith, c.loop-passed-test.true);
      between = rw next.from (between-more c.args.delimiter c.args.text.now c.args.field.from c.loop-passed.passed c.loop-passed.later.from
          c.loop-passed.later.end c.requires.apart so_far.between so_far.end (omega (arith, so_far.end.within, c.if-later-text.false))
          (eq-eqb _ _ c.if-text-later.false));
      end = next.end;
    }
