use Rattle.std.proofs.Common.{◌∙◌, sym}
use Rattle.hh_pieces.proofs.QuoteFacts.{run-empty, run-outside, run-quoted}
use Rattle.hh_pieces.proofs.cuts.run_after.Goals as goal
use Rattle.hh_pieces.proofs.cuts.run_after.Goals.{else-from-to-via-then-from-to+else-is_open, else-from-to-via-else-from-to}

pub returns-then-is_open : goal.returns-then-is_open
returns-then-is_open c =
    c.plain_after.ensures
    ∙ run-outside c.args.delimiter c.args.text.now c.args.from c.args.to c.args.place c.if-from-to.true c.requires.within
    c.requires.place c.requires.plain (sym c.is_open.ensures ∙ c.if-is_open.true)

pub returns-else-from-to : goal.returns-else-from-to
returns-else-from-to c = elim c.else-from-to.branch [
  | else-from-to-via-then-from-to+else-is_open w ↦
      run-quoted c.args.delimiter c.args.text.now c.args.from c.args.to c.args.place c.requires.order c.requires.within
      c.requires.place c.requires.plain (sym w.is_open.ensures ∙ w.if-is_open.false)
  | else-from-to-via-else-from-to w ↦
      run-empty c.args.delimiter c.args.text.now c.args.from c.args.to c.args.place c.requires.order w.if-from-to.false
      c.requires.place
]
