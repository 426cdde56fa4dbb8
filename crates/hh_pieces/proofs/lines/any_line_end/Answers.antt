use Rattle.std.proofs.Common.{◌+◌, arith, drop, length-drop, sym, ap}
use Rattle.hh_pieces.specs.Lines.{is_line_end}
use Rattle.hh_pieces.proofs.QuoteFacts.{rest-all}
use Rattle.hh_records.proofs.FormatFacts.{first-place, none-place}
use Rattle.hh_pieces.proofs.lines.any_line_end.Goals as goal

pub returns-in-Some-clause-end : goal.returns-in-Some-clause-end
returns-in-Some-clause-end c =
    let found = rw (rest-all c.args.text.now c.args.from) at c.in-Some.ensures in
    let at = first-place is_line_end (drop c.args.from c.args.text.now) c.in-Some.run' found.0.high found.0.before found.1 in
    ap (λ n. c.args.from + n) (sym at)

pub returns-in-None-clause-end : goal.returns-in-None-clause-end
returns-in-None-clause-end c =
    let none = rw (rest-all c.args.text.now c.args.from) at c.in-None.ensures in
    let at = none-place is_line_end (drop c.args.from c.args.text.now) none in
    omega (arith, at, length-drop c.args.from c.args.text.now, c.requires.within)
