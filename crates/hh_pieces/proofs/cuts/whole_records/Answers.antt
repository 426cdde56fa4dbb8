use Rattle.std.proofs.Common.{◌∙◌, sym}
use Rattle.std.proofs.lemmas.Bool.{ne_eqb}
use Rattle.hh_pieces.specs.Pieces.{config_by}
use Rattle.hh_pieces.proofs.PlaceFacts.{cut-none, cut-some, no-cut, plain-cuts}
use Rattle.hh_pieces.proofs.cuts.whole_records.Goals as goal

pub returns-then-between-eq10 : goal.returns-then-between-eq10
returns-then-between-eq10 c =
    no-cut (config_by c.args.format c.args.delimiter) c.args.text.now (sym c.byte_between-between.ensures ∙ c.if-between-eq10.true)

pub returns-then-not-has_quotes : goal.returns-then-not-has_quotes
returns-then-not-has_quotes c =
    rw (← c.byte_between-between.ensures, sym c.has_quotes.ensures ∙ c.if-not-has_quotes.true)
    (plain-cuts c.byte_between-between.result (ne_eqb c.byte_between-between.result 10 c.if-between-eq10.false) c.args.text.now
    c.memrchr.result c.memrchr.ensures)

pub returns-in-Some : goal.returns-in-Some
returns-in-Some c =
    let last = rw c.in-Some.is at c.scan-last.ensures.last in
    rw (← c.byte_between-between.ensures, sym c.has_quotes.ensures ∙ c.if-not-has_quotes.false)
    (cut-some c.byte_between-between.result (ne_eqb c.byte_between-between.result 10 c.if-between-eq10.false) c.args.text.now
    c.mark_len-mark.result c.mark_len-mark.ensures c.in-Some.at last.0 last.1)

pub returns-in-None : goal.returns-in-None
returns-in-None c =
    rw (← c.byte_between-between.ensures, sym c.has_quotes.ensures ∙ c.if-not-has_quotes.false)
    (cut-none c.byte_between-between.result (ne_eqb c.byte_between-between.result 10 c.if-between-eq10.false) c.args.text.now
    c.mark_len-mark.result c.mark_len-mark.ensures (rw c.in-None.is at c.scan-last.ensures.last))
