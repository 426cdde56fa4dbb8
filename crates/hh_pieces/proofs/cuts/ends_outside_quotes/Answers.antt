use Rattle.std.proofs.Common.{◌∙◌, sym}
use Rattle.std.proofs.lemmas.Bool.{ne_eqb}
use Rattle.hh_pieces.specs.Pieces.{config_by}
use Rattle.hh_pieces.proofs.PlaceFacts.{ends-open, not-outside-feed, plain-outside}
use Rattle.hh_pieces.proofs.cuts.ends_outside_quotes.Goals as goal

pub returns-then-between-eq10 : goal.returns-then-between-eq10
returns-then-between-eq10 c =
    not-outside-feed (config_by c.args.format c.args.delimiter) c.args.text.now (sym c.byte_between-between.ensures ∙ c.if-between-eq10.true)

pub returns-then-not-has_quotes : goal.returns-then-not-has_quotes
returns-then-not-has_quotes c =
    rw (← c.byte_between-between.ensures, sym c.has_quotes.ensures ∙ c.if-not-has_quotes.true)
    (sym (plain-outside c.byte_between-between.result (ne_eqb c.byte_between-between.result 10 c.if-between-eq10.false) c.args.text.now))

pub returns : goal.returns
returns c =
    rw (← c.byte_between-between.ensures, sym c.has_quotes.ensures ∙ c.if-not-has_quotes.false)
    (c.is_open.ensures
    ∙ ends-open c.byte_between-between.result (ne_eqb c.byte_between-between.result 10 c.if-between-eq10.false) c.args.text.now
    c.mark_len-mark.result c.mark_len-mark.ensures c.scan-place.result.0 c.scan-place.ensures.place)
