use Rattle.std.proofs.Common.{◌∙◌, ap, length, sym}
use Rattle.std.specs.Prelude.{drop, slice_range}
use Rattle.csv.specs.Reading.{records}
use Rattle.hh_records.specs.Formats.{byte_between, has_quotes}
use Rattle.hh_records.specs.Layouts.{configured}
use Rattle.hh_pieces.specs.Lines.{filled_lines}
use Rattle.hh_pieces.proofs.LineFacts.{unquoted-split}
use Rattle.hh_pieces.proofs.PlaceFacts.{strip-drop}
use Rattle.hh_pieces.proofs.QuoteFacts.{rest-all}
use Rattle.hh_pieces.proofs.pieces.plain_text.Goals as goal

pub returns-then-sees_no_quote-clause-parts : goal.returns-then-sees_no_quote-clause-parts
returns-then-sees_no_quote-clause-parts c =
    let piece = c.args.piece.now in
    let layout = c.args.layout.now in
    let q = has_quotes layout.format in
    let d = byte_between layout.format layout.delimiter in
    let text = slice_range piece c.mark_len.result (length piece) in
    let all = rest-all piece c.mark_len.result in
    let behind = strip-drop piece ∙ ap (λ n. drop n piece) (sym c.mark_len.ensures) ∙ sym all in
    let lines = c.in-Some.ensures in
    let no_quote = rw c.has_quotes-quoting.ensures at c.if-sees_no_quote.ensures in
    lines.parts piece (filled_lines text)
    (ap (records (configured q d)) behind ∙ unquoted-split q d text lines.separated no_quote)
