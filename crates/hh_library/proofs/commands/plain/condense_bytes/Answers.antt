use Rattle.std.proofs.Common.{◌≡◌, IfOk, ap, false, subst}
use Rattle.std.specs.Prelude.{IfErr}
use Rattle.hh_commands.specs.Condense.{CondensePartRefused, CondensesRows}
use Rattle.hh_commands.specs.declared.compared.Comparison.{Comparison}
use Rattle.hh_pieces.specs.Texts.{records_known}
use Rattle.hh_records.specs.Streams.{text_known}
use Rattle.hh_library.proofs.UnaskedFacts.{condense_unasked}
use Rattle.hh_library.proofs.commands.plain.condense_bytes.Goals as goal

pub returns-clause-rows : goal.returns-clause-rows
returns-clause-rows g c =
    subst (λ known. IfOk c.condense_bytes_from.result (λ rows. CondensesRows 0 c.args.file.now known rows.items))
    c.of_reader-records.ensures.known (rw c.plain-output.ensures at c.condense_bytes_from.ensures.rows)

pub returns-clause-refused : goal.returns-clause-refused
returns-clause-refused g c =
    let file = c.args.file.now in
    let result = c.condense_bytes_from.result in
    let here = records_known g.R.Read.remaining c.of_reader-records.result in
    let asked : c.new.result.refuses ≡ false = ap (λ (n : Comparison). n.refuses) c.new.ensures in
    condense_unasked file (text_known (g.R.Read.remaining c.args.reader)) result
    (subst (λ known. IfErr result (CondensePartRefused false file known)) c.of_reader-records.ensures.known
    (subst (λ refuses. IfErr result (CondensePartRefused refuses file here)) asked c.condense_bytes_from.ensures.refused))
