use Rattle.std.proofs.Common.{◌≡◌, ap, subst, true}
use Rattle.std.specs.Prelude.{IfErr}
use Rattle.hh_commands.specs.Condense.{CondensePartRefused}
use Rattle.hh_commands.specs.declared.compared.Comparison.{Comparison}
use Rattle.hh_library.proofs.BoundedFacts.{condenses_bounded}
use Rattle.hh_library.proofs.commands.laid_out.condense_bounded.Goals as goal

pub returns-clause-rows : goal.returns-clause-rows
returns-clause-rows g c =
    condenses_bounded (λ v. v.items) c.args.file.now (g.R.ReadRecords.known c.args.records) c.new-compared.result.refuses
    (ap (λ (n : Comparison). n.refuses) c.new-compared.ensures) c.args.decimals
    c.condense_bytes_from.new.compared.outside c.condense_bytes_from.result (rw c.plain-output.ensures at c.condense_bytes_from.ensures.rows)
    c.condense_bytes_from.ensures.bounds

pub returns-clause-refused : goal.returns-clause-refused
returns-clause-refused g c =
    let asked : c.new-compared.result.refuses ≡ true = ap (λ (n : Comparison). n.refuses) c.new-compared.ensures in
    subst (λ refuses. IfErr c.condense_bytes_from.result
    (CondensePartRefused refuses c.args.file.now (g.R.ReadRecords.known c.args.records))) asked
    c.condense_bytes_from.ensures.refused
