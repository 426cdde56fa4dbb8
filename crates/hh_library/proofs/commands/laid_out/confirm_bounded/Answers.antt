use Rattle.std.proofs.Common.{◌≡◌, ◌∙◌, ap, subst, sym, true}
use Rattle.std.proofs.lemmas.Result.{MatchResult-weaker}
use Rattle.std.specs.Prelude.{IfErr}
use Rattle.hh_commands.proofs.BoundsFacts.{rows_refused}
use Rattle.hh_commands.specs.Confirm.{CompareAboveRefused}
use Rattle.hh_commands.specs.Files.{RefusedFrom}
use Rattle.hh_commands.specs.declared.compared.Comparison.{Comparison}
use Rattle.hh_rows.specs.Printed.{all_rows}
use Rattle.hh_library.specs.CountItems.{share_or_least}
use Rattle.hh_library.proofs.BoundedFacts.{confirms_bounded}
use Rattle.hh_library.proofs.commands.laid_out.confirm_bounded.Goals as goal

pub returns-clause-rows : goal.returns-clause-rows
returns-clause-rows g c =
    let counted = rw c.in_ok-candidates.ensures.keys at c.in_ok-counts.ensures.counts in
    confirms_bounded (λ v. v.items) c.args.file.now (g.R.ReadRecords.known c.args.records) c.new-compared.result.refuses
    (ap (λ (n : Comparison). n.refuses) c.new-compared.ensures) c.args.decimals c.confirmed_text.new.compared.outside
    c.in_ok-summary.summary c.in_ok-summary.ensures.summary c.in_ok-counts.counts counted
    c.args.share c.in-Some.share (rw c.k.ensures.k at (sym c.share_or_least.ensures.share ∙ c.in-Some.is))
    c.all-rows.result (c.all-rows.ensures ∙ ap all_rows c.plain.ensures) c.confirmed_text.result c.confirmed_text.ensures.total
    c.confirmed_text.ensures.rows c.confirmed_text.ensures.bounds

pub returns-clause-refused : goal.returns-clause-refused
returns-clause-refused g c =
    let counted = rw c.in_ok-candidates.ensures.keys at c.in_ok-counts.ensures.counts in
    let known = g.R.ReadRecords.known c.args.records in
    let asked : c.new-compared.result.refuses ≡ true = ap (λ (n : Comparison). n.refuses) c.new-compared.ensures in
    subst (λ refuses. IfErr c.confirmed_text.result (RefusedFrom c.args.file.now
    (λ s. CompareAboveRefused refuses (share_or_least c.args.share s.k) s known))) asked
    (MatchResult-weaker c.confirmed_text.result c.confirmed_text.ensures.refused (λ _ h. h)
    (rows_refused c.args.file.now known c.in_ok-summary.summary c.in_ok-summary.ensures.summary c.in_ok-counts.counts
    counted c.new-compared.result.refuses c.confirmed_text.new.compared
    (λ s. share_or_least c.args.share s.k) c.in-Some.share
    (rw c.k.ensures.k at (sym c.share_or_least.ensures.share ∙ c.in-Some.is))))
