use Rattle.std.proofs.Common.{◌∙◌, rules, sym}
use Rattle.std.proofs.lemmas.Result.{MatchResult-weaker}
use Rattle.hh_rows.specs.Thresholds.{threshold_of}
use Rattle.hh_commands.specs.declared.compared.Bounds.TheVariants as bounds
use Rattle.hh_commands.proofs.BoundsFacts.{bounds_compared, confirm_told, rows_refused}
use Rattle.hh_commands.proofs.commands.confirm.confirm_rows.Goals as goal

pub returns-in_default-clause-refused : goal.returns-in_default-clause-refused
returns-in_default-clause-refused g c = search rules

pub returns-in_err-counts-clause-refused : goal.returns-in_err-counts-clause-refused
returns-in_err-counts-clause-refused g c = search rules

pub returns-clause-bounds : goal.returns-clause-bounds
returns-clause-bounds g c =
    let counted = rw c.in_ok-candidates.ensures.keys at c.in_ok-counts.ensures.counts in
    bounds_compared c.args.file.now (g.R.ReadRecords.known c.args.records) c.in_ok-summary.summary
    c.in_ok-summary.ensures.summary c.in_ok-counts.counts counted
    c.args.compared.now.refuses
    c.confirmed_text.new.compared bounds.Both c.confirmed_text.result c.confirmed_text.ensures.bounds

pub returns-clause-refused : goal.returns-clause-refused
returns-clause-refused g c =
    let counted = rw c.in_ok-candidates.ensures.keys at c.in_ok-counts.ensures.counts in
    MatchResult-weaker c.confirmed_text.result c.confirmed_text.ensures.refused (λ _ h. h)
    (rows_refused c.args.file.now (g.R.ReadRecords.known c.args.records) c.in_ok-summary.summary
    c.in_ok-summary.ensures.summary
    c.in_ok-counts.counts counted c.args.compared.now.refuses
    c.confirmed_text.new.compared (λ s. threshold_of s.k c.args.share.now) c.in-Some.share
    (rw c.k.ensures.k at (sym c.threshold_of.ensures.threshold ∙ c.in-Some.is)))

pub returns-clause-explained : goal.returns-clause-explained
returns-clause-explained g c =
    let counted = rw c.in_ok-candidates.ensures.keys at c.in_ok-counts.ensures.counts in
    MatchResult-weaker c.confirmed_text.result c.confirmed_text.ensures.refused (λ _ h. h)
    (confirm_told c.args.file.now (g.R.ReadRecords.known c.args.records) c.in_ok-summary.summary
    c.in_ok-summary.ensures.summary
    c.in_ok-counts.counts counted c.args.compared.now.refuses
    c.confirmed_text.new.compared)
