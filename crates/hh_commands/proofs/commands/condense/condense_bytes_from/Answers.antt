use Rattle.std.proofs.lemmas.Result.{MatchResult-weaker}
use Rattle.hh_commands.specs.declared.compared.Bounds.TheVariants as bounds
use Rattle.hh_commands.proofs.BoundsFacts.{part_compared, part_refused, part_told}
use Rattle.hh_commands.proofs.commands.condense.condense_bytes_from.Goals as goal

pub returns-clause-bounds : goal.returns-clause-bounds
returns-clause-bounds g c =
    let counted = rw c.in_ok-candidates.ensures.keys at c.in_ok-counts.ensures.counts in
    part_compared c.args.file.now (g.R.ReadRecords.known c.args.records) c.in_ok-summary.summary
    c.in_ok-summary.ensures.summary c.in_ok-counts.counts counted
    c.args.compared.now.refuses
    c.condensed_part.new.compared bounds.High c.condensed_part.result c.condensed_part.ensures.bounds

pub returns-clause-refused : goal.returns-clause-refused
returns-clause-refused g c =
    let counted = rw c.in_ok-candidates.ensures.keys at c.in_ok-counts.ensures.counts in
    MatchResult-weaker c.condensed_part.result c.condensed_part.ensures.refused (λ _ h. h)
    (part_refused c.args.file.now (g.R.ReadRecords.known c.args.records) c.in_ok-summary.summary
    c.in_ok-summary.ensures.summary
    c.in_ok-counts.counts counted c.args.compared.now.refuses
    c.condensed_part.new.compared)

pub returns-clause-explained : goal.returns-clause-explained
returns-clause-explained g c =
    let counted = rw c.in_ok-candidates.ensures.keys at c.in_ok-counts.ensures.counts in
    MatchResult-weaker c.condensed_part.result c.condensed_part.ensures.refused (λ _ h. h)
    (part_told c.args.file.now (g.R.ReadRecords.known c.args.records) c.in_ok-summary.summary
    c.in_ok-summary.ensures.summary
    c.in_ok-counts.counts counted c.args.compared.now.refuses
    c.condensed_part.new.compared)
