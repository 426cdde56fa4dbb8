use Rattle.std.proofs.lemmas.Result.{MatchResult-weaker}
use Rattle.hh_library.proofs.CountFacts.{count_refused}
use Rattle.hh_library.proofs.commands.confirm.confirm_records.Goals as goal

pub returns-clause-refused : goal.returns-clause-refused
returns-clause-refused g c =
    let counted = rw c.in_ok-candidates.ensures.keys at c.in_ok-counts.ensures.counts in
    MatchResult-weaker c.counted_text.result c.counted_text.ensures.refused (λ _ h. h)
    (count_refused c.args.summary.now _ c.in_ok-counts.counts counted)
