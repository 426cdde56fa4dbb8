-- A new entry that was put in last and popped again leaves what there was. No step names the pop, so that its lack
-- shows in the clause.
use Rattle.std.proofs.Common.{◌∙◌, rules}
use Rattle.indexmap.proofs.CallerLemmas.{insert_entry-new}
use Rattle.hh_stream.specs.Weights.{same_key}
use Rattle.hh_counters.proofs.Linked.{popped}
use Rattle.hh_counters.proofs.bucket_saving.enter.Goals as goal

pub returns-in-Err-clause-unchanged : goal.returns-in-Err-clause-unchanged
returns-in-Err-clause-unchanged c =
    let put_in = c.in_ok-insert.ensures.entries ∙ insert_entry-new same_key c.args.index.now c.args.key c.args.counter
    c.requires.new in
    search (rules, popped, put_in)
