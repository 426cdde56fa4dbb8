use Rattle.std.proofs.Common.{sym}
use Rattle.std.proofs.lemmas.Result.{IfOk-weaker}
use Rattle.hh_library.proofs.AddFacts.{goes_on, table_goes_on}
use Rattle.hh_library.proofs.commands.add.add_items.Goals as goal

pub returns-clause-saved : goal.returns-clause-saved
returns-clause-saved c = IfOk-weaker c.save.result _ _ (λ bytes spells.
    (_, rw (c.in_ok-file_of.ensures.value, sym c.of-value.ensures) c.in_ok-add_all.ensures.added, spells)) c.save.ensures.saved

pub returns-clause-stream : goal.returns-clause-stream
returns-clause-stream c = IfOk-weaker c.save.result _ _ (λ bytes spells.
    goes_on c.summaries_follow_items.ensures.summaries c.args.file.now _ bytes.items
    (_, rw (c.in_ok-file_of.ensures.value, sym c.of-value.ensures) c.in_ok-add_all.ensures.added, spells)) c.save.ensures.saved

pub returns-clause-table : goal.returns-clause-table
returns-clause-table c = IfOk-weaker c.save.result _ _ (λ bytes spells.
    table_goes_on c.tables_follow_items.ensures c.args.file.now _ bytes.items
    (_, rw (c.in_ok-file_of.ensures.value, sym c.of-value.ensures) c.in_ok-add_all.ensures.added, spells)) c.save.ensures.saved
