use Rattle.std.proofs.lemmas.Result.{IfOk-weaker}
use Rattle.hh_countmin.specs.Family.{drawn_family}
use Rattle.hh_commands.proofs.TableFacts.{spells_table}
use Rattle.hh_commands.proofs.commands.table.table_bytes_from.Goals as goal

pub returns-clause-saved : goal.returns-clause-saved
returns-clause-saved g c =
    IfOk-weaker c.written.result _ _ (λ bytes. spells_table (drawn_family c.args.seed c.args.depth) c.args.width
    c.in_ok-start.start c.in_ok-table.table (g.R.ReadRecords.known c.args.records) bytes.items c.in_ok-start.ensures.none
    c.in_ok-table.ensures.made) c.written.ensures.spelled
