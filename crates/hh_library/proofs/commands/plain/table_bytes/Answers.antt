use Rattle.std.proofs.Common.{IfOk, subst}
use Rattle.hh_countmin.specs.Family.{drawn_family}
use Rattle.hh_countmin.specs.Table.{table_of}
use Rattle.hh_saved.specs.declared.saved.Saved.TheVariants.{Cells}
use Rattle.hh_commands.specs.Records.{SavesStream}
use Rattle.hh_library.proofs.commands.plain.table_bytes.Goals as goal

pub returns-clause-saved : goal.returns-clause-saved
returns-clause-saved g c =
    let family = drawn_family c.args.seed c.args.depth in
    subst (λ known. IfOk c.table_bytes_from.result
    (λ bytes. SavesStream (λ xs. Cells (table_of family c.args.width xs)) known bytes.items)) c.of_reader.ensures.known
    c.table_bytes_from.ensures.saved

pub returns-clause-refused : goal.returns-clause-refused
returns-clause-refused g c = rw c.of_reader.ensures.known at c.table_bytes_from.ensures.refused
