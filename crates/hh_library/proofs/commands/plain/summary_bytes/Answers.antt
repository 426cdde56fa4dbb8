use Rattle.std.proofs.Common.{IfOk, subst}
use Rattle.hh_summaries.specs.Counters.{sketch_of}
use Rattle.hh_saved.specs.declared.saved.Saved.TheVariants.{Counters}
use Rattle.hh_commands.specs.Records.{SavesStream}
use Rattle.hh_library.proofs.commands.plain.summary_bytes.Goals as goal

pub returns-clause-saved : goal.returns-clause-saved
returns-clause-saved g c =
    subst (λ known. IfOk c.summary_bytes_from.result
    (λ bytes. SavesStream (λ xs. Counters (sketch_of c.args.k xs)) known bytes.items)) c.of_reader.ensures.known
    c.summary_bytes_from.ensures.saved

pub returns-clause-refused : goal.returns-clause-refused
returns-clause-refused g c = rw c.of_reader.ensures.known at c.summary_bytes_from.ensures.refused
