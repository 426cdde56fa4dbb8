use Rattle.hh_countmin.specs.Family.{drawn_family}
use Rattle.hh_pieces.specs.Sources.{sources_known}
use Rattle.hh_commands.proofs.TableFacts.{spells_table}
use Rattle.hh_files.proofs.tabulating.table_files.Goals as goal

pub returns-clause-saved : goal.returns-clause-saved
returns-clause-saved g c =
    spells_table (drawn_family c.args.seed c.args.depth) c.args.width c.in_ok-start.start c.in_ok-table.table
    (sources_known g.S.ReadAt.bytes c.args.records) _ c.in_ok-start.ensures.none c.in_ok-table.ensures.made
    c.in_ok-write.ensures
