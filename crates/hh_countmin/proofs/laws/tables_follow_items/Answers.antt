use Rattle.hh_countmin.proofs.Tables.{empty_table-is, added-table_of, merged-table_of}
use Rattle.hh_countmin.proofs.laws.tables_follow_items.Goals as goal

pub returns : goal.returns
returns c = λ family width xs ys
    e. (empty_table-is family width, added-table_of family width xs e, merged-table_of family width xs ys)
