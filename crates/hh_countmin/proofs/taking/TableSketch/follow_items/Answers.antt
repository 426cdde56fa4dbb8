use Rattle.std.proofs.Common.{◌∙◌, [], ap}
use Rattle.hh_countmin.specs.Table.{TableView, grid_with}
use Rattle.hh_countmin.proofs.Tables.{same_table}
use Rattle.hh_countmin.proofs.taking.TableSketch.follow_items.Goals as goal

pub returns-clause-more : goal.returns-clause-more
returns-clause-more c s t xs e p =
    ap (λ (g : TableView). grid_with g e) p ∙ (c.tables_follow_items.ensures s.family s.width xs [] e).1

pub returns-clause-order : goal.returns-clause-order
returns-clause-order c s t xs ys same p = p ∙ same_table s.family s.width xs ys same
