use Rattle.hh_pool.proofs.laws.parts_report_by_any_tree.Goals as goal
use Rattle.hh_pool.proofs.TreeLaws.{report-by-tree}

pub returns : goal.returns
returns c = report-by-tree c.trees_are_honest.ensures c.misra_gries_is_honest.ensures c.honest_is_near.ensures.order
    c.condensed_parts_suffice.ensures.report
