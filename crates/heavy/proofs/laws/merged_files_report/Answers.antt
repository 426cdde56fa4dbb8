use Rattle.heavy.proofs.MergeFacts.{held_trees_report, merges_hold_trees, parts_hold_pieces}
use Rattle.heavy.proofs.laws.merged_files_report.Goals as goal

pub returns-clause-parts : goal.returns-clause-parts
returns-clause-parts c = parts_hold_pieces c.spellings_are_read.ensures.read

pub returns-clause-merges : goal.returns-clause-merges
returns-clause-merges c = merges_hold_trees c.spellings_are_read.ensures.read

pub returns-clause-report : goal.returns-clause-report
returns-clause-report c =
    held_trees_report c.trees_merge_summaries.ensures c.condensed_parts_suffice.ensures.parts
    c.parts_report_by_any_tree.ensures
