use Rattle.std.proofs.lemmas.Result.{err_from_is_err_and}
use Rattle.hh_workers.proofs.NumberFacts.{numbers-refused}
use Rattle.hh_workers.proofs.parsing.read_merge_tree.Goals as goal

pub returns-in_err-check_numbers-clause-refused : goal.returns-in_err-check_numbers-clause-refused
returns-in_err-check_numbers-clause-refused c =
    let handed = c.from_residual-in_err-check_numbers in
    let is = err_from_is_err_and handed.result handed.ensures.1 in
    rw (is.1, is.2) (numbers-refused _ _ _ _ c.in_ok-tree.ensures.tree c.in_err-check_numbers.ensures.refused)
