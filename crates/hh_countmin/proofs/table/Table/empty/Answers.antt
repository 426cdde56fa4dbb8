use Rattle.std.proofs.Common.{replicate, ap, ◌*◌, ◌∙◌}
use Rattle.hh_countmin.proofs.Tables.{empty_fits, empty_table-is}
use Rattle.hh_countmin.proofs.table.Table.empty.Goals as goal

pub invariant_of-result : goal.invariant_of-result
invariant_of-result c =
    let width = c.args.width in
    let zeros =
    c.in_ok-cells.ensures.items_if_clones_equal (λ y e. e) ∙ ap (λ n. replicate (n * width) 0) c.depth.ensures.depth in
    rw zeros (empty_fits c.args.family width c.requires)

pub returns-clause-none : goal.returns-clause-none
returns-clause-none c =
    let family = c.args.family in
    let width = c.args.width in
    let zeros =
    c.in_ok-cells.ensures.items_if_clones_equal (λ y e. e) ∙ ap (λ n. replicate (n * width) 0) c.depth.ensures.depth in
    (λ i. record { family = family; width = width; total = 0; cells = zeros i }) ∙ empty_table-is family width
