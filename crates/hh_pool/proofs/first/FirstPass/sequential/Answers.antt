use Rattle.std.proofs.Common.{◌∙◌}
use Rattle.hh_stream.specs.Cuttings.{whole_of}
use Rattle.hh_countmin.proofs.Tables.{same_table}
use Rattle.hh_workers.specs.Pieces.{items_at}
use Rattle.hh_workers.proofs.PieceSums.{sum_by-all_items}
use Rattle.hh_pool.proofs.Closed.{each_summary}
use Rattle.hh_pool.proofs.first.FirstPass.sequential.Goals as goal

pub in_order-requires : goal.in_order-requires
in_order-requires g c =
    let (numbers, each, made) = c.in_ok-summaries.ensures.made in
    each_summary c.args.self.now.options.now.k c.args.self.now.pieces.now numbers _ made.summaries each

pub returns-clause-table : goal.returns-clause-table
returns-clause-table g c =
    let lists = c.args.self.now.pieces.now in
    let options = c.args.self.now.options.now in
    let (numbers, each, made) = c.in_ok-summaries.ensures.made in
    made.table ∙ same_table options.family options.width (items_at lists numbers) (whole_of lists)
    (λ f. sum_by-all_items f lists numbers each.distinct each.all)
