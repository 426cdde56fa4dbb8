use Rattle.std.proofs.Common.{◌≡◌, ◌*◌, ◌∙◌, ℕ, length, ap, arith, refl, rules}
use Rattle.hh_stream.specs.Cuttings.{whole_of}
use Rattle.hh_countmin.specs.Family.{Coefficients}
use Rattle.hh_pool.specs.Settings.{Settings}
use Rattle.hh_pool.proofs.Closed.{closed_cells, each_summary}
use Rattle.hh_pool.proofs.analysis.summarise.Goals as goal

pub in_order-requires : goal.in_order-requires
in_order-requires g c =
    let shared = rw c.in-Some.is at c.in_ok-cells.ensures.done in
    each_summary c.args.options.now.k c.args.pieces.now shared.seat.claims _ shared.done.summaries shared.each

-- how many cells the sums have
cells-of : (settings : Settings) {cells depth width : ℕ} {family : Coefficients} → cells ≡ depth * width
    → depth ≡ length family.rows → family ≡ settings.family → width ≡ settings.width
    → cells ≡ length settings.family.rows * settings.width
cells-of settings e d f w = e ∙ (λ i. (d ∙ ap (λ (f : Coefficients). length f.rows) f) i * w i)

pub table_of_cells-requires : goal.table_of_cells-requires
table_of_cells-requires g c =
    let lists = c.args.pieces.now in
    let options = c.args.options.now in
    let shared = rw c.in-Some.is at c.in_ok-cells.ensures.done in
    let size = cells-of options shared.len c.depth.ensures.depth c.family.ensures.family c.width.ensures.width in
    let cells = closed_cells c.cells_are_cell_sums.ensures lists (whole_of lists) options shared.seat _ c.in-Some.cells.items refl
    (omega (arith, c.requires.total, c.requires.fits)) shared.done shared.each.distinct shared.each.all size
    (λ cell inside. shared.sums cell (omega (arith, inside, shared.len, size))) in
    rw (c.requires.total, cells) (c.tables_fit.ensures options.family options.width (whole_of lists) c.width.ensures.in_range
    (omega (arith, c.requires.total, c.requires.fits)))

pub returns-in_ok-table_of_cells-in-Some-clause-table : goal.returns-in_ok-table_of_cells-in-Some-clause-table
returns-in_ok-table_of_cells-in-Some-clause-table g c =
    let lists = c.args.pieces.now in
    let options = c.args.options.now in
    let shared = rw c.in-Some.is at c.in_ok-cells.ensures.done in
    let size = cells-of options shared.len c.depth.ensures.depth c.family.ensures.family c.width.ensures.width in
    let cells = closed_cells c.cells_are_cell_sums.ensures lists (whole_of lists) options shared.seat _ c.in-Some.cells.items refl
    (omega (arith, c.requires.total, c.requires.fits)) shared.done shared.each.distinct shared.each.all size
    (λ cell inside. shared.sums cell (omega (arith, inside, shared.len, size))) in
    c.in_ok-table_of_cells-in-Some.ensures ∙ (λ i. record {
      family = options.family;
      width = options.width;
      total = c.requires.total i;
      cells = cells i;
    })

pub returns-in_err-cells-clause-summaries : goal.returns-in_err-cells-clause-summaries
returns-in_err-cells-clause-summaries g c = search rules

pub returns-in_err-cells-clause-table : goal.returns-in_err-cells-clause-table
returns-in_err-cells-clause-table g c = search rules

pub returns-in_err-summaries-in-Some-clause-summaries : goal.returns-in_err-summaries-in-Some-clause-summaries
returns-in_err-summaries-in-Some-clause-summaries g c = search rules

pub returns-in_err-summaries-in-Some-clause-table : goal.returns-in_err-summaries-in-Some-clause-table
returns-in_err-summaries-in-Some-clause-table g c = search rules

pub returns-in_err-table_of_cells-in-Some-clause-summaries : goal.returns-in_err-table_of_cells-in-Some-clause-summaries
returns-in_err-table_of_cells-in-Some-clause-summaries g c = search rules

pub returns-in_err-table_of_cells-in-Some-clause-table : goal.returns-in_err-table_of_cells-in-Some-clause-table
returns-in_err-table_of_cells-in-Some-clause-table g c = search rules
