use Rattle.std.proofs.Common.{◌∙◌}
use Rattle.hh_pool.proofs.analysis.table_of_cells.Goals as goal

pub from_cells-requires : goal.from_cells-requires
from_cells-requires c = rw (c.in_ok-family.ensures ∙ c.family.ensures.family, c.width.ensures.width) c.requires
