use Rattle.std.proofs.Common.{append_assoc}
use Rattle.hh_saved.proofs.writing.put_table.Goals as goal

pub returns-clause-spelled : goal.returns-clause-spelled
returns-clause-spelled c =
    rw (
      c.in_ok-put_cells.ensures,
      c.in_ok-put_u64-2.ensures,
      c.in_ok-put_rows.ensures,
      c.in_ok-put_u64.ensures,
      c.in_ok-put_u8.ensures,
      c.in_ok-put_u32.ensures,
      c.cells.ensures,
      c.total.ensures.total,
      c.z.ensures,
      c.depth.ensures.depth,
      c.width.ensures.width,
      c.family-family.ensures,
    )
    (simp append_assoc)
