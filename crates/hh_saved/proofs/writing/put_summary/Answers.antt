use Rattle.std.proofs.Common.{append_assoc}
use Rattle.hh_saved.proofs.writing.put_summary.Goals as goal

pub returns-clause-spelled : goal.returns-clause-spelled
returns-clause-spelled c =
    rw (
      c.in_ok-put_entries.ensures.spelled,
      c.in_ok-put_u16-2.ensures,
      c.in_ok-put_u64.ensures,
      c.in_ok-put_u16.ensures,
      c.k.ensures.k,
      c.total.ensures.total,
      c.len.ensures.len,
    )
    (simp append_assoc)
