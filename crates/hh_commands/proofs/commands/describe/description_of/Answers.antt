use Rattle.hh_commands.proofs.commands.describe.description_of.Goals as goal

pub returns-in_ok-head-in-Counters : goal.returns-in_ok-head-in-Counters
returns-in_ok-head-in-Counters c =
    rw (c.in-Counters.is, ← c.slack.ensures, ← c.sum.ensures.sum, ← c.total.ensures.total, ← c.len.ensures.len, ← c.k.ensures.k)
    (rw c.in_ok-head-in-Counters.ensures at c.with_facts.ensures)

pub returns-in_ok-head-in-Cells : goal.returns-in_ok-head-in-Cells
returns-in_ok-head-in-Cells c =
    rw (c.in-Cells.is, ← c.total-in-Cells.ensures.total, ← c.width.ensures.width, ← c.family.ensures, ← c.depth.ensures.depth)
    (rw c.in_ok-head-in-Cells.ensures at c.with_facts-in-Cells.ensures)
