use Rattle.hh_commands.proofs.commands.confirm.rows_above.Goals as goal

pub returns : goal.returns
returns c = λ xs is.
    let s = c.args.summary.now in
    let suffice = (c.candidates_suffice.ensures s.counters xs s.k c.args.p c.args.q).0 c.len-rising.ensures.counters in
    rw (c.in_ok-rows.ensures.rows, is) suffice
