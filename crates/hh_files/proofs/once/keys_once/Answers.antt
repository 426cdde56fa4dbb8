use Rattle.std.proofs.Common.{◌∙◌, ap}
use Rattle.std.proofs.lemmas.Result.{err_from_is_err_and}
use Rattle.hh_tally.specs.Tallies.{TallyView}
use Rattle.hh_files.proofs.OnceFacts.{tally_refuses_keys}
use Rattle.hh_files.proofs.once.keys_once.Goals as goal

pub returns-in_err-keys-clause-refused : goal.returns-in_err-keys-clause-refused
returns-in_err-keys-clause-refused g c =
    let (xs, reads, positive, (of, bounds)) = c.in_ok-tally.ensures.made in
    let p = err_from_is_err_and c.from_residual-in_err-keys.result c.from_residual-in_err-keys.ensures.1 in
    rw (p.1, p.2) (tally_refuses_keys c.args.room c.args.p c.args.q (g.R.ReadRecords.known c.args.records) c.in_ok-tally.tally _
    (xs, reads, of ∙ ap (λ (t : TallyView). t.room) c.in_ok-start.ensures, bounds) c.in_err-keys.ensures.refused)

pub returns-clause-keys : goal.returns-clause-keys
returns-clause-keys g c =
    let (xs, reads, positive, (of, bounds)) = c.in_ok-tally.ensures.made in
    (xs, reads, c.total.ensures.total ∙ bounds.counted, c.in_ok-keys.ensures.keys xs bounds)
