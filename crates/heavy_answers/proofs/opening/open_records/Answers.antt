use Rattle.std.proofs.Common.{◌∷◌}
use Rattle.heavy_answers.proofs.InputLemmas.{records_are_of}
use Rattle.heavy_answers.proofs.opening.open_records.Goals as goal

pub returns-clause-records : goal.returns-clause-records
returns-clause-records g c =
    let opened = c.in_ok-opened.opened in
    let made = c.in_ok-into_records.field-0 in
    records_are_of (g.H.Host.opens c.args.host.now) c.args.asked.now.records opened.layout made.layout g.H.Host.text g.H.Reader.Read.remaining
    opened.inputs.items (made.first ∷ made.others.items) c.in_ok-into_records.ensures.layout c.in_ok-opened.ensures.layout
    c.in_ok-opened.ensures.opened c.in_ok-into_records.ensures.texts
