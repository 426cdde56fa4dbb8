use Rattle.std.proofs.Common.{◌∙◌, ◌∷◌, sym}
use Rattle.heavy_answers.proofs.InputLemmas.{records_are_of}
use Rattle.heavy_answers.proofs.opening.open_once.Goals as goal

pub returns-then-all-clause-records : goal.returns-then-all-clause-records
returns-then-all-clause-records g c =
    let opened = c.in_ok-opened.opened in
    let kept = c.in_ok-into_kept.field-0 in
    λ _. records_are_of (g.H.Host.opens c.args.host.now) c.args.asked.now.records opened.layout kept.layout g.H.Host.text g.H.File.ReadAt.bytes
    opened.inputs.items kept.files.items c.in_ok-into_kept.ensures.layout c.in_ok-opened.ensures.layout c.in_ok-opened.ensures.opened
    c.in_ok-into_kept.ensures.texts

pub returns-then-in_range-clause-records : goal.returns-then-in_range-clause-records
returns-then-in_range-clause-records g c =
    let opened = c.in_ok-opened.opened in
    let made = c.in_ok-into_records.field-0 in (
      records_are_of (g.H.Host.opens c.args.host.now) c.args.asked.now.records opened.layout made.layout g.H.Host.text g.H.Reader.Read.remaining
          opened.inputs.items (made.first ∷ made.others.items) c.in_ok-into_records.ensures.layout c.in_ok-opened.ensures.layout
          c.in_ok-opened.ensures.opened c.in_ok-into_records.ensures.texts,
      sym c.in_range.ensures ∙ c.if-in_range.true,
    )
