use Rattle.std.proofs.Common.{ℕ, sym, ap, ◌∙◌, subst}
use Rattle.hh_tally.specs.Tallies.{TallyView}
use Rattle.hh_pieces.specs.Sources.{sources_known}
use Rattle.hh_top.specs.Rooms.{counted_in}
use Rattle.hh_files.specs.TopFiles.{FindsTop}
use Rattle.hh_files.proofs.TopFacts.{records_refuse, shared_refused}
use Rattle.hh_files.proofs.topping.top_of_sources.Goals as goal

pub returns-in-Err-clause-refused : goal.returns-in-Err-clause-refused
returns-in-Err-clause-refused g c =
    records_refuse c.args.options.now.n (counted_in c.args.options.now.memory)
    (sources_known g.S.ReadAt.bytes c.args.records) c.in-Err.fault c.in-Err.ensures.refused

pub returns-in-Ok-top_of_list-clause-keys : goal.returns-in-Ok-top_of_list-clause-keys
returns-in-Ok-top_of_list-clause-keys g c =
    let known = sources_known g.S.ReadAt.bytes c.args.records in
    let keys = c.in-Ok-top_of_list.keys.items in
    let total = c.total.ensures.total ∙ ap (λ (t : TallyView). t.total) c.tally.ensures.tally in
    subst (λ (n : ℕ). FindsTop n known c.total.result keys) c.in-Ok.ensures.n
    (subst (λ (t : ℕ). FindsTop c.in-Ok.list.n known t keys) (sym total) c.in-Ok-top_of_list.ensures.keys)

pub returns-clause-refused : goal.returns-clause-refused
returns-clause-refused g c =
    shared_refused c.args.options.now c.in-Ok.list (sources_known g.S.ReadAt.bytes c.args.records)
    c.in-Err-top_of_list.fault c.in-Ok.ensures.n c.in-Ok.ensures.room c.in-Err-top_of_list.ensures.refused
