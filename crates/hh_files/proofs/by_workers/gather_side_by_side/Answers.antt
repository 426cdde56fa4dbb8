use Rattle.hh_records.specs.Layouts.{every, names_columns}
use Rattle.hh_files.proofs.SourceFacts.{gathers_pieces}
use Rattle.hh_files.proofs.by_workers.gather_side_by_side.Goals as goal

pub returns-in-Ok : goal.returns-in-Ok
returns-in-Ok g c =
    let layout = c.args.records.layout.now in
    let start = c.args.start.now in
    let files = c.new-pieces.result.files in
    let read = rw (← c.new-pieces.ensures) at (rw c.in-Some.is at c.in_ok-files.ensures.read) in
    gathers_pieces (g.T.Sketch.is_of start) (c.follow_items.ensures.order start) layout (names_columns layout)
    (every g.S.ReadAt.bytes c.args.records.sources.now) files.count files.pieces read c.in-Ok.made c.in-Ok.ensures.made
