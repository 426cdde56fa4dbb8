use Rattle.hh_records.specs.Layouts.{every}
use Rattle.hh_pieces.proofs.FileFacts.{files-padded}
use Rattle.hh_pieces.proofs.cut_files.CutFiles.new.Goals as goal

pub returns-clause-read : goal.returns-clause-read
returns-clause-read g c =
    files-padded c.args.layout.now (every g.S.ReadAt.bytes c.args.sources.now) c.args.count c.in-Some.pieces.items
    (rw c.in-Some.is at c.in_ok-pieces.ensures.read)
