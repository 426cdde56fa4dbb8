use Rattle.hh_files.proofs.FilePieceFacts.{hands-over, read_piece}
use Rattle.hh_files.proofs.file_pieces.FilePiecesPieces.feed.Goals as goal

pub returns-clause-taken : goal.returns-clause-taken
returns-clause-taken g c =
    let files = c.args.self.now.files in
    hands-over _ _ _ _ _ _ c.feed.result c.feed.ensures.items
    (λ xs is. read_piece files.count c.args.piece files.pieces xs c.requires is)
