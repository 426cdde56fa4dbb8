use Rattle.std.proofs.Common.{◌≡◌, ◌++◌, ℕ, List, [], Some, get_or, map, take}
use Rattle.hh_pieces.specs.CutFiles.{file_piece, span_bytes}
use Rattle.hh_pieces.proofs.cut_files.add_later.Given as goal

abbrev pub invariant-loop-span : goal.invariant-loop-span
invariant-loop-span l =
    (texts : List (List ℕ)) → map (file_piece texts) l.pieces.items
    ≡ map (file_piece texts) l.fn.pieces.items
    ++ map (λ span. (Some l.fn.columns, span_bytes (get_or texts l.fn.number []) span)) (take l.span-index l.later)
