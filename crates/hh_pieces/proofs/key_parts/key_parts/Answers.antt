use Rattle.hh_records.specs.Formats.{part_said}
use Rattle.hh_pieces.proofs.LineFacts.{whole-key}
use Rattle.hh_pieces.proofs.key_parts.key_parts.Goals as goal

pub returns-then-is_whole : goal.returns-then-is_whole
returns-then-is_whole c = whole-key (part_said c.args.part.now) _ (rw c.if-is_whole.true at c.requires.whole)
