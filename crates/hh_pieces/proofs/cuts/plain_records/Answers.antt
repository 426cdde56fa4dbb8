use Rattle.hh_pieces.specs.Pieces.{config_by}
use Rattle.hh_pieces.proofs.CutFacts.{last-front}
use Rattle.hh_pieces.proofs.cuts.plain_records.Goals as goal

pub returns : goal.returns
returns c =
    last-front (config_by c.args.format c.args.delimiter) c.args.text.now c.plain_len-plain.result c.whole_records.result
    c.whole_records.ensures
