use Rattle.hh_records.specs.Layouts.{config_of}
use Rattle.hh_pieces.proofs.CutFacts.{last-cut}
use Rattle.hh_pieces.proofs.cuts.front_records.Goals as goal

pub returns : goal.returns
returns c = last-cut (config_of c.args.layout.now) c.args.text.now c.whole_records.result c.whole_records.ensures
