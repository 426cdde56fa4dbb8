use Rattle.hh_pieces.proofs.TextFacts.{plain-known}
use Rattle.hh_pieces.proofs.texts.Records.with_hasher.Goals as goal

pub returns-clause-known : goal.returns-clause-known
returns-clause-known g c =
    plain-known g.R.Read.remaining (record {
      layout = c.with_hasher.result;
      first = c.args.reader;
      others = c.new.result;
    }) c.plain_layouts_read_streams.ensures c.with_hasher.ensures.plain c.new.ensures.items
