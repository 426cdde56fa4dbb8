use Rattle.hh_records.specs.Streams.{text_known}
use Rattle.hh_records.proofs.TakenFacts.{stream_taken}
use Rattle.hh_pieces.proofs.texts.read_stream.Goals as goal

pub returns-clause-stream : goal.returns-clause-stream
returns-clause-stream g c =
    stream_taken (text_known (g.R.Read.remaining c.args.reader)) c.new.result c.read_items.result c.new.ensures
    c.read_items.ensures.items
