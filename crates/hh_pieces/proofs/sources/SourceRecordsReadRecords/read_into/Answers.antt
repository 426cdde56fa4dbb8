use Rattle.std.proofs.Common.{◌<◌, ◌∷◌, [], refl}
use Rattle.std.proofs.lemmas.List.Elements.{All-from_recursion}
use Rattle.hh_stream.specs.Weights.{Entry}
use Rattle.hh_records.specs.Layouts.{every, names_columns}
use Rattle.hh_pieces.proofs.SourceFacts.{none-read, reader_left, readers-still, taken-still, told-still}
use Rattle.hh_pieces.proofs.sources.SourceRecordsReadRecords.read_into.Goals as goal

pub returns-in_default-clause-items : goal.returns-in_default-clause-items
returns-in_default-clause-items g c = record {
  xs = [];
  reads = none-read g.S.ReadAt.bytes c.args.self.layout.now c.args.self.sources.now c.in_default.ensures.cases;
  positive = All-from_recursion (λ (e : Entry). 0 < e.1) [] tt;
  taken = refl;
}

pub returns-clause-items : goal.returns-clause-items
returns-clause-items g c =
    let f = g.S.ReadAt.bytes in
    let sources = c.args.self.sources.now in
    let layout = c.args.self.layout.now in
    let first = c.read_all.result in
    let others = c.in-Ok.others.items in
    let still = readers-still f (reader_left f) sources c.in-Some.first.now c.in-Some.others.now first others
    c.in-Some.ensures.cases.0 c.read_all.ensures c.in-Ok.ensures in
    taken-still layout (every f sources) (every (reader_left f) (first ∷ others)) still g.T.TakeItems.with_item
    (names_columns layout) c.args.taker c.read_texts.result c.read_texts.ensures.items

pub returns-clause-refused : goal.returns-clause-refused
returns-clause-refused g c =
    let f = g.S.ReadAt.bytes in
    let sources = c.args.self.sources.now in
    let layout = c.args.self.layout.now in
    let first = c.read_all.result in
    let others = c.in-Ok.others.items in
    let still = readers-still f (reader_left f) sources c.in-Some.first.now c.in-Some.others.now first others
    c.in-Some.ensures.cases.0 c.read_all.ensures c.in-Ok.ensures in
    told-still layout (every f sources) (every (reader_left f) (first ∷ others)) still (names_columns layout)
    c.read_texts.result c.read_texts.ensures.refused
