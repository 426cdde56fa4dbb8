use Rattle.hh_records.specs.declared.layout.Layout.{Layout}
use Rattle.hh_library.specs.LaidOut.{AddRecordsRefused, AddsRecords, text_laid}
use Rattle.heavy_ffi.specs.Items.{keys_of}
use Rattle.heavy_ffi.proofs.ChangeFacts.{one_ends}
use Rattle.heavy_ffi.proofs.LayoutFacts.{laid, laid_refused}
use Rattle.heavy_ffi.proofs.change.Change.make.Goals as goal

pub returns-in-Item-clause-made : goal.returns-in-Item-clause-made
returns-in-Item-clause-made c = rw c.in-Item.is
    ((one_ends c.args.value.now (c.in-Item.key.now, c.in-Item.weight) c.add.result c.add.new.self).0 c.add.ensures.added
    c.add.ensures.passes)

pub returns-in-Item-clause-refused : goal.returns-in-Item-clause-refused
returns-in-Item-clause-refused c = rw c.in-Item.is
    ((one_ends c.args.value.now (c.in-Item.key.now, c.in-Item.weight) c.add.result c.add.new.self).1 c.add.ensures.refused)

pub returns-in_ok-layout-in-Records-clause-made : goal.returns-in_ok-layout-in-Records-clause-made
returns-in_ok-layout-in-Records-clause-made c =
    let t = c.in-Records.laid in
    rw c.in-Records.is
    (laid t.layout.now (keys_of t.columns.now t.ends.now) c.in_ok-layout-in-Records.layout c.in_ok-layout-in-Records.ensures.layout
    (λ (l : Layout) (_ : Unit {0}). AddsRecords c.args.value.now (text_laid l t.text.now) c.add_records.new.value)
    c.add_records.result c.add_records.ensures.added)

pub returns-in_ok-layout-in-Records-clause-refused : goal.returns-in_ok-layout-in-Records-clause-refused
returns-in_ok-layout-in-Records-clause-refused c =
    let t = c.in-Records.laid in
    rw c.in-Records.is
    (laid_refused t.layout.now (keys_of t.columns.now t.ends.now) c.in_ok-layout-in-Records.layout
    c.in_ok-layout-in-Records.ensures.layout (λ l. AddRecordsRefused c.args.value.now (text_laid l t.text.now))
    c.add_records.result c.add_records.ensures.refused)
