use Rattle.std.proofs.Common.{ℕ}
use Rattle.std.specs.Global.{Vec}
use Rattle.hh_records.specs.declared.layout.Layout.{Layout}
use Rattle.hh_top.specs.Rooms.{counted_in}
use Rattle.hh_library.specs.LaidOut.{GivesTop, TopIsRefused, text_laid}
use Rattle.heavy_ffi.specs.Items.{keys_of}
use Rattle.heavy_ffi.proofs.LayoutFacts.{laid, laid_refused}
use Rattle.heavy_ffi.proofs.report.top_of.Goals as goal

pub returns-clause-rows : goal.returns-clause-rows
returns-clause-rows c =
    let t = c.args.laid in
    laid t.layout.now (keys_of t.columns.now t.ends.now) c.in_ok-layout.layout c.in_ok-layout.ensures.layout
    (λ (l : Layout) (rows : Vec ℕ). GivesTop c.args.n l.decimals (text_laid l t.text.now) rows.items)
    c.top_bytes.result c.top_bytes.ensures.rows

pub returns-clause-refused : goal.returns-clause-refused
returns-clause-refused c =
    let t = c.args.laid in
    laid_refused t.layout.now (keys_of t.columns.now t.ends.now) c.in_ok-layout.layout c.in_ok-layout.ensures.layout
    (λ l. TopIsRefused c.args.n (counted_in c.args.memory) (text_laid l t.text.now))
    c.top_bytes.result c.top_bytes.ensures.refused
