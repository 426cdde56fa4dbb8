use Rattle.std.proofs.Common.{ℕ}
use Rattle.std.specs.Global.{Vec}
use Rattle.hh_records.specs.declared.layout.Layout.{Layout}
use Rattle.hh_library.specs.LaidOut.{ConfirmBoundedRefused, ConfirmsBounded, text_laid}
use Rattle.heavy_ffi.specs.Items.{keys_of}
use Rattle.heavy_ffi.proofs.LayoutFacts.{laid, laid_refused}
use Rattle.heavy_ffi.proofs.passes.ConfirmRecordsFileCall.make_bytes.Goals as goal

pub returns-clause-given : goal.returns-clause-given
returns-clause-given c =
    let t = c.args.self.laid in
    laid t.layout.now (keys_of t.columns.now t.ends.now) c.in_ok-layout.layout c.in_ok-layout.ensures.layout
    (λ (l : Layout) (bytes : Vec ℕ). ConfirmsBounded c.args.self.share l.decimals c.args.file.now (text_laid l t.text.now) bytes.items)
    c.confirm_bounded.result c.confirm_bounded.ensures.rows

pub returns-clause-refused : goal.returns-clause-refused
returns-clause-refused c =
    let t = c.args.self.laid in
    laid_refused t.layout.now (keys_of t.columns.now t.ends.now) c.in_ok-layout.layout c.in_ok-layout.ensures.layout
    (λ l. ConfirmBoundedRefused c.args.self.share c.args.file.now (text_laid l t.text.now)) c.confirm_bounded.result c.confirm_bounded.ensures.refused
