use Rattle.std.proofs.lemmas.Result.{err_from_is_err_and}
use Rattle.hh_records.specs.Layouts.{config_of, names_columns}
use Rattle.hh_pieces.proofs.TextFacts.{header-chooses, header-finds, header-missing, header-refused, missing-finds, plain-chooses, plain-finds, plain-refused, stops-opening}
use Rattle.hh_pieces.proofs.TurnFacts.{outside-same}
use Rattle.hh_pieces.proofs.texts.choose_columns.Goals as goal

-- no header
pub returns-then-not-layout-clause-columns : goal.returns-then-not-layout-clause-columns
returns-then-not-layout-clause-columns g c =
    plain-chooses c.args.layout.now c.if-not-layout.true _ c.in_ok-columns.columns
    (rw c.new.ensures.fields at c.in_ok-columns.ensures.columns)

pub returns-then-not-layout-clause-outside : goal.returns-then-not-layout-clause-outside
returns-then-not-layout-clause-outside g c = λ outside. outside-same (config_of c.args.layout.now) _

pub returns-in_err-columns-clause-refused : goal.returns-in_err-columns-clause-refused
returns-in_err-columns-clause-refused g c =
    let p = err_from_is_err_and c.from_residual.result c.from_residual.ensures.1 in
    rw (p.1, p.2) (plain-refused c.args.layout.now c.if-not-layout.true _ c.in_err-columns.field-0.0
    (rw c.new.ensures.fields at c.in_err-columns.ensures.refused))

-- a header, or none
pub returns-in_err-found-clause-refused : goal.returns-in_err-found-clause-refused
returns-in_err-found-clause-refused g c =
    let p = err_from_is_err_and c.from_residual-in_err-found.result c.from_residual-in_err-found.ensures.1 in
    rw (p.1, p.2) (stops-opening (names_columns c.args.layout.now) _ c.in_err-found.field-0.0 c.in_err-found.ensures.refused)

pub returns-then-not-found-clause-columns : goal.returns-then-not-found-clause-columns
returns-then-not-found-clause-columns g c =
    header-missing c.args.layout.now c.if-not-layout.false _ _ _
    (rw (c.syntax_of.ensures, c.if-not-found.true) at c.in_ok-found.ensures.row)

pub returns-in_err-columns-2-clause-refused : goal.returns-in_err-columns-2-clause-refused
returns-in_err-columns-2-clause-refused g c =
    let p = err_from_is_err_and c.from_residual-in_err-columns-2.result c.from_residual-in_err-columns-2.ensures.1 in
    rw (p.1, p.2) (header-refused c.args.layout.now c.if-not-layout.false _ _ _ c.in_err-columns-2.field-0.0
    (rw (c.syntax_of.ensures, c.if-not-found.false) at c.in_ok-found.ensures.row) c.in_err-columns-2.ensures.refused)

pub returns-clause-columns : goal.returns-clause-columns
returns-clause-columns g c =
    header-chooses c.args.layout.now c.if-not-layout.false _ _ _ c.in_ok-columns-2.columns
    (rw (c.syntax_of.ensures, c.if-not-found.false) at c.in_ok-found.ensures.row) c.in_ok-columns-2.ensures.columns

-- the columns that they are
pub returns-then-not-layout-clause-found : goal.returns-then-not-layout-clause-found
returns-then-not-layout-clause-found g c =
    plain-finds c.args.layout.now c.if-not-layout.true _ c.in_ok-columns.columns
    (rw c.new.ensures.fields at c.in_ok-columns.ensures.columns)

pub returns-then-not-found-clause-found : goal.returns-then-not-found-clause-found
returns-then-not-found-clause-found g c =
    missing-finds c.args.layout.now c.if-not-layout.false _ _ _
    (rw (c.syntax_of.ensures, c.if-not-found.true) at c.in_ok-found.ensures.row)

pub returns-clause-found : goal.returns-clause-found
returns-clause-found g c =
    header-finds c.args.layout.now c.if-not-layout.false _ _ _ c.in_ok-columns-2.columns
    (rw (c.syntax_of.ensures, c.if-not-found.false) at c.in_ok-found.ensures.row) c.in_ok-columns-2.ensures.columns
