use Rattle.std.proofs.Common.{◌∷◌, arith}
use Rattle.std.proofs.lemmas.Result.{err_from_is_err_and}
use Rattle.hh_records.specs.Layouts.{names_columns}
use Rattle.hh_pieces.proofs.TextFacts.{records-read, records-refused}
use Rattle.hh_pieces.proofs.texts.read_texts.Goals as goal

pub returns-clause-items : goal.returns-clause-items
returns-clause-items g c =
    let t = c.in_ok-read_all.ensures.items in
    record {
      xs = t.xs;
      reads = records-read g.R.Read.remaining c.args.layout.now (c.args.first ∷ c.args.others.items)
          c.in_ok-texts.texts.items c.in_ok-texts.ensures.opened t.xs (rw c.requires.none at t.given);
      positive = t.positive;
      taken = t.taken;
    }

pub read_all-requires : goal.read_all-requires
read_all-requires g c = omega (arith, c.requires.none)

pub returns-in_err-read_all-clause-refused : goal.returns-in_err-read_all-clause-refused
returns-in_err-read_all-clause-refused g c =
    let p = err_from_is_err_and c.from_residual-in_err-read_all.result c.from_residual-in_err-read_all.ensures.1 in
    rw (p.1, p.2) (records-refused g.R.Read.remaining c.args.layout.now (c.args.first ∷ c.args.others.items)
    c.in_ok-texts.texts.items c.in_ok-texts.ensures.opened (names_columns c.args.layout.now) c.in_err-read_all.field-0.0
    (rw c.requires.none at c.in_err-read_all.ensures.refused))
