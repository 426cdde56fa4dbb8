use Rattle.std.proofs.Common.{◌<◌, ◌∙◌, ap, arith, drop, eqb, sym, take, w8}
use Rattle.std.proofs.lemmas.Simd.{bitmask_splat, get_or-chunk, length-chunk}
use Rattle.csv.specs.Machine.{line_feed}
use Rattle.hh_pieces.specs.Lines.{is_field_end}
use Rattle.hh_pieces.proofs.FieldFacts.{ends-all, ends-within}
use Rattle.hh_pieces.proofs.fields.ends_among.Goals as goal

pub returns-clause-within : goal.returns-clause-within
returns-clause-within c k set =
    let xs = take 16 (drop c.args.from c.args.text.now) in
    let long = length-chunk c.args.from 16 c.args.text.now c.requires in
    let at = ends-within c.args.delimiter xs k _ _ (bitmask_splat w8 eqb xs 16 c.args.delimiter long (omega arith))
    (bitmask_splat w8 eqb xs 16 line_feed long (omega arith)) set in
    let l : k < 16 = omega (arith, at.0, long) in
    (l, ap (is_field_end c.args.delimiter) (sym (get_or-chunk c.args.from 16 c.args.text.now k 0 l)) ∙ at.1)

pub returns-clause-all : goal.returns-clause-all
returns-clause-all c k l e =
    let xs = take 16 (drop c.args.from c.args.text.now) in
    let long = length-chunk c.args.from 16 c.args.text.now c.requires in
    ends-all c.args.delimiter xs k _ _ (bitmask_splat w8 eqb xs 16 c.args.delimiter long (omega arith))
    (bitmask_splat w8 eqb xs 16 line_feed long (omega arith)) (omega (arith, l, long))
    (ap (is_field_end c.args.delimiter) (get_or-chunk c.args.from 16 c.args.text.now k 0 l) ∙ e)
