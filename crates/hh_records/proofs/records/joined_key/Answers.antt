use Rattle.std.proofs.Common.{◌≡◌, ◌==◌, ◌∙◌, ◌++◌, ◌∷◌, ◌+◌, [], Some, false, length, rules, refl, sym, ap, arith, length-append}
use Rattle.std.specs.Prelude.{get_or, option_map, take, drop}
use Rattle.std.proofs.lemmas.List.{take-append-drop, take_more, drop_more}
use Rattle.std.proofs.lemmas.Bool.{ne_eqb}
use Rattle.csv.specs.Writing.{default_writer, row_body}
use Rattle.hh_records.proofs.FormatFacts.{so-far-none, so-far-push}
use Rattle.hh_records.proofs.LayoutFacts.{every-push, every-none, body-written}
use Rattle.hh_records.specs.Formats.{part_said, with_part}
use Rattle.hh_records.specs.Layouts.{every, fields_at}
use Rattle.hh_records.proofs.records.joined_key.Goals as goal

pub loop-i-init : goal.loop-i-init
unfolding every
loop-i-init c =
    let w = c.from_writer-writer.ensures in (
      w.cfg ∙ c.new.ensures,
      w.fields,
      ([], refl, refl, rw (w.wtr, w.empty, c.new-2.ensures.items, so-far-none _ (part_said c.args.part.now)) refl),
    )

pub returns-in_default : goal.returns-in_default
returns-in_default c =
    let i = c.loop-i.i in
    let ps = c.args.places.now in
    let split = drop_more ps i 0 (omega arith) in
    let all : ps ≡ take i ps ++ get_or ps i 0 ∷ drop (i + 1) ps =
    sym (take-append-drop i ps) ∙ ap (λ rest. take i ps ++ rest) split in
    sym (ap (λ o. option_map (λ fs. row_body default_writer (with_part (part_said c.args.part.now) fs)) o)
    (ap (fields_at _) all ∙ every-none _ (take i ps) (get_or ps i 0) (drop (i + 1) ps) (search rules)))

pub loop-i-preserved : goal.loop-i-preserved
loop-i-preserved c =
    let inv = c.loop-i.invariant in
    let (fs, at, size, text) = inv.2 in
    let wrote = c.in-Ok.ensures in
    let i = c.loop-i.i in
    let ps = c.args.places.now in
    let part = part_said c.args.part.now in
    let more : (i == length ps) ≡ false = ne_eqb i (length ps) (λ e. omega (arith, e, c.loop-i-test.true)) in
    let last = so-far-push (i + 1 == length ps) part fs c.in-Some.field.now c.part_of_last-field.result.now
    c.part_of_last-field.ensures in (
      wrote.same ∙ inv.0,
      wrote.count ∙ rw inv.1 (omega (arith, c.loop-i-test.true)),
      (
        fs ++ c.in-Some.field.now ∷ [],
        rw (take_more ps i 0 (omega arith)) (every-push _ (take i ps) (get_or ps i 0) c.in-Some.field.now fs at (search rules)),
        omega (arith, size, length-append fs (c.in-Some.field.now ∷ [])),
        body-written _ _ fs c.part_of_last-field.result.now (rw more at text)
            (rw (inv.0, inv.1, ← size) at (wrote.text (rw inv.0 (λ e. cc e))))
            ∙ ap (λ ws. Some (row_body default_writer ws)) last,
      ),
    )
