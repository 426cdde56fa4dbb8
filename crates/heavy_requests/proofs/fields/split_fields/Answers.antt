-- A byte more, and the end of the record.
use Rattle.std.proofs.Common.{rules, ap, ◌∙◌, sym, map, ◌∷◌, []}
use Rattle.std.proofs.lemmas.List.{map-append}
use Rattle.heavy_requests.proofs.FieldFacts.{field_ended, field_goes_on, fields_done, same_fields}
use Rattle.heavy_requests.proofs.fields.split_fields.Goals as goal
use Rattle.heavy_requests.proofs.fields.split_fields.Goals.{then-ends_field+in_ok-push, else-ends_field, then-not-is_mark+in_ok-push-2, else-not-is_mark}

pub loop-byte-preserved : goal.loop-byte-preserved
loop-byte-preserved c = elim c.if-ends_field.branch [
  | then-ends_field+in_ok-push w ↦ same_fields _ _ _ _ _ _ _ _ _
      (ap (λ fs. map (λ f. f.items) fs.items) w.fields-is ∙ ap (map (λ f. f.items)) w.in_ok-push.ensures.items
      ∙ map-append (λ f. f.items) c.loop-byte.fields.items (c.loop-byte.field ∷ []))
      w.place-is (ap (λ f. f.items) w.field-is ∙ w.new-field-then-ends_field.ensures.items)
      (field_ended _ _ _ _ _ _ _ _ c.loop-byte-test.true c.loop-byte.invariant (sym c.ends_field.ensures ∙ w.if-ends_field.true))
  | else-ends_field w ↦ same_fields _ _ _ _ _ _ _ _ _
      (ap (λ fs. map (λ f. f.items) fs.items) w.fields-is) (w.place-is ∙ w.after-place.ensures) (ap (λ f. f.items) w.field-is)
      (field_goes_on _ _ _ _ _ _ _ _ _ c.loop-byte-test.true c.loop-byte.invariant (sym c.ends_field.ensures ∙ w.if-ends_field.false)
      (elim w.if-not-is_mark.branch [
        | then-not-is_mark+in_ok-push-2 v ↦ search rules
        | else-not-is_mark v ↦ search rules
      ]))
]

pub returns : goal.returns
returns c = ap (map (λ f. f.items)) c.in_ok-push-3.ensures.items
    ∙ map-append (λ f. f.items) c.loop-byte.fields.items (c.loop-byte.field ∷ [])
    ∙ fields_done _ _ _ _ _ _ _ c.loop-byte-test.false c.loop-byte.invariant
