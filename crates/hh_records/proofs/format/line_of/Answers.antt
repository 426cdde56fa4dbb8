use Rattle.std.proofs.Common.{◌∙◌, ◌∷◌, [], ap}
use Rattle.bstr.specs.Owned.{joined}
use Rattle.csv.specs.Records.{fields_of}
use Rattle.hh_records.proofs.FormatFacts.{fields-drained}
use Rattle.hh_records.proofs.format.line_of.Goals as goal

pub returns : goal.returns
returns c =
    let (it, xs, gives, drains, text) = c.in_ok-join.ensures in
    let fields = fields-drained (fields_of c.args.row.now) it xs (ap fields_of gives.0) gives.1 drains in
    text ∙ ap (λ fs. joined (0 ∷ []) fs) fields
