use Rattle.std.proofs.Common.{◌∙◌, sym}
use Rattle.std.proofs.lemmas.List.Sorted.{sum_by-IsPermutation}
use Rattle.hh_stream.specs.Weights.{Entry}
use Rattle.hh_stream.specs.Cuttings.{whole_of}
use Rattle.heavy.proofs.laws.machines_report.Goals as goal

pub returns-clause-parts : goal.returns-clause-parts
returns-clause-parts c = λ s parts ys perm. c.condensed_parts_suffice.ensures.parts s.counters parts ys perm

pub returns-clause-honest : goal.returns-clause-honest
returns-clause-honest c =
    λ s parts xs ys p q honest whole perm share. c.condensed_parts_suffice.ensures.report s.counters parts xs ys s.k p q
    whole perm honest share

pub returns-clause-trees : goal.returns-clause-trees
returns-clause-trees c = λ t s parts xs ys p q whole tree is perm share. (
  (c.condensed_parts_suffice.ensures.parts s.counters parts ys perm).0
      ∙ sym (sum_by-IsPermutation (λ (e : Entry). e.1) (whole_of parts) xs whole),
  c.parts_report_by_any_tree.ensures t parts s.counters xs ys s.k p q tree is whole perm share,
)
