use Rattle.std.proofs.Common.{List, length, ap, ◌∙◌, arith, subst, sym}
use Rattle.std.specs.List.Sorted.{IsStrictlySortedBy}
use Rattle.std.specs.Map.{keys_of}
use Rattle.std.proofs.lemmas.Map.Entries.{length-keys_of}
use Rattle.hh_stream.specs.Weights.{Entry, key_cmp}
use Rattle.hh_counters.proofs.candidates.Candidates.with_hasher.Goals as goal

pub of_entries-requires : goal.of_entries-requires
of_entries-requires c =
    subst (λ (es : List Entry). IsStrictlySortedBy key_cmp (keys_of es)) (sym c.entries.ensures) c.k-k.ensures.fits.entries.rising

pub returns-clause-keys : goal.returns-clause-keys
returns-clause-keys c = c.in_ok-candidates.ensures ∙ ap (λ (es : List Entry). keys_of es) c.entries.ensures

pub returns-clause-few : goal.returns-clause-few
returns-clause-few c =
    let keys = c.in_ok-candidates.ensures ∙ ap (λ (es : List Entry). keys_of es) c.entries.ensures in
    let fits = c.k-k.ensures.fits in
    omega (arith, ap length keys, length-keys_of c.args.summary.now.counters, fits.few, fits.bounded_k)
