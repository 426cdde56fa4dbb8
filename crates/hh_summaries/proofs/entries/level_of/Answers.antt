use Rattle.std.proofs.Common.{◌≡◌, ℕ, List, ◌∷◌, ◌++◌, length, length-append, sym, ap, subst, arith, IsPermutation}
use Rattle.std.specs.Map.{values_of}
use Rattle.std.proofs.lemmas.List.{length-map}
use Rattle.std.proofs.lemmas.List.Sorted.{length_permutation}
use Rattle.hh_stream.specs.Weights.{Entry}
use Rattle.hh_summaries.proofs.Level.{level_few, level_from_split}
use Rattle.hh_summaries.proofs.entries.level_of.Goals as goal

pub returns-then-len-k : goal.returns-then-len-k
returns-then-len-k c = λ entries is.
    let len = length-map entries (λ (e : Entry). e.1) in
    sym (level_few entries c.args.k (omega (arith, len, ap length is, c.if-len-k.true)))

pub returns : goal.returns
returns c = λ entries is.
    let split = c.select_nth_unstable-level in
    let front = split.result.0.now in
    let back = split.result.2.now in
    let permutation = subst (λ (ns : List ℕ). IsPermutation ns (front ++ split.result.1.now ∷ back)) (sym is)
    split.ensures.permutation in
    let whole = length_permutation (values_of entries) (front ++ split.result.1.now ∷ back) permutation in
    let parts = length-append front (split.result.1.now ∷ back) in
    let behind : length back ≡ c.args.k =
    omega (arith, whole, parts, ap length is, split.ensures.front_len, c.if-len-k.false) in
    level_from_split entries c.args.k split.result.1.now front back permutation behind split.ensures.partitioned
