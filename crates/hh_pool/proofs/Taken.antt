-- What takers have taken of a list of items.
use Rattle.std.proofs.Common.{◌≡◌, ◌++◌, ◌∷◌, ◌∙◌, List, [], OnOk, Result, Ok, Err, refl, subst, sym, arith, fold}
use Rattle.std.proofs.lemmas.List.Sums.{sum_by-append}
use Rattle.hh_stream.specs.Weights.{Bytes, Entry}
use Rattle.hh_stream.proofs.TakingFacts.{follows}
use Rattle.hh_counters.specs.Counting.{Count, count_with}
use Rattle.hh_summaries.specs.Report.{counts_with}
use Rattle.hh_counters.specs.SpaceSaving.{monitor_with}
use Rattle.hh_countmin.specs.Table.{grid_with}
use Rattle.hh_pool.specs.Progress.{AreCounted, sketches_with}
use Rattle.hh_pool.specs.declared.first.Sketches.{Sketches}
use Rattle.hh_pool.proofs.Tried.{counted-weights_at}

-- what follows of an answer from a fact
pub on_ok : {X E P Q : Type 0} (r : Result X E) → (P → Q) → OnOk r P → OnOk r Q
on_ok (Ok x) f p = f p
on_ok (Err e) f p = tt

-- both sketches take all items
pub in_both : (s : Sketches) (xs : List Entry)
    → fold sketches_with s xs ≡ record { monitor = fold monitor_with s.monitor xs; table = fold grid_with s.table xs }
in_both s [] = refl
in_both s (x ∷ xs) = in_both (sketches_with s x) xs

-- counting goes on
pub counted_on : (ks : List Bytes) (xs piece : List Entry) (counts more : Count) → AreCounted ks xs counts
    → more ≡ fold (λ (c : Count) (e : Entry). count_with c (e ∷ [])) counts piece → AreCounted ks (xs ++ piece) more
counted_on ks xs piece counts more p is = subst (AreCounted ks (xs ++ piece)) (sym is)
    (follows (AreCounted ks) (λ (c : Count) (e : Entry). count_with c (e ∷ [])) (λ c ys e q. record {
      weights = (λ i. counts_with (q.keys i) (e ∷ []) (q.weights i)) ∙ counted-weights_at ks ys (e ∷ []);
      keys = q.keys;
      total = omega (arith, q.total, sum_by-append (λ (d : Entry). d.1) ys (e ∷ []));
      whole = λ some. omega (arith, q.whole some, sum_by-append (λ (d : Entry). d.1) ys (e ∷ []));
    }) piece xs counts p)
