-- Small cases worked by hand: what the definitions compute.
use Rattle.std.specs.Prelude.{◌≡◌, List, [], ◌∷◌, ◌++◌, refl, codes}
use Rattle.hh_stream.specs.Weights.{Bytes, Entry, total_of}
use Rattle.hh_summaries.specs.Counters.{tally, plus, level, lower, join, misra_gries, slack}
use Rattle.hh_summaries.specs.Report.{heavy, by_rank}
use Rattle.hh_counters.specs.Condensed.{other_name, free_name, condensed}
use Rattle.hh_counters.specs.SpaceSaving.{least_of, translate, space_saving}

abbrev a : Bytes
a = 97 ∷ []

abbrev b : Bytes
b = 98 ∷ []

abbrev c : Bytes
c = 99 ∷ []

abbrev d : Bytes
d = 100 ∷ []

abbrev four_records : List Entry
four_records = (a, 5) ∷ (b, 3) ∷ (c, 2) ∷ (a, 1) ∷ []

-- the newcomer c finds no room: 2, the least of a's 5, b's 3 and its own 2, is taken from each
four_records_counters : misra_gries four_records 2 ≡ (a, 4) ∷ (b, 1) ∷ []
unfolding misra_gries tally level lower
four_records_counters = refl

four_records_slack : slack (misra_gries four_records 2) (total_of four_records) 2 ≡ 2
unfolding misra_gries tally level lower
four_records_slack = refl

-- 3 * 6 is above 11, 3 * 3 is not
four_records_report : heavy four_records 1 3 ≡ (a, 6) ∷ []
unfolding tally by_rank
four_records_report = refl

-- above a tenth of 11
four_records_lower_share : heavy four_records 1 10 ≡ (a, 6) ∷ (b, 3) ∷ (c, 2) ∷ []
unfolding tally by_rank
four_records_lower_share = refl

-- a key with exactly the share is not heavy
exact_share : heavy ((a, 1) ∷ (b, 1) ∷ (c, 1) ∷ []) 1 3 ≡ []
unfolding tally by_rank
exact_share = refl

-- equal weights stand by rising key
equal_weights : heavy ((b, 2) ∷ (a, 2) ∷ []) 1 4 ≡ (a, 2) ∷ (b, 2) ∷ []
unfolding tally by_rank
equal_weights = refl

two_summaries_summed : plus ((a, 4) ∷ (b, 1) ∷ []) ((b, 2) ∷ (c, 3) ∷ []) ≡ (a, 4) ∷ (b, 3) ∷ (c, 3) ∷ []
unfolding tally
two_summaries_summed = refl

-- 3 exceed 2, and only a exceeds 3
two_summaries_level : level ((a, 4) ∷ (b, 3) ∷ (c, 3) ∷ []) 2 ≡ 3
unfolding level
two_summaries_level = refl

two_summaries_joined : join ((a, 4) ∷ (b, 1) ∷ []) ((b, 2) ∷ (c, 3) ∷ []) 2 ≡ (a, 1) ∷ []
unfolding tally level lower
two_summaries_joined = refl

-- joins in another order give other counters
left_join_first : join (join ((a, 2) ∷ []) ((b, 1) ∷ []) 1) ((c, 1) ∷ []) 1 ≡ []
unfolding tally level lower
left_join_first = refl

right_join_first : join ((a, 2) ∷ []) (join ((b, 1) ∷ []) ((c, 1) ∷ []) 1) 1 ≡ (a, 2) ∷ []
unfolding tally level lower
right_join_first = refl

-- weights up to the largest total
largest_total : misra_gries ((a, 9223372036854775791) ∷ (b, 7) ∷ (c, 9) ∷ []) 2 ≡ (a, 9223372036854775784) ∷ (c, 2) ∷ []
unfolding misra_gries tally level lower
largest_total = refl

-- three counters, for k = 2, are enough for the four records
four_records_monitored : space_saving four_records 2 ≡ (a, 6) ∷ (b, 3) ∷ (c, 2) ∷ []
four_records_monitored = refl

four_records_translated : translate (space_saving four_records 2) 2 ≡ (a, 4) ∷ (b, 1) ∷ []
unfolding lower
four_records_translated = refl

-- d takes over the counter of c, which is dropped
newcomer_takes_over : space_saving (four_records ++ (d, 4) ∷ []) 2 ≡ (a, 6) ∷ (b, 3) ∷ (d, 6) ∷ []
newcomer_takes_over = refl

newcomer_translated : translate ((a, 6) ∷ (b, 3) ∷ (d, 6) ∷ []) 2 ≡ (a, 3) ∷ (d, 3) ∷ []
unfolding lower
newcomer_translated = refl

-- with a counter free nothing is taken
nothing_taken : least_of ((a, 5) ∷ (b, 3) ∷ []) 2 ≡ 0
nothing_taken = refl

-- of equal least counters the least key goes
least_key_goes : space_saving ((b, 1) ∷ (a, 1) ∷ (c, 1) ∷ []) 1 ≡ (b, 1) ∷ (c, 2) ∷ []
least_key_goes = refl

-- ---- condensed
name_0 : other_name 0 ≡ codes "others"
name_0 = refl

name_1 : other_name 1 ≡ codes "others1"
name_1 = refl

name_10 : other_name 10 ≡ codes "others10"
name_10 = refl

-- b and d have no counter
condensed_records : condensed ((a, 4) ∷ (c, 1) ∷ []) ((d, 7) ∷ four_records)
    ≡ (a, 6) ∷ (c, 2) ∷ (codes "others", 10) ∷ []
unfolding condensed tally free_name
condensed_records = refl

-- a key that does not come has no entry, nor have other keys that weigh nothing
condensed_few : condensed ((a, 4) ∷ (d, 1) ∷ []) ((a, 2) ∷ (a, 3) ∷ []) ≡ (a, 5) ∷ []
unfolding condensed tally free_name
condensed_few = refl

-- both names are keys
condensed_taken : condensed ((codes "others", 4) ∷ (codes "others1", 1) ∷ [])
    ((codes "others2", 2) ∷ (codes "others", 5) ∷ []) ≡ (codes "others", 5) ∷ (codes "others2", 2) ∷ []
unfolding condensed tally free_name
condensed_taken = refl
