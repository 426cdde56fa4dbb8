-- Texts that are opened, and then read one after the other.
use Rattle.std.proofs.Common.{◌≡◌, ◌+◌, ◌∷◌, ◌++◌, ◌∙◌, ℕ, List, [], length, map, Bool, true, false, Option, Some, None, Ok, Err, refl, sym, ap, arith, append-nil}
use Rattle.std.specs.Prelude.{IfSome, option_map, option_and_then}
use Rattle.std.proofs.lemmas.List.Elements.{All-from_get_or}
use Rattle.std.proofs.lemmas.List.Folds.{map_fixed}
use Rattle.std.proofs.lemmas.List.Sums.{sum_by-append}
use Rattle.csv.specs.Reading.{records, strip_bom}
use Rattle.csv.specs.declared.parser.Config.{Config}
use Rattle.hh_stream.specs.Weights.{Entry, total_of}
use Rattle.hh_records.specs.declared.layout.Layout.{Layout}
use Rattle.hh_faults.specs.declared.records.TextError.{TextError}
use Rattle.hh_faults.specs.declared.records.TextError.TheVariants as text
use Rattle.hh_records.specs.Laws.{PlainLayoutsReadStreams}
use Rattle.hh_records.specs.Layouts.{ColumnsRefused, FindsColumns, IsPlain, OpenRefused, Columns, RowsRefused, TextsRefused, config_of, every, gathered, headed_parts, items_after, joined, names_columns, parts_at, columns_in, rows_in, stream_with, text_parts, texts_parts}
use Rattle.hh_records.specs.Streams.{Fields, Parts, Reading, stream_of, text_known}
use Rattle.hh_records.proofs.OpenFacts.{every-first, gathered-first, gathered-push, items-refused, map-nothing, map-twice, some-is}
use Rattle.hh_records.proofs.ReadFacts.{items-more, joined-none, joined-twice}
use Rattle.hh_pieces.specs.LongRecords.{LeavesRecords, StopsReading, kept_of}
use Rattle.hh_pieces.specs.Texts.{AllOpen, Chooses, Opens, OpensAs, all_left, parts_left, records_known}
use Rattle.hh_pieces.specs.declared.long_record.Limits.{Limits}
use Rattle.hh_pieces.specs.declared.texts.OpenText.{OpenText}
use Rattle.hh_pieces.specs.declared.texts.Records.{Records}

-- ---- a text that is opened
-- all of a record is kept
all-kept : (fs row : Fields) → row ≡ kept_of (record { squeezes = false; fields = None; bytes = None }) fs → row ≡ fs
all-kept fs row e = e ∙ map_fixed (λ f. f) fs (All-from_get_or (λ (f : List ℕ). f ≡ f) fs [] (λ i l. refl))

-- after its header
module _ (layout : Layout) (headed : layout.has_header ≡ true) (row : Fields) (p q : Option (List ℕ)) where
  abbrev cfg : Config
  cfg = config_of layout

  abbrev all : Limits
  all = record { squeezes = false; fields = None; bytes = None }

  text-headed : (bytes : List ℕ) → text_parts layout bytes ≡ headed_parts layout (records cfg (strip_bom bytes))
  text-headed bytes = rw headed refl

  pub header-chooses : (at : Columns) → LeavesRecords cfg all p q true row → columns_in layout row ≡ Some at
      → Chooses layout p (Some at) q
  header-chooses at h places = by p q h
    where
      by : (p q : Option (List ℕ)) → LeavesRecords cfg all p q true row → Chooses layout p (Some at) q
      by None q h = tt
      by (Some xs) None h = h
      by (Some xs) (Some ys) (fs, kept, rows) =
          let same = all-kept fs row kept in
          text-headed xs ∙ ap (headed_parts layout) rows
          ∙ ap (option_map (λ at. map (parts_at layout at) (rows_in layout ys))) (ap (columns_in layout) (sym same) ∙ places)

  pub header-missing : LeavesRecords cfg all p q false row → Chooses layout p None q
  header-missing h = by p q h
    where
      by : (p q : Option (List ℕ)) → LeavesRecords cfg all p q false row → Chooses layout p None q
      by None q h = tt
      by (Some xs) None h = h
      by (Some xs) (Some ys) h = text-headed xs ∙ ap (headed_parts layout) h.0

  pub header-finds : (at : Columns) → LeavesRecords cfg all p q true row → columns_in layout row ≡ Some at
      → IfSome p (λ bytes. FindsColumns layout (rows_in layout bytes) (Some at))
  header-finds at h places = by p q h
    where
      by : (p q : Option (List ℕ)) → LeavesRecords cfg all p q true row
          → IfSome p (λ bytes. FindsColumns layout (rows_in layout bytes) (Some at))
      by None q h = tt
      by (Some xs) None h = absurd h
      by (Some xs) (Some ys) (fs, kept, rows) =
          let same = all-kept fs row kept in
          rw (headed, rows) (ap (columns_in layout) (sym same) ∙ places)

  pub missing-finds : LeavesRecords cfg all p q false row → IfSome p (λ bytes. FindsColumns layout (rows_in layout bytes) None)
  missing-finds h = by p q h
    where
      by : (p q : Option (List ℕ)) → LeavesRecords cfg all p q false row
          → IfSome p (λ bytes. FindsColumns layout (rows_in layout bytes) None)
      by None q h = tt
      by (Some xs) None h = absurd h
      by (Some xs) (Some ys) h = rw (headed, h.0) refl

  pub header-refused : (error : TextError) → LeavesRecords cfg all p q true row
      → ColumnsRefused layout (columns_in layout row) error
      → OpenRefused (names_columns layout) (option_map (text_parts layout) p) error
  header-refused text.Memory h refused = tt
  header-refused text.ReadFault h refused = absurd refused
  header-refused (text.BadRecord n c) h refused = absurd refused
  header-refused text.NoColumn h refused = (refused.0, by p q h)
    where
      by : (p q : Option (List ℕ)) → LeavesRecords cfg all p q true row
          → IfSome (option_map (text_parts layout) p) (λ ps. ps ≡ None)
      by None q h = tt
      by (Some xs) None h = absurd h
      by (Some xs) (Some ys) (fs, kept, rows) =
          let same = all-kept fs row kept in
          text-headed xs ∙ ap (headed_parts layout) rows
          ∙ ap (option_map (λ at. map (parts_at layout at) (rows_in layout ys))) (ap (columns_in layout) (sym same) ∙ refused.1)

-- where it is to have none
module _ (layout : Layout) (plain : layout.has_header ≡ false) (p : Option (List ℕ)) where
  pub plain-chooses : (at : Columns) → columns_in layout [] ≡ Some at → Chooses layout p (Some at) p
  plain-chooses at places = by p
    where
      by : (p : Option (List ℕ)) → Chooses layout p (Some at) p
      by None = tt
      by (Some xs) = rw (plain, places) refl

  pub plain-finds : (at : Columns) → columns_in layout [] ≡ Some at
      → IfSome p (λ bytes. FindsColumns layout (rows_in layout bytes) (Some at))
  plain-finds at places = by p
    where
      by : (p : Option (List ℕ)) → IfSome p (λ bytes. FindsColumns layout (rows_in layout bytes) (Some at))
      by None = tt
      by (Some xs) = rw plain places

  pub plain-refused : (error : TextError) → ColumnsRefused layout (columns_in layout []) error
      → OpenRefused (names_columns layout) (option_map (text_parts layout) p) error
  plain-refused text.Memory refused = tt
  plain-refused text.ReadFault refused = absurd refused
  plain-refused (text.BadRecord n c) refused = absurd refused
  plain-refused text.NoColumn refused = (refused.0, by p)
    where
      by : (p : Option (List ℕ)) → IfSome (option_map (text_parts layout) p) (λ ps. ps ≡ None)
      by None = tt
      by (Some xs) = rw (plain, refused.1) refl

-- a read that fails
pub stops-opening : (names : Bool) (parts : Option (Option (List Parts))) (error : TextError) → StopsReading error
    → OpenRefused names parts error
stops-opening names parts text.ReadFault h = tt
stops-opening names parts text.NoColumn h = absurd h
stops-opening names parts (text.BadRecord n c) h = absurd h
stops-opening names parts text.Memory h = tt

-- ---- texts that are opened
module _ {R : Type 0} (remaining : R → Option (List ℕ)) (layout : Layout) where
  pub one-opened : (parts : Option (Option (List Parts))) (old new : List (OpenText R)) (one : OpenText R)
      → new ≡ old ++ one ∷ [] → Opens remaining layout parts (Some one) → OpensAs remaining layout parts old new
  one-opened None old new one more h = tt
  one-opened (Some known) old new one more (ps, left, is) =
      (ps, is, λ before e. ap (all_left remaining layout) more ∙ gathered-push (parts_left remaining layout) old one before ps e left)

  -- the texts of these readers but for the rest are open
  abbrev pub OpenedSoFar : List R → List R → List (OpenText R) → Type 0
  OpenedSoFar all rest opened =
      IfSome (every remaining all) (λ bytes. (ps : List Parts) × (all_left remaining layout opened ≡ Some ps)
      × (later : List (List ℕ)) × (every remaining rest ≡ Some later)
      × (texts_parts layout bytes ≡ option_map (λ qs. ps ++ qs) (texts_parts layout later)))

  pub open-start : (all : List R) → OpenedSoFar all all []
  unfolding gathered
  open-start all = by (every remaining all) refl
    where
      by : (o : Option (List (List ℕ))) → every remaining all ≡ o
          → IfSome o (λ bytes. (ps : List Parts) × (all_left remaining layout [] ≡ Some ps)
          × (later : List (List ℕ)) × (every remaining all ≡ Some later)
          × (texts_parts layout bytes ≡ option_map (λ qs. ps ++ qs) (texts_parts layout later)))
      by None e = tt
      by (Some bytes) e = ([], refl, bytes, e, sym (map-nothing (texts_parts layout bytes)))

  pub open-more : (all : List R) (reader : R) (rest : List R) (old new : List (OpenText R))
      → OpenedSoFar all (reader ∷ rest) old
      → OpensAs remaining layout (option_map (text_parts layout) (remaining reader)) old new → OpenedSoFar all rest new
  unfolding gathered
  open-more all reader rest old new = by (every remaining all)
    where
      known : (o : Option (List ℕ)) (b : List ℕ) → o ≡ Some b → OpensAs remaining layout (option_map (text_parts layout) o) old new
          → OpensAs remaining layout (Some (text_parts layout b)) old new
      known o b e h = rw e at h

      by : (o : Option (List (List ℕ)))
          → IfSome o (λ bytes. (ps : List Parts) × (all_left remaining layout old ≡ Some ps)
          × (later : List (List ℕ)) × (every remaining (reader ∷ rest) ≡ Some later)
          × (texts_parts layout bytes ≡ option_map (λ qs. ps ++ qs) (texts_parts layout later)))
          → OpensAs remaining layout (option_map (text_parts layout) (remaining reader)) old new
          → IfSome o (λ bytes. (ps : List Parts) × (all_left remaining layout new ≡ Some ps)
          × (later : List (List ℕ)) × (every remaining rest ≡ Some later)
          × (texts_parts layout bytes ≡ option_map (λ qs. ps ++ qs) (texts_parts layout later)))
      by None h k = tt
      by (Some bytes) (ps, left, later, rest_is, is) k =
          let (b, bs, at, others, both) = every-first remaining reader rest later rest_is in
          let (qs, text_is, grown) = known (remaining reader) b at k in (
            ps ++ qs,
            grown ps left,
            bs,
            others,
            is ∙ ap (λ later. option_map (λ rs. ps ++ rs) (texts_parts layout later)) both
                ∙ ap (λ o. option_map (λ rs. ps ++ rs) (option_and_then (λ zs. option_map (λ rs. zs ++ rs) (texts_parts layout bs)) o)) text_is
                ∙ map-twice ps qs (texts_parts layout bs),
          )

  pub open-refused : (names : Bool) (all : List R) (reader : R) (rest : List R) (old : List (OpenText R)) (x : TextError)
      → OpenedSoFar all (reader ∷ rest) old
      → OpenRefused names (option_map (text_parts layout) (remaining reader)) x
      → OpenRefused names (option_map (texts_parts layout) (every remaining all)) x
  unfolding gathered
  open-refused names all reader rest old text.ReadFault h k = tt
  open-refused names all reader rest old text.Memory h k = tt
  open-refused names all reader rest old (text.BadRecord n c) h k = k
  open-refused names all reader rest old text.NoColumn h k = (k.0, by (every remaining all) h k.1)
    where
      known : (o : Option (List ℕ)) (b : List ℕ) → o ≡ Some b → IfSome (option_map (text_parts layout) o) (λ ps. ps ≡ None)
          → text_parts layout b ≡ None
      known o b e h = rw e at h

      by : (o : Option (List (List ℕ)))
          → IfSome o (λ bytes. (ps : List Parts) × (all_left remaining layout old ≡ Some ps)
          × (later : List (List ℕ)) × (every remaining (reader ∷ rest) ≡ Some later)
          × (texts_parts layout bytes ≡ option_map (λ qs. ps ++ qs) (texts_parts layout later)))
          → IfSome (option_map (text_parts layout) (remaining reader)) (λ ps. ps ≡ None)
          → IfSome (option_map (texts_parts layout) o) (λ ps. ps ≡ None)
      by None h k = tt
      by (Some bytes) (ps, left, later, rest_is, is) k =
          let (b, bs, at, others, both) = every-first remaining reader rest later rest_is in
          is ∙ ap (λ later. option_map (λ rs. ps ++ rs) (texts_parts layout later)) both
          ∙ ap (λ o. option_map (λ rs. ps ++ rs) (option_and_then (λ zs. option_map (λ rs. zs ++ rs) (texts_parts layout bs)) o))
          (known (remaining reader) b at k)

  pub open-end : (all : List R) (opened : List (OpenText R)) → OpenedSoFar all [] opened → AllOpen remaining layout all opened
  unfolding gathered every
  open-end all opened = by (every remaining all)
    where
      by : (o : Option (List (List ℕ)))
          → IfSome o (λ bytes. (ps : List Parts) × (all_left remaining layout opened ≡ Some ps)
          × (later : List (List ℕ)) × (every remaining [] ≡ Some later)
          × (texts_parts layout bytes ≡ option_map (λ qs. ps ++ qs) (texts_parts layout later)))
          → IfSome o (λ bytes. (ps : List Parts) × (all_left remaining layout opened ≡ Some ps)
          × (texts_parts layout bytes ≡ Some ps))
      by None h = tt
      by (Some bytes) (ps, left, later, rest_is, is) =
          let none : [] ≡ later = some-is rest_is in (
            ps,
            left,
            is ∙ ap (λ later. option_map (λ rs. ps ++ rs) (texts_parts layout later)) (sym none)
                ∙ ap Some (append-nil ps),
          )

-- ---- texts that are read
module _ {R : Type 0} (remaining : R → Option (List ℕ)) (layout : Layout) (t : ℕ) (all : List (OpenText R)) where
  -- the texts but for the rest are read: n records, which add xs
  abbrev pub TextsSoFar : List (OpenText R) → List Entry → ℕ → Type 0
  TextsSoFar rest xs n =
      IfSome (all_left remaining layout all) (λ ps. (qs : List Parts) × (all_left remaining layout rest ≡ Some qs)
      × (items_after layout 1 t ps ≡ joined xs (items_after layout (n + 1) (t + total_of xs) qs)))

  pub texts-start : TextsSoFar all [] 0
  texts-start = by (all_left remaining layout all) refl
    where
      by : (o : Option (List Parts)) → all_left remaining layout all ≡ o
          → IfSome o (λ ps. (qs : List Parts) × (all_left remaining layout all ≡ Some qs)
          × (items_after layout 1 t ps ≡ joined [] (items_after layout (0 + 1) (t + 0) qs)))
      by None e = tt
      by (Some ps) e =
          let none : t + 0 ≡ t = omega arith in
          (ps, e, rw none (sym (joined-none (items_after layout 1 t ps))))

  module _ (one : OpenText R) (rest : List (OpenText R)) (xs : List Entry) (n : ℕ) where
    pub texts-more : (ys : List Entry) (after : ℕ) → TextsSoFar (one ∷ rest) xs n
        → IfSome (parts_left remaining layout one) (λ rs. (items_after layout (n + 1) (t + total_of xs) rs ≡ Ok ys)
        × (after ≡ n + length rs))
        → TextsSoFar rest (xs ++ ys) after
    texts-more ys after = by (all_left remaining layout all)
      where
        known : (o : Option (List Parts)) (rs : List Parts) → o ≡ Some rs
            → IfSome o (λ rs. (items_after layout (n + 1) (t + total_of xs) rs ≡ Ok ys) × (after ≡ n + length rs))
            → (items_after layout (n + 1) (t + total_of xs) rs ≡ Ok ys) × (after ≡ n + length rs)
        known o rs e h = rw e at h

        by : (o : Option (List Parts))
            → IfSome o (λ ps. (qs : List Parts) × (all_left remaining layout (one ∷ rest) ≡ Some qs)
            × (items_after layout 1 t ps ≡ joined xs (items_after layout (n + 1) (t + total_of xs) qs)))
            → IfSome (parts_left remaining layout one) (λ rs. (items_after layout (n + 1) (t + total_of xs) rs ≡ Ok ys)
            × (after ≡ n + length rs))
            → IfSome o (λ ps. (qs : List Parts) × (all_left remaining layout rest ≡ Some qs)
            × (items_after layout 1 t ps ≡ joined (xs ++ ys) (items_after layout (after + 1) (t + total_of (xs ++ ys)) qs)))
        by None h k = tt
        by (Some ps) (qs, left, is) k =
            let (rs, later, here, others, both) = gathered-first (parts_left remaining layout) one rest qs left in
            let (taken, count) = known (parts_left remaining layout one) rs here k in
            let sum = sum_by-append (λ (e : Entry). e.1) xs ys in
            let number : n + 1 + length rs ≡ after + 1 = omega (arith, count) in
            let total : t + total_of xs + total_of ys ≡ t + total_of (xs ++ ys) = omega (arith, sum) in (
              later,
              others,
              is ∙ ap (λ qs. joined xs (items_after layout (n + 1) (t + total_of xs) qs)) both
                  ∙ ap (joined xs) (items-more layout (n + 1) (t + total_of xs) ys rs later taken)
                  ∙ joined-twice xs ys _
                  ∙ rw (number, total) refl,
            )

    pub texts-refused : (x : TextError) → TextsSoFar (one ∷ rest) xs n
        → RowsRefused layout n (t + total_of xs) (parts_left remaining layout one) x
        → RowsRefused layout 0 t (all_left remaining layout all) x
    texts-refused text.ReadFault h k = tt
    texts-refused text.Memory h k = tt
    texts-refused text.NoColumn h k = k
    texts-refused (text.BadRecord m c) h k = by (all_left remaining layout all) h k
      where
        known : (o : Option (List Parts)) (rs : List Parts) → o ≡ Some rs
            → IfSome o (λ rs. items_after layout (n + 1) (t + total_of xs) rs ≡ Err (m, c))
            → items_after layout (n + 1) (t + total_of xs) rs ≡ Err (m, c)
        known o rs e h = rw e at h

        by : (o : Option (List Parts))
            → IfSome o (λ ps. (qs : List Parts) × (all_left remaining layout (one ∷ rest) ≡ Some qs)
            × (items_after layout 1 t ps ≡ joined xs (items_after layout (n + 1) (t + total_of xs) qs)))
            → IfSome (parts_left remaining layout one) (λ rs. items_after layout (n + 1) (t + total_of xs) rs ≡ Err (m, c))
            → IfSome o (λ ps. items_after layout (0 + 1) t ps ≡ Err (m, c))
        by None h k = tt
        by (Some ps) (qs, left, is) k =
            let (rs, later, here, others, both) = gathered-first (parts_left remaining layout) one rest qs left in
            is ∙ ap (λ qs. joined xs (items_after layout (n + 1) (t + total_of xs) qs)) both
            ∙ ap (joined xs) (items-refused layout (n + 1) (t + total_of xs) rs later (m, c)
            (known (parts_left remaining layout one) rs here k))

  pub texts-end : (xs : List Entry) (n : ℕ) → TextsSoFar [] xs n
      → IfSome (all_left remaining layout all) (λ ps. items_after layout 1 t ps ≡ Ok xs)
  unfolding gathered items_after
  texts-end xs n = by (all_left remaining layout all)
    where
      by : (o : Option (List Parts))
          → IfSome o (λ ps. (qs : List Parts) × (all_left {R = R} remaining layout [] ≡ Some qs)
          × (items_after layout 1 t ps ≡ joined xs (items_after layout (n + 1) (t + total_of xs) qs)))
          → IfSome o (λ ps. items_after layout 1 t ps ≡ Ok xs)
      by None h = tt
      by (Some ps) (qs, left, is) =
          let none : [] ≡ qs = some-is left in
          is ∙ ap (λ qs. joined xs (items_after layout (n + 1) (t + total_of xs) qs)) (sym none)
          ∙ ap Ok (append-nil xs)

-- ---- records, by texts that are open
module _ {R : Type 0} (remaining : R → Option (List ℕ)) (layout : Layout) (readers : List R) (texts : List (OpenText R))
    (opened : AllOpen remaining layout readers texts) where
  -- what the open texts read as is what the texts do
  reads-as : (r : Reading)
      → IfSome (all_left remaining layout texts) (λ ps. items_after layout 1 0 ps ≡ r)
      → IfSome (option_map (stream_with layout) (every remaining readers)) (λ s. s ≡ Some r)
  reads-as r = by (every remaining readers) opened
    where
      known : (o : Option (List Parts)) (ps : List Parts) → o ≡ Some ps
          → IfSome o (λ ps. items_after layout 1 0 ps ≡ r) → items_after layout 1 0 ps ≡ r
      known o ps e h = rw e at h

      by : (o : Option (List (List ℕ)))
          → IfSome o (λ bytes. (ps : List Parts) × (all_left remaining layout texts ≡ Some ps) × (texts_parts layout bytes ≡ Some ps))
          → IfSome (all_left remaining layout texts) (λ ps. items_after layout 1 0 ps ≡ r)
          → IfSome (option_map (stream_with layout) o) (λ s. s ≡ Some r)
      by None h k = tt
      by (Some bytes) (ps, left, is) k =
          ap (option_map (items_after layout 1 0)) is ∙ ap Some (known (all_left remaining layout texts) ps left k)

  pub records-read : (xs : List Entry)
      → IfSome (all_left remaining layout texts) (λ ps. items_after layout 1 0 ps ≡ Ok xs)
      → IfSome (option_map (stream_with layout) (every remaining readers)) (λ s. s ≡ Some (Ok xs))
  records-read xs = reads-as (Ok xs)

  pub records-refused : (names : Bool) (x : TextError) → RowsRefused layout 0 0 (all_left remaining layout texts) x
      → TextsRefused (record {
        names_columns = names;
        reading = option_map (stream_with layout) (every remaining readers);
      }) x
  records-refused names text.ReadFault h = tt
  records-refused names text.Memory h = tt
  records-refused names text.NoColumn h = absurd h
  records-refused names (text.BadRecord n c) h = reads-as (Err (n, c)) h

-- one text with a plain layout is known as a text of keys and weights is
pub plain-known : {R : Type 0} (remaining : R → Option (List ℕ)) (records : Records R) → PlainLayoutsReadStreams
    → IsPlain records.layout → records.others.items ≡ [] → records_known remaining records ≡ text_known (remaining records.first)
unfolding every
plain-known remaining records law plain none =
    let names : names_columns records.layout ≡ false = rw (plain.no_key, plain.no_weight) refl in
    rw (names, none) (ap (λ o. record {
      names_columns = false;
      reading = o;
    }) (by (remaining records.first)))
  where
    by : (o : Option (List ℕ))
        → option_map (stream_with records.layout) (option_and_then (λ y. option_map (λ ys. y ∷ ys) (Some [])) o)
        ≡ option_map (λ text. Some (stream_of text)) o
    by None = refl
    by (Some text) = ap Some (law records.layout text plain)
