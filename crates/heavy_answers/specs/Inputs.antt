-- The inputs of records that a request names.
use Rattle.std.specs.Prelude.{ℕ, ◌≡◌, ◌||◌, Bool, true, false, ⊤, List, [], ◌∷◌, Option, IfSome, map}
use Rattle.hh_stream.specs.Ranges.{in_range}
use Rattle.hh_workers.specs.Workers.{max_workers}
use Rattle.hh_records.specs.Layouts.{every, names_columns, stream_with, texts_known}
use Rattle.hh_pieces.specs.Texts.{records_known}
use Rattle.hh_records.specs.LayoutWords.{SaysLayout}
use Rattle.hh_records.specs.Streams.{Known}
use Rattle.hh_records.specs.declared.layout.Layout.{Layout}
use Rattle.heavy_host.specs.Opening.{names_standard}
use Rattle.heavy_requests.specs.declared.request.Asked.{Asked}
use Rattle.heavy_requests.specs.declared.request.RecordWords.{RecordWords}
use Rattle.heavy_answers.specs.declared.opening.OnePass.{OnePass}
use Rattle.heavy_answers.specs.declared.opening.OnePass.TheVariants as pass

-- the name of standard input
abbrev pub standard_name : List ℕ
standard_name = 45 ∷ []

-- the names of files, or else that of standard input
abbrev pub or_standard : List (List ℕ) → List (List ℕ)
or_standard [] = standard_name ∷ []
or_standard (name ∷ names) = name ∷ names

-- the names of the inputs of records: those of the files, or standard input
abbrev pub input_names : RecordWords → List (List ℕ)
input_names words = or_standard (map (λ w. w.items) words.files.items)

-- the inputs with these names have these texts, where they are known, in their order; standard input is that of the first
-- that names it
abbrev pub AreInputs : (Bool → List ℕ → Option (List ℕ) → Type 0) → Bool → List (List ℕ) → List (Option (List ℕ)) → Type 0
AreInputs opens taken [] [] = ⊤
AreInputs opens taken [] (text ∷ texts) = ⊥
AreInputs opens taken (name ∷ names) [] = ⊥
AreInputs opens taken (name ∷ names) (text ∷ texts) =
    opens taken name text × AreInputs opens (taken || names_standard name) names texts

-- what is known of these texts is what is known of those
abbrev pub Agree : Option (List (List ℕ)) → Option (List (List ℕ)) → Type 0
Agree texts others = IfSome texts (λ all. IfSome others (λ known. known ≡ all))

-- what is known is of the records of the inputs that the words name, in their order, by a layout that the words say
pub record AreRecords (opens : Bool → List ℕ → Option (List ℕ) → Type 0) (words : RecordWords) (layout : Layout) (known : Known) : Type 0 where
  pub said : SaysLayout words.layout layout
  pub texts : List (Option (List ℕ))
  pub opened : AreInputs opens false (input_names words) texts
  pub named : known.names_columns ≡ names_columns layout
  pub read : IfSome (every (λ text. text) texts) (λ all. IfSome known.reading (λ reading. reading ≡ stream_with layout all))

-- the records are those that the words name, where the number of workers is not refused
abbrev pub IsReadOnce : {R F : Type 0} → (Bool → List ℕ → Option (List ℕ) → Type 0) → (R → Option (List ℕ)) → (F → Option (List ℕ))
    → Asked → OnePass R F → Type 0
IsReadOnce opens remaining bytes asked (pass.Files sources) =
    in_range asked.options.workers max_workers ≡ true → AreRecords opens asked.records sources.layout (texts_known bytes sources.layout sources.files.items)
IsReadOnce opens remaining bytes asked (pass.Stream records) =
    AreRecords opens asked.records records.layout (records_known remaining records) × (in_range asked.options.workers max_workers ≡ true)
