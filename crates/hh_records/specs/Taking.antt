-- What becomes of items that are taken one by one.
use Rattle.std.specs.Prelude.{◌≡◌, ◌<◌, List, All, Ok, fold}
use Rattle.hh_stream.specs.Weights.{Entry}
use Rattle.hh_records.specs.Streams.{Known, ReadsAs}

-- the records read as some items, each of which weighs something, and what was gathered is of them
abbrev pub GathersRecords : {T : Type 0} → (List Entry → T → Type 0) → Known → T → Type 0
GathersRecords is_of known t =
    (xs : List Entry) × ReadsAs known (Ok xs) × All (λ (e : Entry). 0 < e.1) xs × is_of xs t

-- a taker has taken, one by one, the items that some records read as
pub record TakesItems {A : Type 0} (with_item : A → Entry → A) (known : Known) (old new : A) : Type 0 where
  pub xs : List Entry
  pub reads : ReadsAs known (Ok xs)
  pub positive : All (λ (e : Entry). 0 < e.1) xs
  pub taken : new ≡ fold with_item old xs
