-- A key of several columns tells their fields.
use Rattle.std.proofs.Common.{◌≡◌, ◌∷◌, ◌++◌, ◌∙◌, ℕ, List, [], length, Option, Some, None, refl, sym, ap, append-nil, arith}
use Rattle.std.specs.Prelude.{◌==◌, false}
use Rattle.std.proofs.lemmas.Bool.{ne_eqb}
use Rattle.csv.specs.Machine.{Read, next_record}
use Rattle.csv.specs.Reading.{default_config}
use Rattle.csv.specs.Writing.{default_writer, is_blank, row_body, row_text}
use Rattle.csv.specs.declared.parser.State.TheVariants as st
use Rattle.csv.proofs.RoundTrip.{read-write-many}
use Rattle.hh_records.specs.Laws.{KeysTellFields}
use Rattle.hh_records.specs.Streams.{Fields}

fields-or : Option Read → Fields
fields-or None = []
fields-or (Some q) = q.0

-- the first record of a text
read-first : List ℕ → Fields
read-first text = fields-or (next_record default_config st.StartRecord [] [] text)

-- what csv writes of two or more fields, read again, is these fields
read-again : (f g : List ℕ) (fs : Fields) → read-first (row_body default_writer (f ∷ g ∷ fs) ++ 10 ∷ []) ≡ f ∷ g ∷ fs
unfolding read-first fields-or is_blank
read-again f g fs =
    ap read-first (sym (append-nil (row_text default_writer (f ∷ g ∷ fs))))
    ∙ ap fields-or (read-write-many f g fs [])

several : (f g : List ℕ) (fs : Fields) → (length (f ∷ g ∷ fs) == 1) ≡ false
several f g fs = ne_eqb (length (f ∷ g ∷ fs)) 1 (λ e. omega (arith, e))

pub keys_tell_fields : KeysTellFields
keys_tell_fields [] gs some _ same e = absurd (some refl)
keys_tell_fields (f ∷ fs) [] _ some same e = absurd (some refl)
keys_tell_fields (f ∷ []) (g ∷ []) _ _ same e = ap (λ k. k ∷ []) e
keys_tell_fields (f ∷ []) (g ∷ h ∷ gs) _ _ same e = absurd (cc (rw (several g h gs) at same))
keys_tell_fields (f ∷ h ∷ fs) (g ∷ []) _ _ same e = absurd (cc (rw (several f h fs) at same))
keys_tell_fields (f ∷ h ∷ fs) (g ∷ i ∷ gs) _ _ same e =
    sym (read-again f h fs) ∙ ap (λ (k : List ℕ). read-first (k ++ 10 ∷ [])) e ∙ read-again g i gs
