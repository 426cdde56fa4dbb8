-- What holds of the definitions.
use Rattle.std.specs.Prelude.{◌≡◌, ◌≢◌, ◌↔◌, ℕ, List, Ok}
use Rattle.hh_saved.specs.declared.format.Version.TheVariants as version
use Rattle.hh_saved.specs.declared.saved.Saved.{Saved}
use Rattle.hh_saved.specs.Spelling.{Spells}
use Rattle.sha2.specs.Sha256.{sha256}
use Rattle.hh_seals.specs.Opening.{digest_in, opened_of}
use Rattle.hh_seals.specs.Sealing.{IsSealed, covered_bytes}

-- what is opened is exactly the sealed texts
abbrev pub OpensSealedTexts : Type 0
OpensSealedTexts =
    (bytes : List ℕ) (decimals : ℕ) (spelling : List ℕ)
    → (opened_of bytes ≡ Ok (decimals, spelling)) ↔ IsSealed bytes decimals spelling

-- the bytes are a sealed text of a value with these decimals
pub record Seals (bytes : List ℕ) (decimals : ℕ) (value : Saved) : Type 0 where
  pub spelling : List ℕ
  pub spelled : Spells version.Two spelling value
  pub sealed : IsSealed bytes decimals spelling

-- a sealed text has one value, with its decimals
abbrev pub SealedTextsHaveOneValue : Type 0
SealedTextsHaveOneValue =
    (bytes : List ℕ) (d e : ℕ) (v w : Saved) → Seals bytes d v → Seals bytes e w → (d ≡ e) × (v ≡ w)

-- a value with its decimals has one sealed text
abbrev pub ValuesHaveOneSealedText : Type 0
ValuesHaveOneSealedText = (a b : List ℕ) (d : ℕ) (v : Saved) → Seals a d v → Seals b d v → a ≡ b

-- two texts have one digest
pub record Collide (a b : List ℕ) : Type 0 where
  pub differ : a ≢ b
  pub digests : sha256 a ≡ sha256 b

-- if two sealed texts have one digest and other contents, what they cover collides
abbrev pub OthersOfOneDigestCollide : Type 0
OthersOfOneDigestCollide =
    (a b : List ℕ) (d e : ℕ) (s t : List ℕ)
    → IsSealed a d s → IsSealed b e t → digest_in a ≡ digest_in b → a ≢ b
    → Collide (covered_bytes d s) (covered_bytes e t)

-- texts that cover the same are one: no other digest fits
abbrev pub OneDigestFits : Type 0
OneDigestFits =
    (a b : List ℕ) (d e : ℕ) (s t : List ℕ)
    → IsSealed a d s → IsSealed b e t → covered_bytes d s ≡ covered_bytes e t → a ≡ b
