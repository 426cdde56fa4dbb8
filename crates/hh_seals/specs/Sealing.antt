-- The one sealed text of a spelling and its decimals.
use Rattle.std.specs.Prelude.{◌≡◌, ℕ, ◌≤◌, List, ◌∷◌, ◌++◌, codes}
use Rattle.sha2.specs.Sha256.{sha256}

-- the most decimals
abbrev pub max_decimals : ℕ
max_decimals = 9

-- how many bytes a sealed text has, besides the spelling: the magic, the decimals and the digest
abbrev pub sealed_len : ℕ
sealed_len = 37

-- what the digest covers: the magic, the decimals and the spelling
abbrev pub covered_bytes : ℕ → List ℕ → List ℕ
covered_bytes decimals spelling = codes "HVY1" ++ (decimals ∷ spelling)

-- that, and the digest
abbrev pub sealed_text : ℕ → List ℕ → List ℕ
sealed_text decimals spelling = covered_bytes decimals spelling ++ sha256 (covered_bytes decimals spelling)

-- the bytes are the sealed text of these decimals and this spelling
pub record IsSealed (bytes : List ℕ) (decimals : ℕ) (spelling : List ℕ) : Type 0 where
  pub few : decimals ≤ max_decimals
  pub text : bytes ≡ sealed_text decimals spelling
