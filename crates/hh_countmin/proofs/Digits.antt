-- Digits taken several at a time: a fingerprint goes on by a power of z.
use Rattle.std.proofs.Common.{◌≡◌, ℕ, suc, List, [], ◌∷◌, ◌+◌, ◌*◌, ◌^◌, ◌<◌, ◌%◌, length, fold, refl, ap, sym, ◌∙◌, arith}
use Rattle.std.proofs.Math.Nat.{add-mod, pow-zero, pow-suc}
use Rattle.std.proofs.lemmas.Nat.{mul-mod_first}
use Rattle.hh_countmin.specs.Family.{modulus, fingerprint_step, fingerprint_of}

-- equal remainders, added, are equal
pub same-sums : (a b c d m : ℕ) → a % m ≡ b % m → c % m ≡ d % m → (a + c) % m ≡ (b + d) % m
same-sums a b c d m e f =
    add-mod a c m ∙ ap (λ u. (u + c % m) % m) e ∙ ap (λ u. (b % m + u) % m) f ∙ sym (add-mod b d m)

-- one digit more of a sum in which each has its power
pub one_digit : (z sum digits byte left power : ℕ) → sum % modulus ≡ (digits * z ^ suc left) % modulus
    → power ≡ z ^ left % modulus → (sum + power * (byte + 1)) % modulus ≡ (fingerprint_step z digits byte * z ^ left) %
    modulus
one_digit z sum digits byte left power so_far is_power =
    let term : (power * (byte + 1)) % modulus ≡ (z ^ left * (byte + 1)) % modulus =
    ap (λ p. (p * (byte + 1)) % modulus) is_power ∙ mul-mod_first (z ^ left) (byte + 1) modulus in
    let spread : digits * z ^ suc left + z ^ left * (byte + 1) ≡ (digits * z + (byte + 1)) * z ^ left =
    grind (arith, pow-suc z left) in
    same-sums sum (digits * z ^ suc left) (power * (byte + 1)) (z ^ left * (byte + 1)) modulus so_far term
    ∙ ap (λ u. u % modulus) spread
    ∙ sym (mul-mod_first (digits * z + (byte + 1)) (z ^ left) modulus)

-- a fingerprint is below the modulus
pub fingerprint-below : (z acc : ℕ) → (bytes : List ℕ) → acc < modulus → fold (fingerprint_step z) acc bytes < modulus
fingerprint-below z acc [] small = small
fingerprint-below z acc (b ∷ bytes) small = fingerprint-below z (fingerprint_step z acc b) bytes (omega arith)

-- bytes that follow multiply what is there by a power of z
pub fingerprint_goes_on : (z acc : ℕ) → (bytes : List ℕ)
    → fold (fingerprint_step z) acc bytes % modulus ≡ (acc * z ^ length bytes + fingerprint_of z bytes) % modulus
fingerprint_goes_on z acc [] = ap (λ u. u % modulus) (grind (arith, pow-zero z))
fingerprint_goes_on z acc (b ∷ bytes) =
    let n = length bytes in
    let first = fingerprint_step z acc b in
    let alone = fingerprint_step z 0 b in
    let rest = fingerprint_of z bytes in
    let after : fold (fingerprint_step z) first bytes % modulus ≡ (first * z ^ n + rest) % modulus =
    fingerprint_goes_on z first bytes in
    let other : fold (fingerprint_step z) alone bytes % modulus ≡ (alone * z ^ n + rest) % modulus =
    fingerprint_goes_on z alone bytes in
    let one : (first * z ^ n) % modulus ≡ ((acc * z + (b + 1)) * z ^ n) % modulus =
    mul-mod_first (acc * z + (b + 1)) (z ^ n) modulus in
    let two : (alone * z ^ n) % modulus ≡ ((0 * z + (b + 1)) * z ^ n) % modulus =
    mul-mod_first (0 * z + (b + 1)) (z ^ n) modulus in
    let both : (acc * z + (b + 1)) * z ^ n ≡ acc * z ^ suc n + (0 * z + (b + 1)) * z ^ n = grind (arith, pow-suc z n) in
    let last : ((0 * z + (b + 1)) * z ^ n + rest) % modulus ≡ fingerprint_of z (b ∷ bytes) % modulus =
    same-sums ((0 * z + (b + 1)) * z ^ n) (alone * z ^ n) rest rest modulus (sym two) refl ∙ sym other in
    after
    ∙ same-sums (first * z ^ n) ((acc * z + (b + 1)) * z ^ n) rest rest modulus one refl
    ∙ ap (λ u. (u + rest) % modulus) both
    ∙ ap (λ u. u % modulus) (omega arith)
    ∙ same-sums (acc * z ^ suc n) (acc * z ^ suc n) ((0 * z + (b + 1)) * z ^ n + rest) (fingerprint_of z (b ∷ bytes))
    modulus refl last

-- the next power
pub next_power : (z i : ℕ) → (z ^ i % modulus * z + 0) % modulus ≡ z ^ suc i % modulus
next_power z i =
    ap (λ u. u % modulus) (omega arith) ∙ mul-mod_first (z ^ i) z modulus ∙ ap (λ u. u % modulus) (sym (pow-suc z i))
