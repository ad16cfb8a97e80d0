-- Laws of one bit of a number: of and, or, complement and shifts, of 2 ^ j, and of trailing zeros.
use mathlib.Core.Path.{◌≡◌, refl, sym, ap, ◌∙◌}
use Prim.Native.Nat.{ℕ, zero, suc, ◌+◌, ◌-◌, ◌*◌, ◌/◌, ◌%◌, ◌^◌, ◌≤◌, ◌<◌, min, max}
use native.Mathlib.Nat.{mod-lt, mod-eq_of_lt, div-eq_of_lt, div-eq-sub-div, lt_of_lt_of_le, mul-mod_left, one-mul, pow-suc}
use native.Mathlib.Decide.{dec_lt}
use native.Mathlib.Numerals.{one-add}
use native.Mathlib.Omega.{arith}
use lib.Dec.{lit<}
use lib.Arith.{digits_mod}
use lib.Pow.{pow_pos, pow_mono, pow-lt, pow-add, shr-shr, shl-shr}
use lib.Bits.{bit_and, bit_or, and_step, or_step, and_shr, or_shr}
use lib.Count.{count_trailing_zeros, count_leading_zeros, leading_of_zero, leading_top, under}
use Rattle.bits.specs.Table.{bit}

pub bit_lt : (n k : ℕ) → bit n k < 2
bit_lt n k = mod-lt (n / 2 ^ k) (lit< tt)

and_low : (a b : ℕ) → bit_and a b % 2 ≡ min (a % 2) (b % 2)
and_low a b = ap (λ (x : ℕ). x % 2) (and_step a b) ∙ digits_mod (bit_and (a / 2) (b / 2)) (omega arith)

or_low : (a b : ℕ) → bit_or a b % 2 ≡ max (a % 2) (b % 2)
or_low a b = ap (λ (x : ℕ). x % 2) (or_step a b) ∙ digits_mod (bit_or (a / 2) (b / 2)) (omega arith)

pub bit_of_and : (a b k : ℕ) → bit (bit_and a b) k ≡ min (bit a k) (bit b k)
bit_of_and a b k = ap (λ (x : ℕ). x % 2) (and_shr a b k) ∙ and_low (a / 2 ^ k) (b / 2 ^ k)

pub bit_of_or : (a b k : ℕ) → bit (bit_or a b) k ≡ max (bit a k) (bit b k)
bit_of_or a b k = ap (λ (x : ℕ). x % 2) (or_shr a b k) ∙ or_low (a / 2 ^ k) (b / 2 ^ k)

pub bit_half : (n k : ℕ) → bit n (suc k) ≡ bit (n / 2) k
bit_half n k = sym (ap (λ (x : ℕ). x % 2) (shr-shr n 1 k ∙ ap (λ (x : ℕ). n / 2 ^ x) (one-add k)))

-- a number below 2 ^ k has no bit k
pub bit_over : (n k : ℕ) → n < 2 ^ k → bit n k ≡ 0
bit_over n k h = ap (λ (x : ℕ). x % 2) (div-eq_of_lt h)

pub bit_zero : (k : ℕ) → bit 0 k ≡ 0
bit_zero k = bit_over 0 k (pow_pos k)

-- the complement of a number of w digits
pub bit_not : (w a k : ℕ) → a < 2 ^ w → k < w → bit (2 ^ w - 1 - a) k ≡ 1 - bit a k
bit_not zero a k h l = omega arith
bit_not (suc w) a zero h l = omega (arith, pow-suc 2 w)
bit_not (suc w) a (suc k) h l =
    let half : (2 ^ suc w - 1 - a) / 2 ≡ 2 ^ w - 1 - a / 2 = omega (arith, pow-suc 2 w) in
    bit_half (2 ^ suc w - 1 - a) k ∙ ap (λ (x : ℕ). bit x k) half ∙ bit_not w (a / 2) k (omega (arith, pow-suc 2 w)) (omega arith)
    ∙ ap (λ (x : ℕ). 1 - x) (sym (bit_half a k))

-- ---- the word 1 << j

bit_pow_same : (j : ℕ) → bit (2 ^ j) j ≡ 1
bit_pow_same j = ap (λ (x : ℕ). x / 2 ^ j % 2) (sym (one-mul (2 ^ j))) ∙ ap (λ (x : ℕ). x % 2) (shl-shr 1 j)

bit_pow_under : (k d : ℕ) → bit (2 ^ (suc d + k)) k ≡ 0
bit_pow_under k d =
    ap (λ (x : ℕ). x / 2 ^ k % 2) (pow-add 2 (suc d) k) ∙ ap (λ (x : ℕ). x % 2) (shl-shr (2 ^ suc d) k)
    ∙ ap (λ (x : ℕ). x % 2) (pow-suc 2 d) ∙ mul-mod_left (2 ^ d) 2

bit_pow_other : (j k : ℕ) → (k ≡ j → ⊥) → bit (2 ^ j) k ≡ 0
bit_pow_other j k h = go (dec_lt k j)
  where
    go : Dec (k < j) → bit (2 ^ j) k ≡ 0
    go (yes l) =
        let e : j ≡ suc (j - suc k) + k = omega arith in
        ap (λ (x : ℕ). bit (2 ^ x) k) e ∙ bit_pow_under k (j - suc k)
    go (no n) = bit_over (2 ^ j) k (pow-lt (omega arith))

shl_one : (j : ℕ) → j < 64 → 1 * 2 ^ j % 2 ^ 64 ≡ 2 ^ j
shl_one j h = ap (λ (x : ℕ). x % 2 ^ 64) (one-mul (2 ^ j)) ∙ mod-eq_of_lt (pow-lt h)

pub one_here : (j : ℕ) → j < 64 → bit (1 * 2 ^ j % 2 ^ 64) j ≡ 1
one_here j h = ap (λ (x : ℕ). bit x j) (shl_one j h) ∙ bit_pow_same j

pub one_other : (j k : ℕ) → j < 64 → (k ≡ j → ⊥) → bit (1 * 2 ^ j % 2 ^ 64) k ≡ 0
one_other j k h ne = ap (λ (x : ℕ). bit x k) (shl_one j h) ∙ bit_pow_other j k ne

-- ---- the lowest bit of the k lowest

pub trailing_below : (k n j : ℕ) → j < count_trailing_zeros k n → bit n j ≡ 0
unfolding count_trailing_zeros
trailing_below zero n j h = omega arith
trailing_below (suc k) n j h = go (λ i l. trailing_below k (n / 2) i l) (n % 2) refl j h
  where
    go : ((i : ℕ) → i < count_trailing_zeros k (n / 2) → bit (n / 2) i ≡ 0) → (d : ℕ) → n % 2 ≡ d
        → (i : ℕ) → i < under d (count_trailing_zeros k (n / 2)) → bit n i ≡ 0
    go ih zero e zero l = omega arith
    go ih zero e (suc i) l = bit_half n i ∙ ih i (omega arith)
    go ih (suc d) e i l = omega arith

pub trailing_at : (k n : ℕ) → count_trailing_zeros k n < k → bit n (count_trailing_zeros k n) ≡ 1
unfolding count_trailing_zeros
trailing_at zero n h = omega arith
trailing_at (suc k) n h = go (λ l. trailing_at k (n / 2) l) (n % 2) refl h
  where
    go : (count_trailing_zeros k (n / 2) < k → bit (n / 2) (count_trailing_zeros k (n / 2)) ≡ 1) → (d : ℕ) → n % 2 ≡ d
        → under d (count_trailing_zeros k (n / 2)) < suc k → bit n (under d (count_trailing_zeros k (n / 2))) ≡ 1
    go ih zero e l = bit_half n (count_trailing_zeros k (n / 2)) ∙ ih (omega arith)
    go ih (suc d) e l = omega arith

-- ---- the highest bit of the k lowest

pub leading_above : (k n j : ℕ) → n < 2 ^ k → k - count_leading_zeros k n ≤ j → bit n j ≡ 0
leading_above k zero j h l = bit_zero j
leading_above k (suc n) j h l =
    let t = leading_top k (suc n) (omega arith) h in
    bit_over (suc n) j (lt_of_lt_of_le t.3 (pow_mono {i = suc t.0} {j = j} (omega (arith, t.1))))

pub leading_at : (k n : ℕ) → n < 2 ^ k → 0 < k - count_leading_zeros k n → bit n (k - count_leading_zeros k n - 1) ≡ 1
leading_at k zero h l = omega (arith, leading_of_zero k)
leading_at k (suc n) h l =
    let t = leading_top k (suc n) (omega arith) h in
    let e : k - count_leading_zeros k (suc n) - 1 ≡ t.0 = omega (arith, t.1) in
    ap (bit (suc n)) e ∙ ap (λ (x : ℕ). x % 2) (one_there t.0 t.2 t.3)
  where
    one_there : (j : ℕ) → 2 ^ j ≤ suc n → suc n < 2 ^ suc j → suc n / 2 ^ j ≡ 1
    one_there j a b = div-eq-sub-div (pow_pos j) a ∙ ap (λ (x : ℕ). x + 1) (div-eq_of_lt (omega (arith, pow-suc 2 j)))
