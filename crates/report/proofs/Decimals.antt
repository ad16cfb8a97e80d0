-- The decimal digits of a number: all but the last are those of its tenth; their number; their value.
use Prim.Native.Nat.{ℕ, zero, suc, ◌+◌, ◌-◌, ◌*◌, ◌/◌, ◌%◌, ◌^◌, ◌≤◌, ◌<◌, zero-le, suc-le-suc}
use mathlib.Core.Path.{◌≡◌, refl, sym, ap, ◌∙◌}
use mathlib.Core.Logic.{◌⊎◌, inl, inr, ⊎_elim}
use mathlib.Core.Bool.{Bool, true, false}
use mathlib.Core.List.{List, [], ◌∷◌, ◌++◌}
use native.Mathlib.Nat.{not-suc-le-zero}
use native.Mathlib.Omega.{arith}
use lib.ListN.{length, get_or, length-append, get_or-append}
use lib.Dec.{ltb}
use borrow.Author.Tests.{ltb-true, ltb-false, lt-ltb, le-ltb}
use mir.Val.{Fits}
use mir.Syntax.{w64}
use Rattle.report.specs.Letters.{digit}
use Rattle.report.specs.Text.{digits, decimal}
use Rattle.report.specs.Inner.Widths.{number_digits, number_limit, place_digits}

-- ---- one digit more

one_or_more : (x : ℕ) → (x < 10) ⊎ (10 ≤ x)
one_or_more x = by x (ltb x 10) refl
  where
    by : (x : ℕ) (b : Bool) → ltb x 10 ≡ b → (x < 10) ⊎ (10 ≤ x)
    by x true e = inl (ltb-true x 10 e)
    by x false e = inr (ltb-false x 10 e)

digits_small : (k x : ℕ) → x < 10 → digits (suc k) x ≡ digit x ∷ []
digits_small k x h = rw (lt-ltb x 10 h)

digits_large : (k x : ℕ) → 10 ≤ x → digits (suc k) x ≡ digits k (x / 10) ++ digit (x % 10) ∷ []
digits_large k x h = rw (le-ltb x 10 h)

tenth : (x : ℕ) → 10 ≤ x → x / 10 < x
tenth x h = omega arith

-- more digits than there are change nothing
digits_enough : (j k x : ℕ) → x < j → x < k → digits j x ≡ digits k x
digits_enough zero k x a b = absurd (not-suc-le-zero a)
digits_enough (suc j) zero x a b = absurd (not-suc-le-zero b)
digits_enough (suc j) (suc k) x a b = ⊎_elim
    (λ h. digits_small j x h ∙ sym (digits_small k x h))
    (λ h.
    let t : x / 10 < x = tenth x h in
    digits_large j x h ∙ ap (λ (l : List ℕ). l ++ digit (x % 10) ∷ []) (digits_enough j k (x / 10) (omega arith) (omega arith)) ∙ sym (digits_large k x h))
    (one_or_more x)

pub decimal_small : (x : ℕ) → x < 10 → decimal x ≡ digit x ∷ []
unfolding decimal
decimal_small x h = digits_small x x h

pub decimal_large : (x : ℕ) → 10 ≤ x → decimal x ≡ decimal (x / 10) ++ digit (x % 10) ∷ []
unfolding decimal
decimal_large x h =
    let t : x / 10 < x = tenth x h in
    digits_large x x h ∙ ap (λ (l : List ℕ). l ++ digit (x % 10) ∷ []) (digits_enough x (suc (x / 10)) (x / 10) t (omega arith))

-- ---- how many there are

pub decimal_longer : (x : ℕ) → 10 ≤ x → length (decimal x) ≡ length (decimal (x / 10)) + 1
decimal_longer x h = rw (decimal_large x h, length-append)

pub decimal_some : (x : ℕ) → 1 ≤ length (decimal x)
decimal_some x = ⊎_elim (λ h. rw (decimal_small x h) (suc-le-suc zero-le)) (λ h. omega (arith, decimal_longer x h)) (one_or_more x)

-- a number below the (k+1)-th power of ten has at most k + 1 digits
decimal_length : (k x : ℕ) → x < 10 ^ suc k → length (decimal x) ≤ suc k
decimal_length zero x b = rw (decimal_small x (omega arith)) (suc-le-suc zero-le)
decimal_length (suc k) x b = ⊎_elim
    (λ h. rw (decimal_small x h) (suc-le-suc zero-le))
    (λ h.
    let t : x / 10 < 10 ^ suc k = omega arith in
    omega (arith, decimal_longer x h, decimal_length k (x / 10) t))
    (one_or_more x)

pub decimal_few : (x : ℕ) → x < number_limit → length (decimal x) ≤ number_digits
decimal_few x h = decimal_length 2 x h

pub decimal_any : (x : ℕ) → Fits w64 x → length (decimal x) ≤ place_digits
decimal_any x h = decimal_length 19 x (omega arith)

-- ---- base ten without leading zeros: read back, the digits give the number; the first is 0 of the number 0 only; each is 0 to 9

-- the number that digits say, behind others that said v
abbrev pub value_of : ℕ → List ℕ → ℕ
value_of v [] = v
value_of v (d ∷ ds) = value_of (v * 10 + (d - digit 0)) ds

value_append : (v : ℕ) (ds : List ℕ) (x : ℕ) → value_of v (ds ++ digit x ∷ []) ≡ value_of v ds * 10 + x
value_append v [] x = omega arith
value_append v (d ∷ ds) x = value_append (v * 10 + (d - digit 0)) ds x

-- what holds of a number below ten, and of any other if of its tenth, holds of every number
by_tenths : (P : ℕ → Type 0) → ((x : ℕ) → x < 10 → P x) → ((x : ℕ) → 10 ≤ x → P (x / 10) → P x) → (x : ℕ) → P x
by_tenths P small large x = below (suc x) x (omega arith)
  where
    below : (k x : ℕ) → x < k → P x
    below zero x h = absurd (not-suc-le-zero h)
    below (suc k) x h = ⊎_elim (small x) (λ l. large x l (below k (x / 10) (omega (arith, tenth x l)))) (one_or_more x)

pub decimal_value : (x : ℕ) → value_of 0 (decimal x) ≡ x
decimal_value = by_tenths
    (λ x. value_of 0 (decimal x) ≡ x)
    (λ x h. rw (decimal_small x h) (omega arith))
    (λ x h e. rw (decimal_large x h, value_append 0 (decimal (x / 10)) (x % 10), e) (omega arith))

pub decimal_first : (x : ℕ) → get_or (decimal x) 0 0 ≡ digit 0 → x ≡ 0
decimal_first = by_tenths
    (λ x. get_or (decimal x) 0 0 ≡ digit 0 → x ≡ 0)
    (λ x h e. omega (arith, rw (decimal_small x h) at e))
    (λ x h f e.
    let first : get_or (decimal (x / 10)) 0 0 ≡ digit 0 = sym (get_or-append (decimal (x / 10)) _ 0 0 (decimal_some (x / 10))) ∙ ap (λ (l : List ℕ). get_or l 0 0) (sym (decimal_large x h)) ∙ e in
    absurd (omega (arith, f first)))

abbrev pub Digits : List ℕ → Type 0
Digits [] = Unit {0}
Digits (d ∷ ds) = (digit 0 ≤ d) × (d ≤ digit 9) × Digits ds

digits_append : (ds : List ℕ) (x : ℕ) → Digits ds → x < 10 → Digits (ds ++ digit x ∷ [])
digits_append [] x w h = (omega arith, omega arith, tt)
digits_append (d ∷ ds) x w h = (w.0, w.1, digits_append ds x w.2 h)

pub decimal_digits : (x : ℕ) → Digits (decimal x)
decimal_digits = by_tenths
    (λ x. Digits (decimal x))
    (λ x h. rw (decimal_small x h) (digits_append [] x tt h))
    (λ x h w. rw (decimal_large x h) (digits_append (decimal (x / 10)) (x % 10) w (omega arith)))
