-- The codes of steps: each step has one of its own, and each code below the limit is that of a step.
use Prim.Native.Nat.{ℕ, zero, suc, ◌+◌, ◌*◌, ◌/◌, ◌%◌, ◌<◌}
use mathlib.Core.Path.{◌≡◌, refl, ap, ◌∙◌}
use mathlib.Core.Bool.{◌&&◌}
use native.Mathlib.Omega.{arith}
use Rattle.theory.specs.Deck.{Touch, Step, single, transfer}
use lib.Dec.{ltb}
use Rattle.book.specs.Format.{kind_limit, position_limit, kinds_low}
use Rattle.book.specs.Book.{touch_limit, code_limit, touch_coded, step_with, step_coded, as_touch, as_step, touch_code, step_code}
use Rattle.book.specs.Inner.Room.{TouchLow, StepLow}
use Rattle.book.specs.declared.Touch.{Touch as TouchValue}
use Rattle.book.specs.declared.Step.{Step as StepValue}
use Rattle.book.specs.declared.Step.TheVariants.{Single, Transfer}

-- ---- from a step to its code and back

touch_back : (c : ℕ) (t : TouchValue) → c ≡ touch_code t → t.position < position_limit → touch_coded c ≡ as_touch t
touch_back c t e h = same (omega arith) (omega arith)
  where
    same : {k k' p p' : ℕ} → k ≡ k' → p ≡ p' → ◌≡◌ {A = Touch} (record { kind = k; position = p }) (record { kind = k'; position = p' })
    same e f = rw (e, f)

touch_low : (t : TouchValue) → TouchLow (as_touch t) → touch_code t < touch_limit
touch_low t l = omega (arith, l.kind, l.position)

pub coded_back : (x : StepValue) → StepLow (as_step x) → step_coded (step_code x) ≡ as_step x
coded_back (Single t) l =
    let q : touch_code t / touch_limit ≡ 0 = omega (arith, touch_low t l) in
    let m : touch_code t % touch_limit ≡ touch_code t = omega (arith, touch_low t l) in
    rw (q, m) (ap single (touch_back (touch_code t) t refl l.position))
coded_back (Transfer t u) l =
    let q : ((touch_code u + 1) * touch_limit + touch_code t) / touch_limit ≡ suc (touch_code u) = quotient (touch_code u) (touch_code t) (touch_low t l.0) in
    let m : ((touch_code u + 1) * touch_limit + touch_code t) % touch_limit ≡ touch_code t = remainder (touch_code u) (touch_code t) (touch_low t l.0) in
    rw (q, m) (both (touch_back (touch_code t) t refl l.0.position) (touch_back (touch_code u) u refl l.1.position))
  where
    quotient : (c d : ℕ) → d < touch_limit → ((c + 1) * touch_limit + d) / touch_limit ≡ suc c
    quotient c d h = omega arith

    remainder : (c d : ℕ) → d < touch_limit → ((c + 1) * touch_limit + d) % touch_limit ≡ d
    remainder c d h = omega arith

    both : {t t' u u' : Touch} → t ≡ t' → u ≡ u' → transfer t u ≡ transfer t' u'
    both e f = rw (e, f)

pub code_low : (x : StepValue) → StepLow (as_step x) → step_code x < code_limit
code_low (Single t) l = omega (arith, touch_low t l)
code_low (Transfer t u) l = omega (arith, touch_low t l.0, touch_low u l.1)

-- ---- from a code to its step and back

abbrev pub code_of_touch : Touch → ℕ
code_of_touch t = t.kind * position_limit + t.position

abbrev pub code_of_step : Step → ℕ
code_of_step (single t) = code_of_touch t
code_of_step (transfer t u) = (code_of_touch u + 1) * touch_limit + code_of_touch t

pub code_back : (c : ℕ) → code_of_step (step_coded c) ≡ c
code_back c = go (c / touch_limit) refl
  where
    touch : (c : ℕ) → code_of_touch (touch_coded c) ≡ c
    touch c = omega arith

    go : (q : ℕ) → c / touch_limit ≡ q → code_of_step (step_with (touch_coded (c % touch_limit)) q) ≡ c
    go zero e = touch (c % touch_limit) ∙ omega arith
    go (suc q) e = omega (arith, touch q, touch (c % touch_limit))

-- whether the kinds of a step are below their limit
pub single_kinds : (x : StepValue) (t : TouchValue) (n : ℕ) → x ≡ Single t → n ≡ t.kind → ltb n kind_limit ≡ kinds_low (as_step x)
single_kinds x t n e h = rw (e, h)

pub transfer_kinds : (x : StepValue) (t u : TouchValue) (n m : ℕ) → x ≡ Transfer t u → n ≡ t.kind → m ≡ u.kind → (ltb n kind_limit && ltb m kind_limit) ≡ kinds_low (as_step x)
transfer_kinds x t u n m e h k = rw (e, h, k)
