-- A step case by case, as the functions over steps find it: single, or a transfer.
use Prim.Native.Nat.{ℕ, ◌<◌}
use mathlib.Core.Path.{◌≡◌, refl}
use mathlib.Core.Bool.{Bool, true, false, ◌&&◌}
use mathlib.Core.List.{List}
use borrow.Author.Tests.{ltb-true, lt-ltb}
use lib.Dec.{ltb}
use Rattle.bits.specs.Table.{bit_at, union, Replaced}
use Rattle.theory.specs.Answers.{Answers}
use Rattle.theory.specs.Deck.{Touch, Step, single, transfer}
use Rattle.theory.specs.Transfers.{TouchOf, only, first, second}
use Rattle.book.specs.Format.{kind_limit, kinds_low}
use Rattle.book.specs.Book.{as_touch, as_step}
use Rattle.book.specs.declared.Touch.{Touch as TouchValue}
use Rattle.book.specs.declared.Step.{Step as StepValue}
use Rattle.book.specs.declared.Step.TheVariants.{Single, Transfer}
use Rattle.dependence.specs.Dependence.{KindsLow}
use Rattle.dependence.specs.Inner.Reading.{StepFinds, ConflictsWith}
use Rattle.dependence.proofs.Catalogue.{transfer_finds}

first_true : (a b : Bool) → (a && b) ≡ true → a ≡ true
first_true true b h = refl
first_true false b h = h

second_true : (a b : Bool) → (a && b) ≡ true → b ≡ true
second_true true b h = h
second_true false true h = refl
second_true false false h = h

-- the test of the kinds
pub kinds_answer : (x : Step) → Answers (KindsLow x) (kinds_low x)
kinds_answer x = record { sound = λ e. record { low = λ u o. sound o e }; complete = λ k. complete x k }
  where
    sound : {x : Step} {u : Touch} → TouchOf x u → kinds_low x ≡ true → u.kind < kind_limit
    sound (only {t}) e = ltb-true t.kind kind_limit e
    sound (first {t} {u}) e = ltb-true t.kind kind_limit (first_true (ltb t.kind kind_limit) (ltb u.kind kind_limit) e)
    sound (second {t} {u}) e = ltb-true u.kind kind_limit (second_true (ltb t.kind kind_limit) (ltb u.kind kind_limit) e)

    complete : (x : Step) → KindsLow x → kinds_low x ≡ true
    complete (single t) k = lt-ltb t.kind kind_limit (k.low t only)
    complete (transfer t u) k = rw (lt-ltb t.kind kind_limit (k.low t first), lt-ltb u.kind kind_limit (k.low u second))

module _ (x : StepValue) (t : TouchValue) (e : x ≡ Single t) where
  pub single_low : KindsLow (as_step x) → t.kind < kind_limit
  single_low k = let k' : KindsLow (single (as_touch t)) = rw e at k in k'.low (as_touch t) only

module _ (x : StepValue) (t u : TouchValue) (e : x ≡ Transfer t u) where
  pub first_low : KindsLow (as_step x) → t.kind < kind_limit
  first_low k = let k' : KindsLow (transfer (as_touch t) (as_touch u)) = rw e at k in k'.low (as_touch t) first

  pub second_low : KindsLow (as_step x) → u.kind < kind_limit
  second_low k = let k' : KindsLow (transfer (as_touch t) (as_touch u)) = rw e at k in k'.low (as_touch u) second

  pub both_find : (s v m n o : List ℕ) → StepFinds (ConflictsWith (single (as_touch t))) s v m → StepFinds (ConflictsWith (single (as_touch u))) s v n
      → Replaced m o 0 (union (bit_at m 0) (bit_at n 0)) → StepFinds (ConflictsWith (as_step x)) s v o
  both_find s v m n o f g r = rw e (transfer_finds s v m n o (as_touch t) (as_touch u) f g r)
