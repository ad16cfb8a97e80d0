-- The catalogues of the places read, one of their steps' first touches and one of the second: tables of bits in which the places stand by the touch's
-- position, by whether it homes, by their run, and by the kinds that are paired with the touch's, so that the steps that a touch conflicts with are found by
-- rows.
use Rattle.std.specs.Prelude.{ℕ, zero, suc, ◌+◌, ◌*◌, ◌/◌, ◌%◌, ◌≤◌, ◌<◌, ◌≡◌, cond, List, length, T, eqb}
use Rattle.bits.specs.Table.{row_bits, rows, bit_at}
use Rattle.theory.specs.History.{run, ordinal}
use Rattle.theory.specs.Deck.{Pair, Touch, Step, single, transfer, listed, step_of, home}
use Rattle.theory.specs.Transfers.{touch_of}
use Rattle.book.specs.Format.{kind_limit}

-- runs and the digits of a position are below this
abbrev pub base : ℕ
base = 16

-- whether a touch homes: 1 if it does, else 0
abbrev pub homes : Touch → ℕ
homes t = cond (eqb t.position home) 1 0

-- the parts of a touch x of run r: its position's four digits, the lowest first, its run, and whether it homes. There is no further part
abbrev pub part : ℕ → Touch → ℕ → ℕ
part r x zero = x.position % base
part r x (suc zero) = x.position / 16 % base
part r x (suc (suc zero)) = x.position / 256 % base
part r x (suc (suc (suc zero))) = x.position / 4096
part r x (suc (suc (suc (suc zero)))) = r
part r x (suc (suc (suc (suc (suc zero))))) = homes x
part r x (suc (suc (suc (suc (suc (suc k)))))) = base

-- the digits are the first parts; the numbers of the others, and how many parts there are
abbrev pub digit_parts : ℕ
digit_parts = 4

abbrev pub run_part : ℕ
run_part = 4

abbrev pub home_part : ℕ
home_part = 5

abbrev pub parts : ℕ
parts = 6

-- behind the rows of the parts there is one for each kind, from the first of these on
abbrev pub part_rows : ℕ
part_rows = parts * base

-- the step that is done at place p of h
abbrev pub done_step : List (List Step) → List ℕ → ℕ → Step
done_step runs h p = step_of runs (run h p) (ordinal h p)

-- which touches a catalogue has: the first of every step, or the second of every transfer
pub data Which : Type 0 where
  first_touches : Which
  second_touches : Which

-- the step has such a touch, and which it is; for a step that has none, any
abbrev pub HasTouch : Which → Step → Type 0
HasTouch first_touches x = Unit {0}
HasTouch second_touches (single t) = ⊥
HasTouch second_touches (transfer t u) = Unit {0}

abbrev pub second_of : Step → Touch
second_of (single t) = t
second_of (transfer t u) = u

abbrev pub touch_in : Which → Step → Touch
touch_in first_touches x = touch_of x
touch_in second_touches x = second_of x

-- the run under which the place of a step of run r stands: its own, or in the catalogue of second touches 0, so that one row has all places of transfers
abbrev pub run_in : Which → ℕ → ℕ
run_in first_touches r = r
run_in second_touches r = 0

-- row y of the parts has place p: row k * base + v has the places of h whose part k is v
pub record PartIs (w : Which) (runs : List (List Step)) (h : List ℕ) (p y : ℕ) : Type 0 where
  pub inside : p < length h
  pub has : HasTouch w (done_step runs h p)
  pub is : part (run_in w (run h p)) (touch_in w (done_step runs h p)) (y / base) ≡ y % base

-- the row of kind v has place p: the places of h whose kind is paired with v
pub record PairedWith (pairs : List Pair) (w : Which) (runs : List (List Step)) (h : List ℕ) (p v : ℕ) : Type 0 where
  pub inside : p < length h
  pub has : HasTouch w (done_step runs h p)
  pub paired : T (listed pairs (touch_in w (done_step runs h p)).kind v)

-- the catalogue is that of h
pub record Catalogued (pairs : List Pair) (w : Which) (runs : List (List Step)) (h catalogue : List ℕ) : Type 0 where
  pub sound : (p y : ℕ) → p < row_bits → y < part_rows → bit_at catalogue y p ≡ 1 → PartIs w runs h p y
  pub complete : (p y : ℕ) → p < row_bits → y < part_rows → PartIs w runs h p y → bit_at catalogue y p ≡ 1
  pub kinds_sound : (p v : ℕ) → p < row_bits → v < kind_limit → bit_at catalogue (part_rows + v) p ≡ 1 → PairedWith pairs w runs h p v
  pub kinds_complete : (p v : ℕ) → p < row_bits → v < kind_limit → PairedWith pairs w runs h p v → bit_at catalogue (part_rows + v) p ≡ 1
  -- the other rows mark nothing
  pub no_more : (p y : ℕ) → p < row_bits → part_rows + kind_limit ≤ y → y < rows → bit_at catalogue y p ≡ 0
