-- The walk back along the arcs, where no place is ready, and the cycle that it leaves in the buffer.
use Rattle.std.specs.Prelude.{ℕ, suc, ◌-◌, ◌≤◌, ◌<◌, ◌≡◌, ◌≢◌, List, get_or}
use Rattle.bits.specs.Table.{row_bits, bit_at}
use Rattle.buffer.specs.Put.{Put}
use Rattle.book.specs.Format.{step_limit}
use Rattle.turns.specs.Inner.Turns.{NoneReady, AllTaken}

-- an arc of the table, of places below n
pub record ArcIn (arc : List ℕ) (n x y : ℕ) : Type 0 where
  pub from : x < n
  pub to : y < n
  pub marked : bit_at arc y x ≡ 1

-- no place below n is ready, and some place is not taken
pub record Stuck (arc taken : List ℕ) (n : ℕ) : Type 0 where
  pub within : n ≤ step_limit
  pub none : NoneReady arc taken n
  pub sources : (x y : ℕ) → x < row_bits → y < n → bit_at arc y x ≡ 1 → x < n
  pub not_all : ¬ AllTaken taken n

-- the bytes put into the buffer are a cycle of the table's arcs, and count is how many
pub record CycleIn (arc : List ℕ) (n : ℕ) (cycle cycle' : List ℕ) (count : ℕ) : Type 0 where
  pub places : List ℕ
  pub least : 1 ≤ count
  pub most : count ≤ n
  pub distinct : (i j : ℕ) → i < j → j < count → get_or places i 0 ≢ get_or places j 0
  pub next : (i : ℕ) → suc i < count → ArcIn arc n (get_or places i 0) (get_or places (suc i) 0)
  pub back : ArcIn arc n (get_or places (count - 1) 0) (get_or places 0 0)
  pub written : Put places cycle cycle' count
