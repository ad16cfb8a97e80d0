-- Document 01's table, "When something is turned away", with document 02's change 7: the refusals of calls. The book's own rows are table BookTable.
-- 24 and 25, the replay's, 26, the gate's on a record that is not sound, and 27, for a run that is no island's smallest, follow document 01's rule for refusals
-- added later.
use Rattle.std.specs.Prelude.{ℕ, suc, ◌≤◌, ◌<◌, ◌≡◌, ◌≢◌, List, [], ◌∷◌, ◌++◌, length, get_or}
use Rattle.theory.specs.History.{count}
use Rattle.theory.specs.Relative.{RelativelySerializable}
use Rattle.theory.specs.Components.{Joined, Connected}
use Rattle.book.specs.Format.{Contents, accepted, read, lengths}
use Rattle.book.specs.Meaning.{conflict_of, unit_of}
use Rattle.plain.specs.Plain.{Call, step as step_call, withdraw as withdraw_call, take_back as take_back_call, In, Eligible}
use Rattle.gate.specs.Gate.{book_of, state_of, Sound}
use Rattle.gate.specs.declared.Gate.{Gate}
use Rattle.table.specs.BookTable.{most_steps, BookRow, NoRow}

-- ---- 12, 13, 20 to 27 and 32: a call's refusal, number and place; where the table says "number only" the place is 0

-- the judge: 12 comes first, then the book's
pub data JudgeRow (s order cycle : List ℕ) : ℕ → ℕ → Type 0 where
  -- 12: order or cycle buffer under so many bytes as a book may have steps
  order_short : length order < most_steps → JudgeRow s order cycle 12 0
  cycle_short : length cycle < most_steps → JudgeRow s order cycle 12 0
  judged_book : {n place : ℕ} → most_steps ≤ length order → most_steps ≤ length cycle → BookRow s n place → JudgeRow s order cycle n place

-- the writer: the book's come first, then 13
pub data WriterRow (s out : List ℕ) : ℕ → ℕ → Type 0 where
  written_book : {n place : ℕ} → BookRow s n place → WriterRow s out n place
  -- 13: the buffer shorter than the book
  shorter_than_the_book : NoRow s → length out < length s → WriterRow s out 13 0

-- an island's history: the book's come first, then 27
pub data IslandRow (s : List ℕ) (m : ℕ) : ℕ → ℕ → Type 0 where
  divided_book : {n place : ℕ} → BookRow s n place → IslandRow s m n place
  -- 27: m is no island's smallest run: it is not declared,
  no_run : (c : Contents) → read s ≡ accepted c → length c.runs ≤ m → IslandRow s m 27 0
  -- or a smaller run is in its island
  smaller_run : (c : Contents) → read s ≡ accepted c → (k : ℕ) → k < m → Connected (Joined (conflict_of c) c.history) m k → IslandRow s m 27 0

-- an island judged: 12 comes first, then these
pub data IslandJudgeRow (s : List ℕ) (m : ℕ) (order cycle : List ℕ) : ℕ → ℕ → Type 0 where
  -- 12: order or cycle buffer under so many bytes as a book may have steps
  island_order_short : (short : length order < most_steps) → IslandJudgeRow s m order cycle 12 0
  island_cycle_short : (short : length cycle < most_steps) → IslandJudgeRow s m order cycle 12 0
  judged_island : {n place : ℕ} → most_steps ≤ length order → most_steps ≤ length cycle → IslandRow s m n place → IslandJudgeRow s m order cycle n place

-- the run that a call is for
abbrev pub run_called : Call → ℕ
run_called (step_call r) = r
run_called (withdraw_call r) = r
run_called (take_back_call r) = r

-- the call steps or withdraws run r
pub data StepsOrWithdraws (r : ℕ) : Call → Type 0 where
  is_step : StepsOrWithdraws r (step_call r)
  is_withdrawal : StepsOrWithdraws r (withdraw_call r)

-- step, withdraw and take back on a record: 26 comes first, then 20; then for a step or a withdrawal 21, 22 and, for a step, 23; for a take-back 32
pub data GateRow (g : Gate) : Call → ℕ → ℕ → Type 0 where
  -- 20: run not declared
  row_20 : {x : Call} → Sound g → length (book_of g).runs ≤ run_called x → GateRow g x 20 0
  -- 21: run withdrawn
  row_21 : {x : Call} {r : ℕ} → Sound g → StepsOrWithdraws r x → r < length (book_of g).runs → In r (state_of g).withdrawn → GateRow g x 21 0
  -- 22: all steps of the run kept
  row_22 : {x : Call} {r : ℕ} → Sound g → StepsOrWithdraws r x → r < length (book_of g).runs → ¬ In r (state_of g).withdrawn
      → get_or (lengths (book_of g).runs) r 0 ≤ count (state_of g).kept r → GateRow g x 22 0
  -- 23: tangled
  row_23 : {r : ℕ} → Sound g → Eligible (book_of g) (state_of g) r
      → ¬ RelativelySerializable (conflict_of (book_of g)) (unit_of (book_of g)) ((state_of g).kept ++ r ∷ []) → GateRow g (step_call r) 23 0
  -- 32: run taken back already
  row_32 : {r : ℕ} → Sound g → r < length (book_of g).runs → In r (state_of g).taken_back → GateRow g (take_back_call r) 32 0
  -- 26: a table of the record out of range, or not in agreement with another
  row_26 : {x : Call} → ¬ Sound g → GateRow g x 26 0

-- the first call of the list that is none, or is cut off, stands at the offset; a call is two bytes, 53 r, 57 r or 54 r
pub data NoCallAt : List ℕ → ℕ → Type 0 where
  cut_off : {o : ℕ} → NoCallAt (o ∷ []) 0
  none_of_them : {o r : ℕ} {bs : List ℕ} → o ≢ 0x53 → o ≢ 0x57 → o ≢ 0x54 → NoCallAt (o ∷ r ∷ bs) 0
  behind_53 : {r at : ℕ} {bs : List ℕ} → NoCallAt bs at → NoCallAt (0x53 ∷ r ∷ bs) (suc (suc at))
  behind_57 : {r at : ℕ} {bs : List ℕ} → NoCallAt bs at → NoCallAt (0x57 ∷ r ∷ bs) (suc (suc at))
  behind_54 : {r at : ℕ} {bs : List ℕ} → NoCallAt bs at → NoCallAt (0x54 ∷ r ∷ bs) (suc (suc at))

-- the replay of a list of calls: the book's come first, then 24, then 25
pub data ReplayRow (s calls answers : List ℕ) : ℕ → ℕ → Type 0 where
  replayed_book : {n place : ℕ} → BookRow s n place → ReplayRow s calls answers n place
  -- 24: no call, or a cut-off one; its offset in the list
  no_call : {at : ℕ} → NoRow s → NoCallAt calls at → ReplayRow s calls answers 24 at
  -- 25: the buffer of answers under two bytes a call: shorter than the list
  answers_short : NoRow s → ((at : ℕ) → ¬ NoCallAt calls at) → length answers < length calls → ReplayRow s calls answers 25 0
