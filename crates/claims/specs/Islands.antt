-- The islands of a book (document 02, change 8), of every answer that meets the calls' contracts, in Rattle and for C. Their refusals are demand 1's (Table).
use Rattle.std.specs.Prelude.{Result, Ok, ℕ, ◌≤◌, ◌<◌, ◌≡◌, ◌↔◌, List, length, get_or, take}
use Rattle.theory.specs.History.{count}
use Rattle.theory.specs.Components.{Joined, Connected}
use Rattle.theory.specs.Relative.{RelativelySerialOrder}
use Rattle.theory.specs.Graph.{Cycle}
use Rattle.book.specs.Format.{Bytes, Contents, accepted, read, with_history}
use Rattle.book.specs.Meaning.{conflict_of, unit_of}
use Rattle.book.specs.Render.{render}
use Rattle.book.specs.declared.Refusal.{Refusal}
use Rattle.judge.specs.Judged.{JudgeAnswer, verdict_of, count_of}
use Rattle.judge.specs.Judge.{BytesJudged}
use Rattle.judge.specs.declared.Verdict.TheVariants.{Passed, Tangled}
use Rattle.classes.specs.Tested.{Yes, Tested, TestedAs}
use Rattle.islands.specs.Islands.{IslandsListed, IslandHistory, IslandJudged}
use Rattle.islands.specs.declared.IslandList.{IslandList}
use Rattle.islands.specs.declared.IslandSteps.{IslandSteps}
use Rattle.capi.specs.Calls.{JudgeCall, IslandsCall, IslandHistoryCall, IslandJudgeCall}
use Rattle.capi.specs.declared.Judged.{Judged}
use Rattle.capi.specs.declared.ListedIslands.{ListedIslands}
use Rattle.capi.specs.declared.ListedSteps.{ListedSteps}
use Rattle.claims.specs.Classes.{WithLongBuffers, JudgeAnswered, DeckJudgeAnswered, SaysPassed}

-- ---- the islands partition the declared runs

-- of a book's contents, and of what the answer says: the number of runs, the smallest run of each one's island, the number of islands, their smallest runs
pub record Partition (c : Contents) (runs : ℕ) (smallest : List ℕ) (count : ℕ) (list : List ℕ) : Type 0 where
  pub runs_are : runs ≡ length c.runs
  -- 02: Every declared run belongs to one island
  pub belongs : (r : ℕ) → r < runs → (i : ℕ) × (i < count) × (get_or list i 0 ≡ get_or smallest r 0)
  pub to_one : (r i j : ℕ) → i < count → j < count → get_or list i 0 ≡ get_or smallest r 0 → get_or list j 0 ≡ get_or smallest r 0 → i ≡ j
  -- 02: an island is a set of runs linked by such joins and not linked to any other run
  pub linked : (r s : ℕ) → r < runs → s < runs → (get_or smallest r 0 ≡ get_or smallest s 0) ↔ Connected (Joined (conflict_of c) c.history) r s
  -- 02: alone if it is joined to none
  pub alone : (r : ℕ) → r < runs → ((s : ℕ) → ¬ Joined (conflict_of c) c.history r s) → (s : ℕ) → s < runs → get_or smallest s 0 ≡ get_or smallest r 0 → s ≡ r
  -- 02: lists the islands by their smallest run
  pub of_the_island : (r : ℕ) → r < runs → (get_or smallest r 0 < runs) × (get_or smallest (get_or smallest r 0) 0 ≡ get_or smallest r 0)
  pub the_smallest : (r s : ℕ) → r < runs → s < runs → get_or smallest r 0 ≡ get_or smallest s 0 → get_or smallest r 0 ≤ s
  pub listed : (i : ℕ) → i < count → (get_or list i 0 < runs) × (get_or smallest (get_or list i 0) 0 ≡ get_or list i 0)
  pub rising : (i j : ℕ) → i < j → j < count → get_or list i 0 < get_or list j 0

-- ---- an island as a book of its own

-- of the bytes s of contents c, and an island's history h as the calls tell it
pub record AsItsBook (s : List ℕ) (c : Contents) (m : ℕ) (h : List ℕ) : Type 0 where
  -- the book with that history, and the other commands of s, is an accepted book
  pub book_is : render c ≡ s
  pub bytes : Bytes (render (with_history c h))
  pub reads : read (render (with_history c h)) ≡ accepted (with_history c h)
  -- 02: judges each as the book with that history: a judgement of the island is one of that book, in every byte
  pub judged_as : (order order' cycle cycle' : List ℕ) (r : JudgeAnswer) → IslandJudged order order' cycle cycle' s m r → BytesJudged order order' cycle cycle' (render (with_history c h)) r
  pub deck_judged_as : (order order' cycle cycle' : List ℕ) (r : Judged) → IslandJudgeCall s m order order' cycle cycle' r → JudgeCall (render (with_history c h)) order order' cycle cycle' r
  -- its order and its cycle are evidence: the order check and the cycle check of that book say yes
  pub order_checked : (order order' cycle cycle' : List ℕ) (r : JudgeAnswer) → IslandJudged order order' cycle cycle' s m r → verdict_of r ≡ Ok Passed
      → (t : Tested) → TestedAs (λ d. RelativelySerialOrder (conflict_of d) (unit_of d) d.history (take (count_of r) order')) (render (with_history c h)) t → t ≡ Yes
  pub cycle_checked : (order order' cycle cycle' : List ℕ) (r : JudgeAnswer) → IslandJudged order order' cycle cycle' s m r → verdict_of r ≡ Ok Tangled
      → (t : Tested) → TestedAs (λ d. Cycle (conflict_of d) (unit_of d) d.history (take (count_of r) cycle')) (render (with_history c h)) t → t ≡ Yes

-- each run's done steps are in its island's history, and in no other's
pub record StepsOnce (c : Contents) (m : ℕ) (h : List ℕ) (smallest : List ℕ) : Type 0 where
  pub own_steps : (r : ℕ) → r < length c.runs → get_or smallest r 0 ≡ m → count h r ≡ count c.history r
  pub no_others : (r : ℕ) → r < length c.runs → ¬ (get_or smallest r 0 ≡ m) → count h r ≡ 0

-- ---- the whole and its islands

-- what a judgement of the island whose smallest run is m answers, with buffers as long as the judge asks; the same for C
abbrev pub IslandAnswered : List ℕ → ℕ → JudgeAnswer → Type 0
IslandAnswered s m j = WithLongBuffers (λ order order' cycle cycle'. IslandJudged order order' cycle cycle' s m j)

abbrev pub DeckIslandAnswered : List ℕ → ℕ → Judged → Type 0
DeckIslandAnswered s m r = WithLongBuffers (λ order order' cycle cycle'. IslandJudgeCall s m order order' cycle cycle' r)

-- ---- the claims

pub record IslandClaims : Type 0 where
  pub partition : (s : List ℕ) (c : Contents) → read s ≡ accepted c → (r : Result IslandList Refusal) → IslandsListed s r
      → (x : IslandList) × (r ≡ Ok x) × Partition c x.runs x.smallest x.count x.list
  pub deck_partition : (s : List ℕ) (c : Contents) → read s ≡ accepted c → (r : ListedIslands) → IslandsCall s r → Partition c r.runs r.smallest r.count r.list
  -- of each island that the list has, the history is told, and it is judged as the book with that history
  pub histories : (s : List ℕ) (c : Contents) → read s ≡ accepted c → (r : IslandList) → IslandsListed s (Ok r) → (i : ℕ) → i < r.count
      → (x : Result IslandSteps Refusal) → IslandHistory s (get_or r.list i 0) x → (y : IslandSteps) × (x ≡ Ok y) × StepsOnce c (get_or r.list i 0) (take y.count y.history) r.smallest
  pub books : (s : List ℕ) (c : Contents) → Bytes s → read s ≡ accepted c → (m : ℕ) (x : IslandSteps) → IslandHistory s m (Ok x) → AsItsBook s c m (take x.count x.history)
  pub deck_books : (s : List ℕ) (c : Contents) → Bytes s → read s ≡ accepted c → (m : ℕ) (x : ListedSteps) → IslandHistoryCall s m x → x.number ≡ 0
      → AsItsBook s c m (take x.count x.history)
  -- 02: The whole history is passed exactly when every island's is.
  pub whole : (s : List ℕ) (c : Contents) → Bytes s → read s ≡ accepted c → (r : IslandList) → IslandsListed s (Ok r) → (w : JudgeAnswer) → JudgeAnswered s w
      → (parts : ℕ → JudgeAnswer) → ((i : ℕ) → i < r.count → IslandAnswered s (get_or r.list i 0) (parts i))
      → (verdict_of w ≡ Ok Passed) ↔ ((i : ℕ) → i < r.count → verdict_of (parts i) ≡ Ok Passed)
  pub deck_whole : (s : List ℕ) (c : Contents) → Bytes s → read s ≡ accepted c → (r : ListedIslands) → IslandsCall s r → (w : Judged) → DeckJudgeAnswered s w
      → (parts : ℕ → Judged) → ((i : ℕ) → i < r.count → DeckIslandAnswered s (get_or r.list i 0) (parts i))
      → SaysPassed w ↔ ((i : ℕ) → i < r.count → SaysPassed (parts i))
