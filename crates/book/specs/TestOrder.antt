-- The order of a book's tests. Document 01: "Commands are read in turn, each tested for 2, 3, 4, 5, 7, 8, 9, 6, 10; then 11". Document 02, change 1:
-- 30, then 31, both where 8 was tested. The tests of 2 and 11 stand in `command_at` and `end_at`; those of a command, from 3 on, are its `command_tests`.
use Rattle.std.specs.Prelude.{ℕ, suc, ◌≤◌, ◌<◌, List, [], ◌∷◌, ◌++◌, length, eqb}
use Rattle.book.specs.Format.{pick, Command, Test, ReadState, command_tests}
use Rattle.book.specs.Numbers.{number}
use Rattle.book.specs.declared.Rules.{Rules}

abbrev pub test_order : List ℕ
test_order = 2 ∷ 3 ∷ 4 ∷ 5 ∷ 7 ∷ 8 ∷ 30 ∷ 31 ∷ 9 ∷ 6 ∷ 10 ∷ []

-- the numbers of a book's refusals: document 01's "1 to 11", and each later check of the reader
abbrev pub book_numbers : List ℕ
book_numbers = 1 ∷ test_order ++ 11 ∷ []

-- where a number stands in a list
abbrev pub index_of : ℕ → List ℕ → ℕ
index_of n [] = 0
index_of n (m ∷ ms) = pick (eqb m n) 0 (suc (index_of n ms))

-- where a number stands in the order; one that is not in it, behind all that are
abbrev pub rank : ℕ → ℕ
rank n = index_of n test_order

-- none of these tests comes before one that the order has earlier, and the last one's number is in the order; so all their numbers are
abbrev pub InOrder : List Test → Type 0
InOrder [] = Unit {0}
InOrder (t ∷ []) = rank (number t.cause) < length test_order
InOrder (t ∷ u ∷ us) = (rank (number t.cause) ≤ rank (number u.cause)) × InOrder (u ∷ us)

abbrev pub TestedInOrder : Type 0
TestedInOrder = (ρ : Rules) (s : List ℕ) (at : ℕ) (t : ReadState) (c : Command) → InOrder (command_tests ρ s at t c)
