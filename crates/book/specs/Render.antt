-- The bytes of a book: its commands, group after group, then 45 (document 01, "Deck book").
use Rattle.std.specs.Prelude.{ℕ, suc, List, [], ◌∷◌, ◌++◌, map}
use Rattle.buffer.specs.Each.{each}
use Rattle.theory.specs.Deck.{Step}
use Rattle.book.specs.Format.{Contents, Command, pair, run, step, cut, done, command_bytes}

-- runs and their steps; the first of the runs has number r
abbrev pub run_commands : ℕ → List (List Step) → List Command
run_commands r [] = []
run_commands r (xs ∷ rs) = run r ∷ (map step xs ++ run_commands (suc r) rs)

-- in document 01's order of groups
abbrev pub commands_of : Contents → List Command
commands_of c = map pair c.pairs ++ (run_commands 0 c.runs ++ (map cut c.cuts ++ map done c.history))

abbrev pub render : Contents → List ℕ
render c = each command_bytes (commands_of c) ++ 0x45 ∷ []
