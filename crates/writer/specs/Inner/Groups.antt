-- The bytes of each group's tables, and what the functions that put them ask for. No part of the statement of `write`.
use Rattle.std.specs.Prelude.{ℕ, ◌+◌, ◌*◌, ◌≤◌, ◌<◌, ◌≡◌, List, [], map, length, get_or, take, drop, eqb}
use Rattle.buffer.specs.Each.{each}
use Rattle.theory.specs.Deck.{Step}
use Rattle.theory.specs.Lists.{sum}
use Rattle.book.specs.Format.{run_limit, pick, Contents, contents, Command, pair, step, cut, done, command_bytes}
use Rattle.book.specs.Render.{run_commands}
use Rattle.book.specs.Book.{pairs_size, cuts_size, code_limit, pair_of, cut_of, step_coded, flagged, runs_of_lengths, pairs_of, cuts_of}

abbrev pub bytes_of : List Command → List ℕ
bytes_of = each command_bytes

-- the bytes of an index of a table of flags: none where its flag x is 0
unfoldable pub flag_bytes : ℕ → Command → List ℕ
flag_bytes x c = pick (eqb x 0) [] (command_bytes c)

-- the commands of a table of pairs, of cuts, and of codes
abbrev pub pair_commands : List ℕ → List Command
pair_commands ps = map pair (pairs_of ps)

abbrev pub cut_commands : List ℕ → List Command
cut_commands cs = map cut (cuts_of cs)

-- of a part of a table of cuts, of which the first flag is at index i
abbrev pub cut_commands_from : ℕ → List ℕ → List Command
cut_commands_from i cs = map cut (map cut_of (flagged i cs))

abbrev pub step_commands : List ℕ → List Command
step_commands ss = map step (map step_coded ss)

-- ---- the commands one by one, at index k

abbrev pub pair_piece : List ℕ → ℕ → List ℕ
pair_piece ps k = flag_bytes (get_or ps k 0) (pair (pair_of k))

-- of which the first flag is at index i
abbrev pub cut_piece : ℕ → List ℕ → ℕ → List ℕ
cut_piece i cs k = flag_bytes (get_or cs k 0) (cut (cut_of (i + k)))

-- block k of a table in blocks of w flags
abbrev pub block : ℕ → List ℕ → ℕ → List ℕ
block w cs k = take w (drop (k * w) cs)

abbrev pub block_piece : ℕ → List ℕ → ℕ → List ℕ
block_piece w cs k = bytes_of (cut_commands_from (k * w) (block w cs k))

-- how many flags the writer's blocks have
abbrev pub block_size : ℕ
block_size = 8 * run_limit

abbrev pub step_piece : List ℕ → ℕ → List ℕ
step_piece ss k = command_bytes (step (step_coded (get_or ss k 0)))

abbrev pub done_piece : List ℕ → ℕ → List ℕ
done_piece h k = command_bytes (done (get_or h k 0))

-- ---- runs and contents

-- d runs of these lengths, divided off the steps of these codes
abbrev pub runs_divided : ℕ → List ℕ → List ℕ → List (List Step)
runs_divided d ls ss = runs_of_lengths (take d ls) (map step_coded ss)

-- what the tables and their counts stand for
abbrev pub table_contents : List ℕ → ℕ → List ℕ → List ℕ → List ℕ → ℕ → List ℕ → Contents
table_contents ps d ls ss cs k h = contents (pairs_of ps) (runs_divided d ls ss) (cuts_of cs) (take k h)

-- ---- what the tables hold

-- codes of steps
pub record Codes (ss : List ℕ) : Type 0 where
  pub small : (i : ℕ) → get_or ss i 0 < code_limit

-- d runs, and their steps
pub record RunsHeld (d : ℕ) (ls ss : List ℕ) : Type 0 where
  pub few : d ≤ run_limit
  pub lengths : d ≤ length ls
  pub codes : Codes ss
  pub steps : sum (take d ls) ≤ length ss

-- a book, and n bytes have room for every group and the end
pub record BookHeld (ps : List ℕ) (d : ℕ) (ls ss cs : List ℕ) (k : ℕ) (h : List ℕ) (n : ℕ) : Type 0 where
  pub pairs : length ps ≤ pairs_size
  pub runs : RunsHeld d ls ss
  pub cuts : length cs ≡ cuts_size
  pub history : k ≤ length h
  pub room : length (bytes_of (pair_commands ps)) + length (bytes_of (run_commands 0 (runs_divided d ls ss))) + length (bytes_of (cut_commands cs)) + length (bytes_of (map done (take k h))) + 1 ≤ n
