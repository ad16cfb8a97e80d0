-- The bytes of each group, piece by piece, as its loop puts them: an index or a block of a table of flags, an element of a table, or a run at a time.
use mathlib.Core.Path.{◌≡◌, refl, ap, ap₂, ◌∙◌}
use mathlib.Core.List.{List, [], ◌∷◌, ◌++◌, map, append-nil, append_assoc}
use mathlib.Core.Bool.{Bool, true, false}
use Prim.Native.Nat.{ℕ, zero, suc, ◌+◌, ◌-◌, ◌*◌, ◌≤◌, ◌<◌, zero-le}
use native.Mathlib.Decide.{dec_le}
use native.Mathlib.Omega.{arith}
use borrow.Author.Tests.{eq-eqb, ne_eqb}
use lib.ListN.{length, get_or, take, drop, length-take, length-drop, get_or-eq_default}
use lib.Seq.{take-suc, length-take-le, get_or-take, get_or-drop}
use lib.Dec.{eqb}
use Rattle.buffer.specs.Put.{Put}
use Rattle.buffer.specs.Each.{each}
use Rattle.buffer.proofs.PutLaws.{none}
use Rattle.buffer.proofs.EachLaws.{each_append, each_map}
use Rattle.buffer.specs.Parts.{parts}
use Rattle.buffer.proofs.InTurn.{parts_equal, parts_cons, each_parts}
use Rattle.theory.specs.Deck.{Step}
use Rattle.theory.proofs.Lists.{sum_take, sum_take_mono}
use Rattle.theory.specs.Lists.{sum}
use Rattle.book.specs.Format.{pick, Command, pair, run, step, cut, done, command_bytes, width}
use Rattle.book.specs.Render.{run_commands}
use Rattle.book.specs.Book.{code_limit, pair_of, cut_of, step_coded, flagged, runs_of_lengths}
use Rattle.book.proofs.Groups.{runs_snoc}
use Rattle.book.proofs.RenderLaws.{run_commands_append}
use Rattle.valid.specs.Inner.Tables.{Largest}
use Rattle.writer.specs.Inner.Groups.{bytes_of, flag_bytes, pair_commands, cut_commands, cut_commands_from, step_commands, pair_piece, cut_piece, block, block_piece, step_piece, done_piece, runs_divided, Codes, RunsHeld}

-- the bytes of commands that a table's elements stand for
commands_each : {A : Type 0} (g : A → Command) (f : ℕ → A) (xs : List ℕ) → bytes_of (map g (map f xs)) ≡ each (λ i. command_bytes (g (f i))) xs
commands_each g f xs = each_map command_bytes g (map f xs) ∙ each_map (λ x. command_bytes (g x)) f xs

-- ---- tables of flags

-- the bytes of an index
module _ (x : ℕ) (c : Command) where
  pub flag_clear : (l : List ℕ) → x ≡ 0 → Put (flag_bytes x c) l l 0
  unfolding flag_bytes
  flag_clear l e = rw (eq-eqb x 0 e) (none l)

  pub flag_room : (n : ℕ) → (x ≡ 0 → ⊥) → length (flag_bytes x c) ≤ n → width c ≤ n
  unfolding flag_bytes
  flag_room n f h = rw (ne_eqb x 0 f) at h

  pub flag_put : (before after : List ℕ) (r : ℕ) → (x ≡ 0 → ⊥) → Put (command_bytes c) before after r → Put (flag_bytes x c) before after r
  unfolding flag_bytes
  flag_put before after r f p = rw (ne_eqb x 0 f) p

-- f is the command of an index
module _ (f : ℕ → Command) where
  abbrev pub flag_piece : List ℕ → ℕ → List ℕ
  flag_piece xs k = flag_bytes (get_or xs k 0) (f k)

  flagged_head : (b : Bool) (i : ℕ) (l : List ℕ) → each (λ i. command_bytes (f i)) (pick b l (i ∷ l)) ≡ pick b [] (command_bytes (f i)) ++ each (λ i. command_bytes (f i)) l
  flagged_head true i l = refl
  flagged_head false i l = refl

  flagged_from : (xs : List ℕ) (i : ℕ) → each (λ i. command_bytes (f i)) (flagged i xs) ≡ parts (λ k. flag_bytes (get_or xs k 0) (f (i + k))) (length xs)
  unfolding flag_bytes
  flagged_from [] i = refl
  flagged_from (x ∷ xs) i =
      flagged_head (eqb x 0) i (flagged (suc i) xs)
      ∙ rw (parts_cons (λ k. flag_bytes (get_or (x ∷ xs) k 0) (f (i + k))) (length xs), flagged_from xs (suc i))
      (ap₂ (λ (a b : List ℕ). a ++ b) (ap (λ (j : ℕ). flag_bytes x (f j)) (omega arith))
      (parts_equal _ _ (length xs) (λ k _. ap (λ (j : ℕ). flag_bytes (get_or xs k 0) (f j)) (omega arith))))

  flagged_pieces : (xs : List ℕ) → each (λ i. command_bytes (f i)) (flagged 0 xs) ≡ parts (flag_piece xs) (length xs)
  flagged_pieces xs = flagged_from xs 0 ∙ parts_equal _ _ (length xs) (λ k _. ap (λ (j : ℕ). flag_bytes (get_or xs k 0) (f j)) (omega arith))

pub pair_pieces : (ps : List ℕ) → bytes_of (pair_commands ps) ≡ parts (pair_piece ps) (length ps)
pair_pieces ps = commands_each pair pair_of (flagged 0 ps) ∙ flagged_pieces (λ i. pair (pair_of i)) ps

-- ---- cuts, of which the first flag is at index first of the table

pub cut_pieces : (first : ℕ) (cs : List ℕ) → bytes_of (cut_commands_from first cs) ≡ parts (cut_piece first cs) (length cs)
cut_pieces first cs = commands_each cut cut_of (flagged first cs) ∙ flagged_from (λ i. cut (cut_of i)) cs first

-- where no flag is set
parts_empty : (f : ℕ → List ℕ) (n : ℕ) → ((k : ℕ) → f k ≡ []) → parts f n ≡ []
parts_empty f zero e = refl
parts_empty f (suc n) e = rw (parts_empty f n e, e n)

pub none_put : (first : ℕ) (cs l : List ℕ) (m : ℕ) → Largest cs 0 m → m ≡ 0 → Put (bytes_of (cut_commands_from first cs)) l l 0
unfolding flag_bytes
none_put first cs l m z e =
    rw (cut_pieces first cs, parts_empty (cut_piece first cs) (length cs) (λ k. rw (eq-eqb (get_or cs k 0) 0 (omega (arith, z.above k zero-le))))) (none l)

parts_append : (f : ℕ → List ℕ) (a b : ℕ) → parts f (a + b) ≡ parts f a ++ parts (λ k. f (a + k)) b
parts_append f a zero = let e : a + 0 ≡ a = omega arith in rw (e, append-nil)
parts_append f a (suc b) = let e : a + suc b ≡ suc (a + b) = omega arith in rw (e, parts_append f a b, append_assoc)

block_pieces : (w : ℕ) (cs : List ℕ) (n : ℕ) → n * w ≤ length cs → parts (cut_piece 0 cs) (n * w) ≡ parts (block_piece w cs) n
block_pieces w cs zero h = let e : 0 * w ≡ 0 = omega arith in rw e
block_pieces w cs (suc n) h =
    let e : suc n * w ≡ n * w + w = omega arith in
    let long : length (block w cs n) ≡ w = length-take-le w (drop (n * w) cs) (omega (arith, length-drop (n * w) cs)) in
    rw (e, parts_append (cut_piece 0 cs) (n * w) w, block_pieces w cs n (omega arith), cut_pieces (n * w) (block w cs n), long)
    (ap (λ (l : List ℕ). parts (block_piece w cs) n ++ l) (parts_equal _ _ w (λ k g. rw (get_or-take w (drop (n * w) cs) k 0 g, get_or-drop (n * w) cs k 0) (ap (λ (j : ℕ). flag_bytes (get_or cs (n * w + k) 0) (cut (cut_of j))) (omega arith)))))

pub cut_blocks : (w : ℕ) (cs : List ℕ) (n : ℕ) → length cs ≡ n * w → bytes_of (cut_commands cs) ≡ parts (block_piece w cs) n
cut_blocks w cs n e = cut_pieces 0 cs ∙ rw e (block_pieces w cs n (omega arith))

-- block k is w flags from k * w on
pub block_is : (w : ℕ) (cs : List ℕ) (k : ℕ) → take (k * w + w - k * w) (drop (k * w) cs) ≡ block w cs k
block_is w cs k = let z : k * w + w - k * w ≡ w = omega arith in rw z

-- ---- steps and done steps

pub step_pieces : (ss : List ℕ) → bytes_of (step_commands ss) ≡ parts (step_piece ss) (length ss)
step_pieces ss = commands_each step step_coded ss ∙ each_parts (λ x. command_bytes (step (step_coded x))) ss 0

pub done_pieces : (h : List ℕ) → bytes_of (map done h) ≡ parts (done_piece h) (length h)
done_pieces h = each_map command_bytes done h ∙ each_parts (λ r. command_bytes (done r)) h 0

-- ---- runs

-- the codes of run r
abbrev pub run_codes : List ℕ → List ℕ → ℕ → List ℕ
run_codes ls ss r = take (get_or ls r 0) (drop (sum (take r ls)) ss)

abbrev pub run_piece : List ℕ → List ℕ → ℕ → List ℕ
run_piece ls ss r = bytes_of (run r ∷ step_commands (run_codes ls ss r))

map_take : (n : ℕ) (ss : List ℕ) → map step_coded (take n ss) ≡ take n (map step_coded ss)
map_take zero ss = refl
map_take (suc n) [] = refl
map_take (suc n) (x ∷ ss) = rw (map_take n ss)

map_drop : (n : ℕ) (ss : List ℕ) → map step_coded (drop n ss) ≡ drop n (map step_coded ss)
map_drop zero ss = refl
map_drop (suc n) [] = refl
map_drop (suc n) (x ∷ ss) = map_drop n ss

length_runs : (ns : List ℕ) (xs : List Step) → length (runs_of_lengths ns xs) ≡ length ns
length_runs [] xs = refl
length_runs (n ∷ ns) xs = ap suc (length_runs ns (drop n xs))

pub run_pieces : (ls ss : List ℕ) (n : ℕ) → n ≤ length ls → bytes_of (run_commands 0 (runs_divided n ls ss)) ≡ parts (run_piece ls ss) n
run_pieces ls ss zero h = refl
run_pieces ls ss (suc n) h =
    let e : 0 + length (runs_divided n ls ss) ≡ n = omega (arith, length_runs (take n ls) (map step_coded ss), length-take-le n ls (omega arith)) in
    rw (
      take-suc ls n 0 h,
      runs_snoc (take n ls) (get_or ls n 0) (map step_coded ss),
      run_commands_append 0 (runs_divided n ls ss) (take (get_or ls n 0) (drop (sum (take n ls)) (map step_coded ss)) ∷ []),
      e,
      each_append command_bytes (run_commands 0 (runs_divided n ls ss)),
      ← map_drop (sum (take n ls)) ss,
      ← map_take (get_or ls n 0) (drop (sum (take n ls)) ss),
      append-nil (step_commands (run_codes ls ss n)),
      run_pieces ls ss n (omega arith),
    )

-- a part of a table of codes
pub codes_part : (ss : List ℕ) (n k : ℕ) → Codes ss → Codes (take k (drop n ss))
codes_part ss n k h = record { small = λ i. go i (dec_le k i) }
  where
    go : (i : ℕ) → Dec (k ≤ i) → get_or (take k (drop n ss)) i 0 < code_limit
    go i (yes l) = omega (arith, get_or-eq_default (take k (drop n ss)) 0 {n = i} (omega (arith, length-take k (drop n ss))))
    go i (no l) = rw (get_or-take k (drop n ss) i 0 (omega arith), get_or-drop n ss i 0) (h.small (n + i))

pub run_coded : {d : ℕ} {ls ss : List ℕ} (r : ℕ) → RunsHeld d ls ss → Codes (run_codes ls ss r)
run_coded {d} {ls} {ss} r h = codes_part ss (sum (take r ls)) (get_or ls r 0) h.codes

-- the codes of run r are the n from base on
pub run_within : {d : ℕ} {ls ss : List ℕ} {r base n : ℕ} → RunsHeld d ls ss → r < d → base ≡ sum (take r ls) → n ≡ get_or ls r 0 → base + n ≤ length ss
run_within {d} {ls} {ss} {r} h l e f = omega (arith, sum_take ls r, sum_take_mono ls (suc r) d l)

pub run_codes_are : (ls ss : List ℕ) (r base n : ℕ) → base ≡ sum (take r ls) → n ≡ get_or ls r 0 → take (base + n - base) (drop base ss) ≡ run_codes ls ss r
run_codes_are ls ss r base n e f = let z : base + n - base ≡ n = omega arith in rw (z, e, f)
