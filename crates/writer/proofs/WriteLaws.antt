-- What the writer promises, for each way out; and that the tables it lends stand for what was read.
use Rattle.std.specs.Prelude.{Ok}
use mathlib.Core.Path.{◌≡◌, refl, sym, ap, ◌∙◌}
use mathlib.Core.List.{List, [], ◌∷◌, ◌++◌, map, append_assoc, map-append}
use Prim.Native.Nat.{ℕ, ◌≤◌}
use native.Mathlib.Nat.{le_refl}
use native.Mathlib.Omega.{arith}
use borrow.Author.Tests.{le-leb}
use mir.Syntax.{w8}
use mir.Val.{Fits}
use lib.ListN.{length, get_or, take, drop, length-append, length-drop, take-append-drop}
use lib.Seq.{take_all, take-append-le, drop-append-le}
use Rattle.buffer.specs.Put.{Put}
use Rattle.buffer.proofs.EachLaws.{each_append}
use Rattle.theory.specs.Deck.{Step}
use Rattle.theory.specs.Lists.{sum}
use Rattle.book.specs.Format.{Contents, pair, cut, done, command_bytes, accepted, read}
use Rattle.book.specs.Render.{run_commands, render}
use Rattle.book.specs.Book.{step_coded, runs_of_lengths, contents_of, Valid, AcceptedAs}
use Rattle.book.specs.declared.Book.{Book}
use Rattle.book.proofs.Books.{codes_long, done_within}
use Rattle.writer.specs.Written.{Wrote}
use Rattle.writer.specs.Inner.Groups.{bytes_of, pair_commands, cut_commands, runs_divided, table_contents, BookHeld}
use Rattle.book.proofs.RoundTrip.{render_read}

-- ---- the groups are the book

pub groups : (d : Contents) → (((bytes_of (map pair d.pairs) ++ bytes_of (run_commands 0 d.runs)) ++ bytes_of (map cut d.cuts)) ++ bytes_of (map done d.history)) ++ 0x45 ∷ [] ≡ render d
groups d = simp (each_append command_bytes, append_assoc)

-- ---- the tables

-- runs are divided off the front of the steps
runs_front : (ns : List ℕ) (xs ys : List Step) → sum ns ≤ length xs → runs_of_lengths ns (xs ++ ys) ≡ runs_of_lengths ns xs
runs_front [] xs ys h = refl
runs_front (n ∷ ns) xs ys h =
    rw (take-append-le n xs ys (omega arith), drop-append-le n xs ys (omega arith), runs_front ns (drop n xs) ys (simp length-drop (omega arith)))

abbrev lent : Book → Contents
lent b = table_contents b.pairs b.declared b.lengths b.steps b.cuts b.done b.history

lent_contents : (b : Book) → Valid b → contents_of b ≡ lent b
unfolding contents_of
lent_contents b v =
    let ls = take b.declared b.lengths in
    let front = map step_coded (take b.total b.steps) in
    let rest = map step_coded (drop b.total b.steps) in
    let all : map step_coded b.steps ≡ front ++ rest = ap (map step_coded) (sym (take-append-drop b.total b.steps)) ∙ map-append step_coded (take b.total b.steps) (drop b.total b.steps) in
    rw (all, runs_front ls front rest (omega (arith, v.runs.total, codes_long b.lengths b.steps b.declared b.total v.runs)))

-- the bytes of the group of the runs
abbrev pub bytes_runs : List (List Step) → List ℕ
bytes_runs rs = bytes_of (run_commands 0 rs)

-- the lengths of the runs, lent without the table's rest
module _ (d : ℕ) (ls ss : List ℕ) where
  all : take (length (take d ls)) (take d ls) ≡ take d ls
  all = take_all (length (take d ls)) (take d ls) (le_refl _)

  pub lent_runs : runs_divided (length (take d ls)) (take d ls) ss ≡ runs_divided d ls ss
  lent_runs = rw all

-- ---- the ways out

module _ (s out : List ℕ) where
  module _ (b : Book) (h : AcceptedAs (read s) b) where
    accepts : read s ≡ accepted (lent b)
    accepts = h.outcome ∙ rw (lent_contents b h.valid)

    module _ (fits : (i : ℕ) → Fits w8 (get_or s i 0)) (l : length s ≤ length out) where
      rendered : render (lent b) ≡ s
      rendered = render_read s (lent b) (λ i. omega (arith, fits i)) accepts

      pub book_held : BookHeld b.pairs b.declared b.lengths b.steps b.cuts b.done b.history (length out)
      book_held =
          let pairs = bytes_of (pair_commands b.pairs) in
          let runs = bytes_of (run_commands 0 (runs_divided b.declared b.lengths b.steps)) in
          let cuts = bytes_of (cut_commands b.cuts) in
          let history = bytes_of (map done (take b.done b.history)) in
          let v = h.valid in
          record {
            pairs = omega (arith, v.pairs.long);
            runs = record {
              few = v.runs.few_runs;
              lengths = omega (arith, v.runs.lengths.long, v.runs.few_runs);
              codes = record { small = v.runs.steps.small };
              steps = omega (arith, v.runs.total, v.runs.few_steps, v.runs.steps.long);
            };
            cuts = v.cuts.long;
            history = omega (arith, done_within b v, v.history.history.long);
            room = omega (
              arith,
              ap length (groups (lent b) ∙ rendered),
              length-append (((pairs ++ runs) ++ cuts) ++ history) (0x45 ∷ []),
              length-append ((pairs ++ runs) ++ cuts) history,
              length-append (pairs ++ runs) cuts,
              length-append pairs runs,
            );
          }

      pub wrote_book : (after : List ℕ) (n : ℕ) → Put (render (lent b)) out after n → Wrote s out after (Ok n)
      wrote_book after n p = record {
        answer = rw (accepts, le-leb (length s) (length out) l) (ap Ok (p.count ∙ ap length rendered));
        buffer = rw (accepts, le-leb (length s) (length out) l) (rw rendered at p.bytes);
      }
