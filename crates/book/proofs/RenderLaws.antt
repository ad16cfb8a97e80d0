-- The bytes of a book's contents: each command adds its own at their end, and how many they are.
use Prim.Native.Nat.{ℕ, suc, ◌+◌, ◌*◌, ◌≤◌, ◌<◌, zero-le}
use mathlib.Core.Path.{◌≡◌, refl, ap, ◌∙◌}
use mathlib.Core.List.{List, [], ◌∷◌, ◌++◌, map, append_assoc, append-nil, map-append}
use native.Mathlib.Omega.{arith}
use borrow.Author.Tests.{ltb-true, eqb-true}
use lib.ListN.{length, length-append}
use Rattle.buffer.specs.Each.{each}
use Rattle.buffer.proofs.EachLaws.{each_append, each_snoc, each_length, each_map}
use Rattle.theory.specs.Deck.{Step, single, transfer}
use Rattle.theory.specs.Lists.{sum}
use Rattle.book.specs.Format.{Contents, Command, pair, run, step, cut, done, step_bytes, command_bytes, add_last, operand_tests, ReadState, next_state, lengths}
use Rattle.book.specs.Render.{run_commands, commands_of, render}
use Rattle.book.specs.declared.Rules.{Rules}
use Rattle.book.proofs.FormatLaws.{Permitted, WellFormed, empty, more}

-- the bytes before the end
abbrev pub body : Contents → List ℕ
body d = each command_bytes (commands_of d)

-- ---- one command more

pub run_commands_append : (r : ℕ) (rs qs : List (List Step)) → run_commands r (rs ++ qs) ≡ run_commands r rs ++ run_commands (r + length rs) qs
run_commands_append r [] qs = let e : r + 0 ≡ r = omega arith in rw e
run_commands_append r (x ∷ rs) qs = let e : suc r + length rs ≡ r + suc (length rs) = omega arith in rw (run_commands_append (suc r) rs qs, e) (simp append_assoc)

runs_last : (i : ℕ) (rs : List (List Step)) (x : Step) → 0 < length rs → run_commands i (add_last rs x) ≡ run_commands i rs ++ step x ∷ []
runs_last i [] x h = absurd (omega arith)
runs_last i (r ∷ []) x h = simp (map-append, append-nil)
runs_last i (r ∷ q ∷ qs) x h = rw (runs_last (suc i) (q ∷ qs) x (omega arith)) (simp append_assoc)

-- the groups are four, and none after the last command's has begun
pub record Grouped (t : ReadState) : Type 0 where
  pub runs : t.group ≤ 0 → t.contents.runs ≡ []
  pub cuts : t.group ≤ 1 → t.contents.cuts ≡ []
  pub history : t.group ≤ 2 → t.contents.history ≡ []
  pub last : t.group ≤ 3

module _ (ρ : Rules) (t : ReadState) (g : Grouped t) where
  group_more : (c : Command) → Permitted ρ t c → Grouped (next_state c t)
  group_more (pair p) h = record { runs = λ _. g.runs h.group; cuts = λ _. g.cuts (omega arith); history = λ _. g.history (omega arith); last = omega arith }
  group_more (run r) h = record { runs = λ z. absurd (omega arith); cuts = λ _. g.cuts h.group; history = λ _. g.history (omega arith); last = omega arith }
  group_more (step x) h = record { runs = λ z. absurd (omega arith); cuts = λ _. g.cuts h.group; history = λ _. g.history (omega arith); last = omega arith }
  group_more (cut c) h = record { runs = λ z. absurd (omega arith); cuts = λ z. absurd (omega arith); history = λ _. g.history h.group; last = omega arith }
  group_more (done r) h = record { runs = λ z. absurd (omega arith); cuts = λ z. absurd (omega arith); history = λ z. absurd (omega arith); last = omega arith }

  commands_more : (c : Command) → Permitted ρ t c → commands_of (next_state c t).contents ≡ commands_of t.contents ++ c ∷ []
  unfolding operand_tests
  commands_more (pair p) h =
      rw (g.runs h.group, g.cuts (omega arith), g.history (omega arith)) (simp (append-nil, map-append))
  commands_more (run r) h =
      let e : 0 + length t.contents.runs ≡ r = omega (arith, eqb-true r (length t.contents.runs) h.operands.0) in
      rw (g.cuts h.group, g.history (omega arith), run_commands_append 0 t.contents.runs ([] ∷ []), e) (simp (append-nil, append_assoc))
  commands_more (step x) h =
      rw (g.cuts h.group, g.history (omega arith), runs_last 0 t.contents.runs x (ltb-true 0 (length t.contents.runs) h.operands.0)) (simp (append-nil, append_assoc))
  commands_more (cut c) h = rw (g.history h.group) (simp (append-nil, map-append, append_assoc))
  commands_more (done r) h = simp (map-append, append_assoc)

pub grouped : {ρ : Rules} {t : ReadState} → WellFormed ρ t → Grouped t
grouped empty = record { runs = λ _. refl; cuts = λ _. refl; history = λ _. refl; last = zero-le }
grouped {ρ} (more {t} w c h) = group_more ρ t (grouped w) c h

pub body_more : {ρ : Rules} {t : ReadState} → WellFormed ρ t → (c : Command) → Permitted ρ t c → body (next_state c t).contents ≡ body t.contents ++ command_bytes c
body_more {ρ} {t} w c h = ap (each command_bytes) (commands_more ρ t (grouped w) c h) ∙ each_snoc command_bytes (commands_of t.contents) c

-- ---- how many they are

each_of : {A : Type 0} (f : A → Command) (k : ℕ) → ((x : A) → length (command_bytes (f x)) ≡ k) → (xs : List A) → length (each command_bytes (map f xs)) ≡ k * length xs
each_of f k h xs = ap length (each_map command_bytes f xs) ∙ each_length (λ x. command_bytes (f x)) k h xs

length_both : (cs ds : List Command) → length (each command_bytes (cs ++ ds)) ≡ length (each command_bytes cs) + length (each command_bytes ds)
length_both cs ds = ap length (each_append command_bytes cs ds) ∙ length-append (each command_bytes cs) (each command_bytes ds)

-- a step has seven bytes at most
length_step : (x : Step) → length (step_bytes x) ≤ 7
length_step (single t) = omega arith
length_step (transfer t u) = omega arith

length_steps : (xs : List Step) → length (each command_bytes (map step xs)) ≤ 7 * length xs
length_steps [] = zero-le
length_steps (x ∷ xs) = omega (arith, length-append (step_bytes x) (each command_bytes (map step xs)), length_step x, length_steps xs)

length_runs : (i : ℕ) (rs : List (List Step)) → length (each command_bytes (run_commands i rs)) ≤ 2 * length rs + 7 * sum (lengths rs)
length_runs i [] = zero-le
length_runs i (r ∷ rs) = omega (arith, length_both (map step r) (run_commands (suc i) rs), length_steps r, length_runs (suc i) rs)

pub length_render : (d : Contents) → length (render d) ≤ 3 * length d.pairs + (2 * length d.runs + 7 * sum (lengths d.runs)) + 4 * length d.cuts + 2 * length d.history + 1
length_render d =
    omega (
      arith,
      length-append (body d) (0x45 ∷ []),
      length_both (map pair d.pairs) (run_commands 0 d.runs ++ (map cut d.cuts ++ map done d.history)),
      length_both (run_commands 0 d.runs) (map cut d.cuts ++ map done d.history),
      length_both (map cut d.cuts) (map done d.history),
      each_of pair 3 (λ x. refl) d.pairs,
      length_runs 0 d.runs,
      each_of cut 4 (λ x. refl) d.cuts,
      each_of done 2 (λ x. refl) d.history,
    )
