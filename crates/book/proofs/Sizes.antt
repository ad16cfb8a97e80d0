-- A book that is read is short, whatever its history: pairs and cuts rise, so that there are no more of them than numbers below the next.
use Prim.Native.Nat.{ℕ, suc, ◌+◌, ◌*◌, ◌-◌, ◌≤◌, ◌<◌, zero-le}
use mathlib.Core.Path.{◌≡◌, refl, ap, sym, ◌∙◌}
use mathlib.Core.List.{List, [], ◌∷◌, ◌++◌}
use mathlib.Core.Bool.{Bool, true, false}
use native.Mathlib.Decide.{ℕ_discrete}
use native.Mathlib.Omega.{arith}
use borrow.Author.Tests.{ltb-true, leb-true, eqb-true, eq-eqb, ne_eqb}
use lib.ListN.{length, get_or, take, set, length-append}
use lib.Seq.{get_or-set_same, get_or-set_other}
use lib.Dec.{ltb, eqb}
use Rattle.theory.specs.History.{count}
use Rattle.theory.specs.Deck.{Pair, Step, Cut}
use Rattle.theory.proofs.Lists.{sum_lt, sum_take, sum_take_mono, sum_take_le, get_or_inside}
use Rattle.theory.specs.Lists.{sum}
use Rattle.book.specs.Format.{kind_limit, run_limit, step_limit, length_limit, Contents, with_runs, Allowed, pick, lengths, Command, pair, run, step, cut, done, add_last, above_pair, above_cut, operand_tests, effect, ReadState}
use Rattle.book.specs.Render.{render}
use Rattle.book.specs.declared.Rules.{Rules}
use Rattle.book.proofs.FormatLaws.{Permitted, WellFormed, empty, more}
use Rattle.book.proofs.RenderLaws.{Grouped, grouped, length_render}

-- ---- few pairs, runs, steps and cuts

-- the number of a pair, and of a cut: for each step of a run there are as many cuts as there may be runs
abbrev pair_rank : Pair → ℕ
pair_rank p = p.a * kind_limit + p.b

abbrev cut_rank : List ℕ → Cut → ℕ
cut_rank ls c = (sum (take c.of_run ls) + c.after) * run_limit + c.seen_by

pub record Few (ρ : Rules) (d : Contents) : Type 0 where
  pub pairs : length d.pairs ≤ kind_limit * kind_limit
  pub next_pair : (p : Pair) → above_pair d.pairs p ≡ true → length d.pairs ≤ pair_rank p
  pub runs : length d.runs ≤ run_limit
  pub steps : sum (lengths d.runs) ≤ ρ.step_limit
  pub cuts : length d.cuts ≤ sum (lengths d.runs) * run_limit
  pub next_cut : (c : Cut) → above_cut d.cuts c ≡ true → length d.cuts ≤ cut_rank (lengths d.runs) c

above_pair_snoc : (ps : List Pair) (p q : Pair) → above_pair (ps ++ p ∷ []) q ≡ above_pair (p ∷ []) q
above_pair_snoc [] p q = refl
above_pair_snoc (x ∷ []) p q = refl
above_pair_snoc (x ∷ y ∷ ps) p q = above_pair_snoc (y ∷ ps) p q

above_cut_snoc : (cs : List Cut) (c q : Cut) → above_cut (cs ++ c ∷ []) q ≡ above_cut (c ∷ []) q
above_cut_snoc [] c q = refl
above_cut_snoc (x ∷ []) c q = refl
above_cut_snoc (x ∷ y ∷ cs) c q = above_cut_snoc (y ∷ cs) c q

pick_true : {P : Type 0} (b x y : Bool) → pick b x y ≡ true → (b ≡ true → x ≡ true → P) → (y ≡ true → P) → P
pick_true true x y e g h = g refl e
pick_true false x y e g h = h e

lengths_snoc : (rs : List (List Step)) → sum (lengths (rs ++ [] ∷ [])) ≡ sum (lengths rs)
lengths_snoc [] = refl
lengths_snoc (r ∷ rs) = rw (lengths_snoc rs)

pub sum_last : (rs : List (List Step)) (x : Step) → 0 < length rs → sum (lengths (add_last rs x)) ≡ suc (sum (lengths rs))
sum_last [] x h = absurd (omega arith)
sum_last (r ∷ []) x h = omega (arith, length-append r (x ∷ []))
sum_last (r ∷ q ∷ qs) x h = omega (arith, sum_last (q ∷ qs) x (omega arith))

length_last : (rs : List (List Step)) (x : Step) → length (add_last rs x) ≡ length rs
length_last [] x = refl
length_last (r ∷ []) x = refl
length_last (r ∷ q ∷ qs) x = ap suc (length_last (q ∷ qs) x)

module _ (ρ : Rules) (t : ReadState) (m : Few ρ t.contents) where
  few_pair : (p : Pair) → Permitted ρ t (pair p) → Few ρ (effect (pair p) t.contents)
  unfolding operand_tests
  few_pair p h =
      let ps = t.contents.pairs in
      let size : length (ps ++ p ∷ []) ≡ length ps + 1 = length-append ps (p ∷ []) in
      let low : length ps ≤ pair_rank p = m.next_pair p h.operands.1.1.0 in
      let kind : p.b < kind_limit = ltb-true p.b kind_limit h.operands.0 in
      record {
        pairs = omega (arith, leb-true p.a p.b h.operands.1.0);
        next_pair = λ q u. pick_true (eqb p.a q.a) (ltb p.b q.b) (ltb p.a q.a) (sym (above_pair_snoc ps p q) ∙ u)
            (λ e l. omega (arith, eqb-true p.a q.a e, ltb-true p.b q.b l))
            (λ l. omega (arith, ltb-true p.a q.a l));
        runs = m.runs;
        steps = m.steps;
        cuts = m.cuts;
        next_cut = m.next_cut;
      }

  few_cut : (c : Cut) → Permitted ρ t (cut c) → Few ρ (effect (cut c) t.contents)
  unfolding operand_tests
  few_cut c h =
      let cs = t.contents.cuts in
      let ls = lengths t.contents.runs in
      let size : length (cs ++ c ∷ []) ≡ length cs + 1 = length-append cs (c ∷ []) in
      let viewer : c.seen_by < length t.contents.runs = ltb-true _ _ h.operands.1.0 in
      let inside : c.after < get_or ls c.of_run 0 = ltb-true _ _ h.operands.1.1.1.1.0 in
      let low : length cs ≤ cut_rank ls c = m.next_cut c h.operands.1.1.1.1.1.0 in
      let upto : sum (take (suc c.of_run) ls) ≡ sum (take c.of_run ls) + get_or ls c.of_run 0 = sum_take ls c.of_run in
      record {
        pairs = m.pairs;
        next_pair = m.next_pair;
        runs = m.runs;
        steps = m.steps;
        cuts = omega (arith, sum_take_le ls (suc c.of_run));
        next_cut = λ q u. pick_true (eqb c.of_run q.of_run) (pick (eqb c.after q.after) (ltb c.seen_by q.seen_by) (ltb c.after q.after)) (ltb c.of_run q.of_run) (sym (above_cut_snoc cs c q) ∙ u)
            (λ e l. let z : sum (take c.of_run ls) ≡ sum (take q.of_run ls) = ap (λ (n : ℕ). sum (take n ls)) (eqb-true c.of_run q.of_run e) in
            pick_true (eqb c.after q.after) (ltb c.seen_by q.seen_by) (ltb c.after q.after) l
            (λ e l. omega (arith, eqb-true c.after q.after e, ltb-true c.seen_by q.seen_by l))
            (λ l. omega (arith, ltb-true c.after q.after l)))
            (λ l. omega (arith, sum_take_mono ls (suc c.of_run) q.of_run (ltb-true c.of_run q.of_run l)));
      }

  -- a run or a step more, where no cut has come
  few_runs : (rs : List (List Step)) → t.contents.cuts ≡ [] → length rs ≤ run_limit → sum (lengths rs) ≤ ρ.step_limit → Few ρ (with_runs t.contents rs)
  few_runs rs e l n = record { pairs = m.pairs; next_pair = m.next_pair; runs = l; steps = n; cuts = rw e zero-le; next_cut = λ c u. rw e zero-le }

  few_more : Grouped t → (c : Command) → Permitted ρ t c → Few ρ (effect c t.contents)
  unfolding operand_tests
  few_more g (pair p) h = few_pair p h
  few_more g (run r) h =
      let rs = t.contents.runs in
      few_runs (rs ++ [] ∷ []) (g.cuts h.group) (omega (arith, ltb-true (length rs) run_limit h.operands.1.0, length-append rs ([] ∷ []))) (rw (lengths_snoc rs) m.steps)
  few_more g (step x) h =
      let rs = t.contents.runs in
      few_runs (add_last rs x) (g.cuts h.group) (rw (length_last rs x) m.runs)
      (omega (arith, ltb-true (sum (lengths rs)) ρ.step_limit h.operands.1.1.1.0, sum_last rs x (ltb-true 0 (length rs) h.operands.0)))
  few_more g (cut c) h = few_cut c h
  few_more g (done r) h = record { pairs = m.pairs; next_pair = m.next_pair; runs = m.runs; steps = m.steps; cuts = m.cuts; next_cut = m.next_cut }

pub few : {ρ : Rules} {t : ReadState} → WellFormed ρ t → Few ρ t.contents
few empty = record { pairs = zero-le; next_pair = λ p e. zero-le; runs = zero-le; steps = zero-le; cuts = zero-le; next_cut = λ c e. zero-le }
few {ρ} (more {t} w c h) = few_more ρ t (few w) (grouped w) c h

-- ---- a history that the runs allow is no longer than their steps

-- one step of run x is taken from the numbers of steps
module _ (ns k : List ℕ) (x : ℕ) (w : (r : ℕ) → count (x ∷ k) r ≤ get_or ns r 0) where
  one : suc (count k x) ≤ get_or ns x 0
  one = rw (eq-eqb x x refl) at (w x)

  abbrev rest : List ℕ
  rest = set ns x (get_or ns x 0 - 1)

  same : get_or rest x 0 ≡ get_or ns x 0 - 1
  same = get_or-set_same ns x (get_or ns x 0 - 1) 0 (get_or_inside ns x (omega (arith, one)))

  between : (r : ℕ) → Dec (r ≡ x) → (count k r ≤ get_or rest r 0) × (get_or rest r 0 ≤ get_or ns r 0)
  between r (yes e) = rw (e, same) (omega (arith, one), omega arith)
  between r (no n) = rw (get_or-set_other ns x r (get_or ns x 0 - 1) 0 n) (rw (ne_eqb x r (λ e. n (sym e))) at (w r), omega arith)

history_short : (k ns : List ℕ) → ((r : ℕ) → count k r ≤ get_or ns r 0) → length k ≤ sum ns
history_short [] ns w = zero-le
history_short (x ∷ k) ns w =
    let s = between ns k x w in
    omega (
      arith,
      history_short k (rest ns k x w) (λ r. (s r (ℕ_discrete r x)).0),
      sum_lt (rest ns k x w) ns x (λ r. (s r (ℕ_discrete r x)).1) (omega (arith, one ns k x w, same ns k x w)),
    )

-- at most 10,145 bytes
pub render_short : (ρ : Rules) (d : Contents) → ρ.step_limit ≤ step_limit → Few ρ d → Allowed d.history d → length (render d) ≤ length_limit
render_short ρ d l m w = omega (arith, length_render d, history_short d.history (lengths d.runs) w)
