-- The walk of the serial test: the runs met so far, and that the steps of each stand together.
use Prim.Native.Nat.{ℕ, ◌+◌, ◌-◌, ◌≤◌, ◌<◌}
use native.Mathlib.Nat.{not-suc-le-zero}
use native.Mathlib.Omega.{arith}
use native.Mathlib.Decide.{ℕ_discrete}
use native.Mathlib.Numerals.{add-one}
use mathlib.Core.Path.{◌≡◌, sym, ap, ◌∙◌}
use mathlib.Core.Logic.{◌⊎◌, inl, inr}
use mathlib.Core.Bool.{Bool, true, false}
use mathlib.Core.List.{List}
use lib.ListN.{get_or, take, replicate}
use lib.Seq.{get_or-take}
use lib.Dec.{eqb}
use borrow.Author.Tests.{eqb-true, eq-eqb}
use Rattle.theory.specs.History.{run, Serial}
use Rattle.theory.proofs.Finite.{below_suc}
use Rattle.bits.specs.Table.{bit_at, Marked}
use Rattle.book.specs.Format.{run_limit}
use Rattle.theory.specs.Answers.{Answers}
use Rattle.dependence.specs.Inner.Tables.{HistoryOf, NumberAt}
use Rattle.dependence.proofs.Counting.{history_length}
use Rattle.theory.proofs.Answered.{answer_yes, answer_no, false_true}
use Rattle.classes.proofs.Collected.{Collected, collected_none, collected_again, collected_more}

pub record TogetherUpTo (history seen : List ℕ) (p : ℕ) : Type 0 where
  pub runs : Collected seen (λ k. get_or history k 0) p
  pub together : (a b c : ℕ) → a < b → b < c → c < p → get_or history a 0 ≡ get_or history c 0 → get_or history b 0 ≡ get_or history a 0

pub together_none : (history : List ℕ) (words : ℕ) → TogetherUpTo history (replicate words 0) 0
together_none history words = record { runs = collected_none words _; together = λ a b c k j i e. absurd (not-suc-le-zero i) }

module _ (history : List ℕ) (n : ℕ) (w : HistoryOf history n) (seen : List ℕ) (p : ℕ) (u : TogetherUpTo history seen p) where
  pub together_all : n ≤ p → Answers (Serial (take n history)) true
  together_all le = answer_yes (λ a b c k j i e.
      let s = history_length w in
      let z : c < n = omega arith in
      let y : b < n = omega arith in
      let x : a < n = omega arith in
      rw (get_or-take n history b 0, get_or-take n history a 0) (u.together a b c k j (omega arith) (rw (get_or-take n history a 0, get_or-take n history c 0) at e)))

  module _ (r : ℕ) (here : NumberAt history p run_limit r) (t : Bool) (test : t ≡ eqb (bit_at seen 0 r) 1) where
    met : t ≡ true → bit_at seen 0 (get_or history p 0) ≡ 1
    met e = let q : bit_at seen 0 r ≡ 1 = eqb-true _ 1 (sym test ∙ e) in rw here.is at q

    module _ (q : ℕ) (before : NumberAt history (p - 1) run_limit q) where
      pub together_same : t ≡ true → q ≡ r → TogetherUpTo history seen (p + 1)
      together_same e same = record { runs = collected_again seen _ p u.runs (met e); together = λ a b c k j i d. go a b c k j d (below_suc (rw (← add-one p) i)) }
        where
          back : get_or history (p - 1) 0 ≡ get_or history p 0
          back = sym before.is ∙ same ∙ here.is

          go : (a b c : ℕ) → a < b → b < c → get_or history a 0 ≡ get_or history c 0 → (c ≡ p) ⊎ (c < p) → get_or history b 0 ≡ get_or history a 0
          go a b c k j d (inr i) = u.together a b c k j i d
          go a b c k j d (inl x) = last (ℕ_discrete b (p - 1))
            where
              ends : get_or history a 0 ≡ get_or history (p - 1) 0
              ends = d ∙ ap (λ (y : ℕ). get_or history y 0) x ∙ sym back

              last : Dec (b ≡ p - 1) → get_or history b 0 ≡ get_or history a 0
              last (yes y) = ap (λ (z : ℕ). get_or history z 0) y ∙ sym ends
              last (no y) = u.together a b (p - 1) k (omega arith) (omega arith) ends

      pub apart : t ≡ true → (q ≡ r → ⊥) → p < n → Answers (Serial (take n history)) false
      apart e other i = answer_no (λ s.
          let m = u.runs.sound (get_or history p 0) (omega (arith, w.runs.small p)) (met e) in
          go m.index m.below m.value s (ℕ_discrete m.index (p - 1)))
        where
          go : (k : ℕ) → k < p → get_or history k 0 ≡ get_or history p 0 → Serial (take n history) → Dec (k ≡ p - 1) → ⊥
          go k j v s (yes x) = other (before.is ∙ ap (λ (z : ℕ). get_or history z 0) (sym x) ∙ v ∙ sym here.is)
          go k j v s (no x) =
              let z = history_length w in
              let k' : k < n = omega arith in
              let l : p - 1 < n = omega arith in
              let d : run (take n history) k ≡ run (take n history) p = get_or-take n history k 0 k' ∙ v ∙ sym (get_or-take n history p 0 i) in
              let f = s k (p - 1) p (omega arith) (omega arith) (omega arith) d in
              other (before.is ∙ sym (get_or-take n history (p - 1) 0 l) ∙ f ∙ get_or-take n history k 0 k' ∙ v ∙ sym here.is)

    pub together_new : t ≡ false → (seen' : List ℕ) → Marked seen seen' 0 r → TogetherUpTo history seen' (p + 1)
    together_new e seen' m = record {
      runs = collected_more seen _ p u.runs seen' (λ k i. omega (arith, w.runs.small k)) (rw here.is at m);
      together = λ a b c k j i d. go a b c k j d (below_suc (rw (← add-one p) i));
    }
      where
        go : (a b c : ℕ) → a < b → b < c → get_or history a 0 ≡ get_or history c 0 → (c ≡ p) ⊎ (c < p) → get_or history b 0 ≡ get_or history a 0
        go a b c k j d (inr i) = u.together a b c k j i d
        go a b c k j d (inl x) =
            let met : bit_at seen 0 (get_or history a 0) ≡ 1 = u.runs.complete a (omega arith) in
            let y : get_or history a 0 ≡ r = d ∙ ap (λ (z : ℕ). get_or history z 0) x ∙ sym here.is in
            absurd (false_true (sym e ∙ test ∙ eq-eqb (bit_at seen 0 r) 1 (rw y at met)))
