-- Some name holds exactly where an arc leads. The walk of the cycle check: the places met so far are distinct, and each has an arc from the one
-- before it, the first from the last. It comes to the end exactly on a cycle.
use Prim.Native.Nat.{ℕ, zero, suc, ◌+◌, ◌-◌, ◌≤◌, ◌<◌}
use native.Mathlib.Nat.{not-suc-le-zero, lt_irrefl}
use native.Mathlib.Omega.{arith}
use native.Mathlib.Numerals.{add-one}
use mathlib.Core.Path.{◌≡◌, refl, sym, ap, ◌∙◌}
use mathlib.Core.Logic.{◌⊎◌, inl, inr, ◌≢◌}
use mathlib.Core.Bool.{Bool, true, false, ◌||◌, not}
use mathlib.Core.List.{List}
use lib.ListN.{length, get_or, replicate}
use lib.Dec.{eqb}
use borrow.Author.Tests.{eqb-true, eq-eqb, not-true, not-false}
use Rattle.theory.specs.Graph.{ArcI, ArcD, ArcF, ArcB, Arc, arc_I, arc_D, arc_F, arc_B, Cycle}
use Rattle.theory.proofs.Finite.{below_suc}
use Rattle.theory.proofs.Decided.{arc_target}
use Rattle.bits.specs.Table.{row_bits, bit_at, Marked}
use Rattle.theory.specs.Answers.{Answers}
use Rattle.theory.proofs.Answered.{answer_yes, answer_no, refute, false_true}
use Rattle.names.specs.Names.{names_of}
use Rattle.graph.specs.Inner.Arcs.{TablesIn, done}
use Rattle.graph.specs.declared.graph.Graph.{Graph}
use Rattle.names.specs.Inner.Tables.{NamesBy}
use Rattle.names.specs.declared.ArcNames.{ArcNames}
use Rattle.dependence.proofs.Counting.{history_length}
use Rattle.names.proofs.NameLaws.{is_i, is_d, is_f, is_b}
use Rattle.classes.proofs.Collected.{Collected, collected_none, collected_more}
use Rattle.evidence.specs.Inner.Tables.{any_of, FollowsBy, CycleBy}

-- ---- some name

either : {P Q : Type 0} (s t : Bool) → Answers P s → Answers Q t → Answers (P ⊎ Q) (s || t)
either true t a b = answer_yes (inl (a.sound refl))
either {P} {Q} false t a b = record { sound = λ e. inr (b.sound e); complete = go }
  where
    go : P ⊎ Q → t ≡ true
    go (inl p) = absurd (false_true (a.complete p))
    go (inr q) = b.complete q

module _ (conflict : ℕ → ℕ → ℕ → ℕ → Bool) (unit : ℕ → ℕ → ℕ → ℕ) (h : List ℕ) (x y : ℕ) where
  abbrev ByName : Type 0
  ByName = ArcI h x y ⊎ (ArcD conflict h x y ⊎ (ArcF conflict unit h x y ⊎ ArcB conflict unit h x y))

  pub some_name : Answers (Arc conflict unit h x y) (any_of (names_of conflict unit h x y))
  some_name = record { sound = λ e. to (named.sound e); complete = λ a. named.complete (from a) }
    where
      named : Answers ByName (any_of (names_of conflict unit h x y))
      named = either _ _ (is_i conflict unit h x y) (either _ _ (is_d conflict unit h x y) (either _ _ (is_f conflict unit h x y) (is_b conflict unit h x y)))

      to : ByName → Arc conflict unit h x y
      to (inl a) = arc_I a
      to (inr (inl a)) = arc_D a
      to (inr (inr (inl a))) = arc_F a
      to (inr (inr (inr a))) = arc_B a

      from : Arc conflict unit h x y → ByName
      from (arc_I a) = inl a
      from (arc_D a) = inr (inl a)
      from (arc_F a) = inr (inr (inl a))
      from (arc_B a) = inr (inr (inr a))

-- ---- the next place of a walk

module _ (g : Graph) (seen : List ℕ) (before x : ℕ) where
  pub beyond : g.n ≤ x → FollowsBy g seen before x false
  beyond k = record { answers = λ a. answer_no (λ f. lt_irrefl g.n (omega (arith, arc_target a.conflict a.unit f.arc, history_length g.stored))); inside = λ e. absurd (false_true e) }

  module _ (t : Bool) (test : t ≡ eqb (bit_at seen 0 x) 1) where
    pub repeated : t ≡ true → FollowsBy g seen before x false
    repeated e = record { answers = λ a. answer_no (λ f. f.fresh (eqb-true (bit_at seen 0 x) 1 (sym test ∙ e))); inside = λ e. absurd (false_true e) }

    pub followed : x < g.n → t ≡ false → (names : ArcNames) → NamesBy g before x names → (r : Bool) → r ≡ any_of names → FollowsBy g seen before x r
    followed i e names by r is = record {
      answers = λ a.
          let s : Answers (Arc a.conflict a.unit (done g) before x) r = rw (is, by.by a) (some_name a.conflict a.unit (done g) before x) in
          record {
            sound = λ y. record { fresh = λ b. false_true (sym e ∙ test ∙ eq-eqb (bit_at seen 0 x) 1 b); arc = s.sound y };
            complete = λ f. s.complete f.arc;
          };
      inside = λ _. i;
    }

-- ---- the walk

-- the place before the one at an index, the last before the first
abbrev pub place_before : List ℕ → ℕ → ℕ
place_before c zero = get_or c (length c - 1) 0
place_before c (suc k) = get_or c k 0

-- a cycle has an arc to each of its places from the one before
cycle_arc : {conflict : ℕ → ℕ → ℕ → ℕ → Bool} {unit : ℕ → ℕ → ℕ → ℕ} {h c : List ℕ} → Cycle conflict unit h c → (k : ℕ) → k < length c → Arc conflict unit h (place_before c k) (get_or c k 0)
cycle_arc w zero i = w.back
cycle_arc w (suc k) i = w.next k i

pub record WalkedUpTo (g : Graph) (c seen : List ℕ) (i before : ℕ) : Type 0 where
  pub met : Collected seen (λ k. get_or c k 0) i
  pub distinct : TablesIn g → (j k : ℕ) → j < k → k < i → get_or c j 0 ≢ get_or c k 0
  pub arcs : (a : TablesIn g) (k : ℕ) → k < i → Arc a.conflict a.unit (done g) (place_before c k) (get_or c k 0)
  pub inside : (k : ℕ) → k < i → get_or c k 0 < g.n
  pub before_is : before ≡ place_before c i

module _ (g : Graph) (c : List ℕ) where
  pub too_short : length c < 2 → CycleBy g c false
  too_short k = record { answers = λ a. answer_no (λ y. lt_irrefl 0 (omega (arith, y.least))) }

  pub walked_none : (words before : ℕ) → before ≡ get_or c (length c - 1) 0 → WalkedUpTo g c (replicate words 0) 0 before
  walked_none words before is = record {
    met = collected_none words _;
    distinct = λ a j k l i. absurd (not-suc-le-zero i);
    arcs = λ a k i. absurd (not-suc-le-zero i);
    inside = λ k i. absurd (not-suc-le-zero i);
    before_is = is;
  }

  pub too_long : g.n < length c → CycleBy g c false
  too_long k = record { answers = λ a. answer_no (λ y. lt_irrefl g.n (omega (arith, y.most, history_length g.stored))) }

  module _ (seen : List ℕ) (i before : ℕ) (u : WalkedUpTo g c seen i before) where
    pub walked_all : 2 ≤ length c → length c ≤ g.n → length c ≤ i → CycleBy g c true
    walked_all two few le = record {
      answers = λ a. answer_yes (record {
        least = two;
        most = rw (history_length g.stored) few;
        distinct = λ j k l x. u.distinct a j k l (omega arith);
        next = λ k x. u.arcs a (suc k) (omega arith);
        back = u.arcs a 0 (omega arith);
      });
    }

    module _ (inside : i < length c) (x : ℕ) (is : x ≡ get_or c i 0) (t : Bool) (f : FollowsBy g seen before x t) where
      -- on a cycle the next place follows
      pub not_followed : not t ≡ true → CycleBy g c false
      not_followed e = record {
        answers = λ a. answer_no (λ y.
            let arc = cycle_arc y i inside in
            refute (f.answers a) (not-true t e) (record {
              fresh = λ b. let z = u.met.sound x (small (arc_target a.conflict a.unit arc)) b in y.distinct z.index i z.below inside (z.value ∙ is);
              arc = rw (u.before_is, is) arc;
            }));
      }
        where
          small : get_or c i 0 < length (done g) → x < row_bits
          small k = omega (arith, is, g.stored.within, history_length g.stored)

      module _ (e : not t ≡ false) where
        pub walked_more : (seen' : List ℕ) → Marked seen seen' 0 x → WalkedUpTo g c seen' (i + 1) x
        walked_more seen' m = record {
          met = collected_more seen _ i u.met seen' (λ k j. omega (arith, u.inside k j, g.stored.within)) (rw is at m);
          distinct = λ a j k b d. distinct a j k b (below_suc (rw (← add-one i) d));
          arcs = λ a k j. arcs a k (below_suc (rw (← add-one i) j));
          inside = λ k j. inside_at k (below_suc (rw (← add-one i) j));
          before_is = rw (add-one i) is;
        }
          where
            distinct : (a : TablesIn g) (j k : ℕ) → j < k → (k ≡ i) ⊎ (k < i) → get_or c j 0 ≢ get_or c k 0
            distinct a j k b (inr d) q = u.distinct a j k b d q
            distinct a j k b (inl d) q =
                let z : bit_at seen 0 (get_or c j 0) ≡ 1 = u.met.complete j (omega arith) in
                let v : get_or c j 0 ≡ x = q ∙ ap (λ (y : ℕ). get_or c y 0) d ∙ sym is in
                ((f.answers a).sound (not-false t e)).fresh (rw v at z)

            arcs : (a : TablesIn g) (k : ℕ) → (k ≡ i) ⊎ (k < i) → Arc a.conflict a.unit (done g) (place_before c k) (get_or c k 0)
            arcs a k (inl q) = rw (q, ← is, ← u.before_is) ((f.answers a).sound (not-false t e)).arc
            arcs a k (inr j) = u.arcs a k j

            inside_at : (k : ℕ) → (k ≡ i) ⊎ (k < i) → get_or c k 0 < g.n
            inside_at k (inl q) = rw (q, ← is) (f.inside (not-false t e))
            inside_at k (inr j) = u.inside k j
