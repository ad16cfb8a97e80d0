-- Every run has one component, named by its smallest run, and a history is relatively serializable exactly when every component's is
-- (document 02, change 8).
use Prim.Native.Nat.{ℕ, zero, suc, ◌≤◌, ◌<◌, zero-le, suc-le-suc}
use native.Mathlib.Nat.{not-suc-le-zero, lt_irrefl, lt-suc_self}
use native.Mathlib.Omega.{arith}
use native.Mathlib.Decide.{ℕ_discrete}
use mathlib.Core.Path.{◌≡◌, refl, sym, ap, ◌∙◌, subst}
use mathlib.Core.Logic.{◌⊎◌, inl, inr, ◌≢◌, ◌↔◌}
use mathlib.Core.Bool.{Bool, true, false, not}
use mathlib.Core.List.{List, [], ◌∷◌, ◌++◌, append-nil}
use lib.ListN.{length, length-append, get_or, get_or-append}
use lib.Seq.{get_or-append_seam}
use borrow.Author.Tests.{eq-eqb}
use lib.Dec.{T, eqb, ltb, eqb→eq, eqb_refl, ltb→lt, lt→ltb, nltb→le, not_T}
use Rattle.theory.specs.History.{run, only, project}
use Rattle.theory.specs.Relative.{Lawful, Conflicting, RelativelySerializable}
use Rattle.theory.specs.Components.{Joined, itself, joined, Components, smallest_of_each, smallest_runs, component_history}
use Rattle.theory.proofs.Lists.{length_snoc}
use Rattle.theory.proofs.Finite.{below_suc, bool_iff}
use Rattle.theory.proofs.Steps.{at, at_lt, at_same, conf_cast}
use Rattle.theory.proofs.Within.{project_within, project_serializable}
use Rattle.theory.proofs.Classes.{relserial_serializable}
use Rattle.theory.proofs.Connected.{smallest_le, connected_smallest}
use Rattle.theory.proofs.Parts.{parts_serializable}

-- ---- joins

module _ (conflict : ℕ → ℕ → ℕ → ℕ → Bool) (law : Lawful conflict) (h : List ℕ) where
  pub joined_sym : (r s : ℕ) → Joined conflict h r s → Joined conflict h s r
  joined_sym r s j = record { p = j.q; q = j.p; inside_p = j.inside_q; inside_q = j.inside_p; of_r = j.of_s; of_s = j.of_r; conflicting = law.symmetric _ _ _ _ j.conflicting }

-- ---- projections

-- one projection of another keeps what both keep
pub project_both : (f g e : ℕ → Bool) → ((r : ℕ) → T (e r) ↔ (T (g r) × T (f r))) → (l : List ℕ) → project f (project g l) ≡ project e l
unfolding project
project_both f g e i [] = refl
project_both f g e i (x ∷ l) = go (g x) refl (project_both f g e i l)
  where
    go : (b : Bool) → g x ≡ b → project f (project g l) ≡ project e l → project f (only b x (project g l)) ≡ only (e x) x (project e l)
    go true q ih =
        let k : f x ≡ e x = bool_iff _ _ (λ t. (i x).1 (rw q tt, t)) (λ t. ((i x).0 t).1) in
        rw (k, ih)
    go false q ih =
        let k : e x ≡ false = bool_iff _ _ (λ t. rw q at ((i x).0 t).0) (λ t. absurd t) in
        rw (k, ih)

pub project_all : (keep : ℕ → Bool) (l : List ℕ) → ((p : ℕ) → p < length l → T (keep (run l p))) → project keep l ≡ l
unfolding project
project_all keep [] k = refl
project_all keep (x ∷ l) k =
    let e : keep x ≡ true = bool_iff _ _ (λ t. tt) (λ t. k 0 (suc-le-suc zero-le)) in
    rw (e, project_all keep l (λ p i. k (suc p) (suc-le-suc i)))

pub project_none : (keep : ℕ → Bool) → ((r : ℕ) → ¬ T (keep r)) → (l : List ℕ) → project keep l ≡ []
unfolding project
project_none keep k [] = refl
project_none keep k (x ∷ l) = let e : keep x ≡ false = bool_iff _ _ (λ t. absurd (k x t)) (λ t. absurd t) in rw (e, project_none keep k l)

-- ---- the lists of names

module _ (name : ℕ → ℕ) where
  pub each_length : (n : ℕ) → length (smallest_of_each name n) ≡ n
  unfolding smallest_of_each
  each_length zero = refl
  each_length (suc n) = length_snoc (smallest_of_each name n) (name n) ∙ ap suc (each_length n)

  pub each_is : (n r : ℕ) → r < n → get_or (smallest_of_each name n) r 0 ≡ name r
  unfolding smallest_of_each
  each_is zero r i = absurd (not-suc-le-zero i)
  each_is (suc n) r i = go (below_suc i) (each_is n r)
    where
      e : List ℕ
      e = smallest_of_each name n

      go : (r ≡ n) ⊎ (r < n) → (r < n → get_or e r 0 ≡ name r) → get_or (e ++ name n ∷ []) r 0 ≡ name r
      go (inl z) ih = rw z (ap (λ (k : ℕ). get_or (e ++ name n ∷ []) k 0) (sym (each_length n)) ∙ get_or-append_seam e (name n) [] 0)
      go (inr k) ih = get_or-append e (name n ∷ []) 0 r (rw (each_length n) k) ∙ ih k

  -- m is one of the list of smallest runs
  pub record InList (l : List ℕ) (m : ℕ) : Type 0 where
    pub index : ℕ
    pub inside : index < length l
    pub is : get_or l index 0 ≡ m

  pub smallest_sound : (n i : ℕ) → i < length (smallest_runs name n) → (get_or (smallest_runs name n) i 0 < n) × (name (get_or (smallest_runs name n) i 0) ≡ get_or (smallest_runs name n) i 0)
  unfolding smallest_runs
  smallest_sound zero i k = absurd (not-suc-le-zero k)
  smallest_sound (suc n) i k = go (eqb (name n) n) refl k (smallest_sound n)
    where
      l : List ℕ
      l = smallest_runs name n

      go : (b : Bool) → eqb (name n) n ≡ b → i < length (l ++ only b n []) → ((i : ℕ) → i < length l → (get_or l i 0 < n) × (name (get_or l i 0) ≡ get_or l i 0))
          → (get_or (l ++ only b n []) i 0 < suc n) × (name (get_or (l ++ only b n []) i 0) ≡ get_or (l ++ only b n []) i 0)
      go false e k ih = rw (append-nil l) (let t = ih i (rw (append-nil l) at k) in (omega (arith, t.0), t.1))
      go true e k ih = at (below_suc (rw (length_snoc l n) at k))
        where
          at : (i ≡ length l) ⊎ (i < length l) → (get_or (l ++ n ∷ []) i 0 < suc n) × (name (get_or (l ++ n ∷ []) i 0) ≡ get_or (l ++ n ∷ []) i 0)
          at (inl z) = rw (z, get_or-append_seam l n [] 0) (lt-suc_self n, eqb→eq (name n) n (rw e tt))
          at (inr j) = rw (get_or-append l (n ∷ []) 0 i j) (let t = ih i j in (omega (arith, t.0), t.1))

  pub smallest_complete : (n m : ℕ) → m < n → name m ≡ m → InList (smallest_runs name n) m
  unfolding smallest_runs
  smallest_complete zero m i e = absurd (not-suc-le-zero i)
  smallest_complete (suc n) m i e = go (below_suc i) (λ k. smallest_complete n m k e)
    where
      l : List ℕ
      l = smallest_runs name n

      go : (m ≡ n) ⊎ (m < n) → (m < n → InList l m) → InList (l ++ only (eqb (name n) n) n []) m
      go (inl z) ih =
          let f : eqb (name n) n ≡ true = eq-eqb (name n) n (rw z at e) in
          rw f (record { index = length l; inside = rw (length_snoc l n) (lt-suc_self (length l)); is = get_or-append_seam l n [] 0 ∙ sym z })
      go (inr k) ih = let t = ih k in record {
        index = t.index;
        inside = omega (arith, t.inside, length-append l (only (eqb (name n) n) n []));
        is = get_or-append l (only (eqb (name n) n) n []) 0 t.index t.inside ∙ t.is;
      }

  pub smallest_rising : (n i j : ℕ) → i < j → j < length (smallest_runs name n) → get_or (smallest_runs name n) i 0 < get_or (smallest_runs name n) j 0
  unfolding smallest_runs
  smallest_rising zero i j k m = absurd (not-suc-le-zero m)
  smallest_rising (suc n) i j k m = go (eqb (name n) n) m (smallest_rising n i j k)
    where
      l : List ℕ
      l = smallest_runs name n

      go : (b : Bool) → j < length (l ++ only b n []) → (j < length l → get_or l i 0 < get_or l j 0) → get_or (l ++ only b n []) i 0 < get_or (l ++ only b n []) j 0
      go false m ih = rw (append-nil l) (ih (rw (append-nil l) at m))
      go true m ih = at (below_suc (rw (length_snoc l n) at m))
        where
          at : (j ≡ length l) ⊎ (j < length l) → get_or (l ++ n ∷ []) i 0 < get_or (l ++ n ∷ []) j 0
          at (inl z) = let h : i < length l = omega arith in rw (get_or-append l (n ∷ []) 0 i h, z, get_or-append_seam l n [] 0) (smallest_sound n i h).0
          at (inr h) = rw (get_or-append l (n ∷ []) 0 i (omega arith), get_or-append l (n ∷ []) 0 j h) (ih h)

  pub smallest_few : (n : ℕ) → length (smallest_runs name n) ≤ n
  unfolding smallest_runs
  smallest_few zero = zero-le
  smallest_few (suc n) = go (eqb (name n) n) (smallest_few n)
    where
      go : (b : Bool) → length (smallest_runs name n) ≤ n → length (smallest_runs name n ++ only b n []) ≤ suc n
      go true k = rw (length_snoc (smallest_runs name n) n) (omega arith)
      go false k = rw (append-nil (smallest_runs name n)) (omega arith)

-- ---- the theorem

module _ (name : ℕ → ℕ) where
  -- the runs of the components named below k
  below : ℕ → ℕ → Bool
  below k r = ltb (name r) k

  below_none : (h : List ℕ) → project (below 0) h ≡ []
  unfolding below
  below_none = project_none (below 0) (λ r t. not-suc-le-zero (ltb→lt (name r) 0 t))

  below_less : (k : ℕ) (h : List ℕ) → project (below k) (project (below (suc k)) h) ≡ project (below k) h
  unfolding below
  below_less k = project_both (below k) (below (suc k)) (below k) (λ r. (λ t. (lt→ltb (name r) (suc k) (omega (arith, ltb→lt (name r) k t)), t), λ t. t.1))

  below_last : (k : ℕ) (h : List ℕ) → project (λ r. not (below k r)) (project (below (suc k)) h) ≡ component_history name h k
  unfolding below
  below_last k = project_both (λ r. not (below k r)) (below (suc k)) (λ r. eqb (name r) k) (λ r. (
    λ t. let e = eqb→eq (name r) k t in (lt→ltb (name r) (suc k) (omega arith), not_T (below k r) (λ u. lt_irrefl k (omega (arith, ltb→lt (name r) k u)))),
    λ t. let e : name r ≡ k = omega (arith, ltb→lt (name r) (suc k) t.0, nltb→le (name r) k t.1) in rw e (eqb_refl k),
  ))

  no_component : (k : ℕ) → ((r : ℕ) → name r ≢ k) → (h : List ℕ) → component_history name h k ≡ []
  no_component k n = project_none (λ r. eqb (name r) k) (λ r t. n r (eqb→eq (name r) k t))

module _ (conflict : ℕ → ℕ → ℕ → ℕ → Bool) (law : Lawful conflict) (unit : ℕ → ℕ → ℕ → ℕ) where
  abbrev Passed : List ℕ → Type 0
  Passed h = RelativelySerializable conflict unit h

  empty_passed : (h : List ℕ) → h ≡ [] → Passed h
  empty_passed h e = rw e (relserial_serializable conflict unit [] (λ a b c d w v u. absurd (not-suc-le-zero w.inside)))

  module _ (h : List ℕ) (name : ℕ → ℕ) (is : Components conflict h name) where
    -- a name names itself
    pub named : (r : ℕ) → name (name r) ≡ name r
    named r = sym ((connected_smallest (Joined conflict h) (joined_sym conflict law h) (is r) (is (name r))).0 (is r).connected)

    -- no conflict leads out of an component
    same_name : (keep : ℕ → Bool) (p q : ℕ) → p < length (project keep h) → q < length (project keep h) → Conflicting conflict (project keep h) p q → name (run (project keep h) p) ≡ name (run (project keep h) q)
    same_name keep p q i j c =
        let g = project keep h in
        let w = project_within keep h in
        let sp = at_same g h w p i in
        let sq = at_same g h w q j in
        (connected_smallest (Joined conflict h) (joined_sym conflict law h) (is (run g p)) (is (run g q))).0
        (joined itself (record { p = at g h p; q = at g h q; inside_p = at_lt g h w p i; inside_q = at_lt g h w q j; of_r = sp.runs; of_s = sq.runs; conflicting = conf_cast conflict sp sq c }))

    component_passed : (k : ℕ) → (name k ≡ k → Passed (component_history name h k)) → Dec (name k ≡ k) → Passed (component_history name h k)
    component_passed k f (yes e) = f e
    component_passed k f (no u) = empty_passed (component_history name h k) (no_component name k (λ r e. u (ap name (sym e) ∙ named r ∙ e)) h)

    -- the components named below k, one more at a time
    upto : (k : ℕ) → ((m : ℕ) → m < k → name m ≡ m → Passed (component_history name h m)) → Passed (project (below name k) h)
    unfolding below
    upto zero f = empty_passed (project (below name 0) h) (below_none name h)
    upto (suc k) f = parts_serializable conflict unit law (below name k) (project (below name (suc k)) h) (λ p q i j c. ap (λ (m : ℕ). ltb m k) (same_name (below name (suc k)) p q i j c))
        (subst Passed (sym (below_less name k h)) (upto k (λ m i. f m (omega arith))))
        (subst Passed (sym (below_last name k h)) (component_passed k (f k (lt-suc_self k)) (ℕ_discrete (name k) k)))

    -- with n declared runs: the whole history is relatively serializable exactly when every component's is
    pub components_serializable : (n : ℕ) → ((p : ℕ) → p < length h → run h p < n)
        → RelativelySerializable conflict unit h ↔ ((m : ℕ) → m < n → name m ≡ m → RelativelySerializable conflict unit (component_history name h m))
    unfolding below
    components_serializable n declared = (λ s m i e. project_serializable conflict unit (λ r. eqb (name r) m) h s, λ f. subst Passed whole (upto n f))
      where
        whole : project (below name n) h ≡ h
        whole = project_all (below name n) h (λ p i. lt→ltb (name (run h p)) n (omega (arith, smallest_le (Joined conflict h) (is (run h p)), declared p i)))
