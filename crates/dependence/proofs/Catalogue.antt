-- The catalogues of the places read: which places they find, and what one step more makes of them.
use Prim.Native.Nat.{ℕ, zero, suc, ◌+◌, ◌-◌, ◌*◌, ◌/◌, ◌%◌, ◌≤◌, ◌<◌}
use native.Mathlib.Decide.{ℕ_discrete}
use native.Mathlib.Omega.{arith}
use mathlib.Core.Path.{◌≡◌, refl, sym, ap, ◌∙◌}
use mathlib.Core.Logic.{◌⊎◌, inl, inr, ◌≢◌}
use mathlib.Core.Bool.{Bool, true, false, ◌&&◌}
use mathlib.Core.List.{List, [], ◌∷◌, ◌++◌}
use lib.ListN.{length, replicate}
use lib.Seq.{get_or-append_seam, take-append_seam}
use lib.Dec.{T}
use borrow.Author.Tests.{eqb-true}
use Rattle.bits.specs.Table.{row_bits, bit_at, union, intersection, Marked, Replaced, Subset}
use Rattle.bits.proofs.Store.{bit_at_lt, zeros_bit, alone_added}
use Rattle.theory.specs.History.{count, run, ordinal}
use Rattle.theory.specs.Deck.{Pair, Touch, Step, single, transfer, step_of, listed, home, same_position, touches_conflict}
use Rattle.theory.specs.Transfers.{TouchOf, only, first, second, touch_of}
use Rattle.theory.proofs.Finite.{dec_T}
use Rattle.theory.proofs.Lists.{length_snoc}
use Rattle.theory.proofs.Places.{Compared, eq_cases}
use Rattle.theory.proofs.Within.{front}
use Rattle.theory.proofs.DeckLaws.{same_number, same_where_first_homes, same_where_second_homes, compared, to_steps_conflict, from_steps_conflict}
use Rattle.book.specs.Format.{kind_limit, run_limit}
use Rattle.book.specs.Book.{pairs_of}
use Rattle.dependence.specs.Catalogue.{base, homes, part, done_step, Which, first_touches, second_touches, HasTouch, touch_in, run_in, PartIs, PairedWith, Catalogued, digit_parts, run_part, home_part, parts, part_rows}
use Rattle.dependence.specs.Inner.Reading.{PartRow, OtherHomeRow, Entered, PartsEntered, KindsEntered, KindEntered, KindJoined, TouchEntered, SecondEntered, StepEntered, Has, Finds, TouchConflicts, StepHas, StepFinds, ConflictsWith, Linked}
use Rattle.dependence.specs.Inner.Tables.{RunRows}
use Rattle.dependence.proofs.Counting.{clash, below_next}
use Rattle.dependence.proofs.Rows.{either_one, added_from, added, kept_from, kept}

-- ---- the rows of the parts

-- a touch homes or it does not
abbrev HomesOrNot : Touch → Type 0
HomesOrNot x = ((homes x ≡ 1) × (x.position ≡ home)) ⊎ ((homes x ≡ 0) × (x.position ≢ home))

homes_cases : (x : Touch) → HomesOrNot x
homes_cases x = go (eq_cases x.position home)
  where
    go : Compared x.position home → HomesOrNot x
    go (inl c) = inl (rw c.0, c.1)
    go (inr c) = inr (rw c.0, c.1)

-- ---- which places are found

is_true : (b : Bool) → T b → b ≡ true
is_true true t = refl
is_true false t = absurd t

-- the part k of a touch y of run s is v
abbrev PartOf : ℕ → ℕ → ℕ → Touch → Type 0
PartOf k v s y = part s y k ≡ v

-- what a row of the parts has
module _ (pairs : List Pair) (w : Which) (runs : List (List Step)) (h t : List ℕ) (c : Catalogued pairs w runs h t) (k v row p : ℕ) (e : row ≡ k * base + v) (l : v < base) (i : row < part_rows)
    (hp : p < row_bits) where
  in_row : bit_at t row p ≡ 1 → Has w (PartOf k v) runs h p
  in_row b =
      let a = c.sound p row hp i b in
      let ek : row / base ≡ k = omega arith in
      let ev : row % base ≡ v = omega arith in
      record { inside = a.inside; has = a.has; holds = ap (part (run_in w (run h p)) (touch_in w (done_step runs h p))) (sym ek) ∙ a.is ∙ ev }

  to_row : Has w (PartOf k v) runs h p → bit_at t row p ≡ 1
  to_row a =
      let ek : row / base ≡ k = omega arith in
      let ev : row % base ≡ v = omega arith in
      c.complete p row hp i (record { inside = a.inside; has = a.has; is = ap (part (run_in w (run h p)) (touch_in w (done_step runs h p))) ek ∙ a.holds ∙ sym ev })

-- the same place, of which more holds
has_more : {w : Which} {P Q : ℕ → Touch → Type 0} {runs : List (List Step)} {h : List ℕ} {p : ℕ} → Has w P runs h p
    → (P (run_in w (run h p)) (touch_in w (done_step runs h p)) → Q (run_in w (run h p)) (touch_in w (done_step runs h p))) → Has w Q runs h p
has_more a f = record { inside = a.inside; has = a.has; holds = f a.holds }

pub run_rows : (pairs : List Pair) (runs : List (List Step)) (h t : List ℕ) (n : ℕ) → length h ≡ n → Catalogued pairs first_touches runs h t → RunRows h n t
run_rows pairs runs h t n e c = record {
  sound = λ p r hp hr b. let f = in_row pairs first_touches runs h t c run_part r (run_part * base + r) p refl (omega arith) (omega arith) hp b in record { below = rw (← e) f.inside; runs = f.holds };
  complete = λ p r hp hr k. to_row pairs first_touches runs h t c run_part r (run_part * base + r) p refl (omega arith) (omega arith) hp (record { inside = rw e k.below; has = tt; holds = k.runs });
}

-- exactly one of the two touches homes
abbrev OneHomes : Touch → Touch → Type 0
OneHomes y x = homes y ≡ 1 - homes x

-- the part k of a touch y of run s and of a touch x of run r is the same, or exactly one of them homes
abbrev SamePart : ℕ → Touch → ℕ → Touch → ℕ → Type 0
SamePart s y r x k = (part s y k ≡ part r x k) ⊎ OneHomes y x

-- the kind of a touch y of run s is paired with that of a touch x of run r, and of their first m parts each is the same, or exactly one of them homes
pub record PairedAt (r : ℕ) (x : Touch) (m : ℕ) (pairs : List Pair) (s : ℕ) (y : Touch) : Type 0 where
  pub kinds : T (listed pairs y.kind x.kind)
  pub same : (k : ℕ) → k < m → SamePart s y r x k

module _ (t : List ℕ) (r : ℕ) (x : Touch) where
  module _ (m u : List ℕ) (k row other : ℕ) (d : PartRow r x k row) (o : OtherHomeRow x other) where
    -- the columns of either row
    abbrev either : ℕ → ℕ
    either = union (bit_at t row) (bit_at t other)

    either_lt : (p : ℕ) → either p < 2
    either_lt p = omega (arith, bit_at_lt t row p, bit_at_lt t other p)

    module _ (pairs : List Pair) (w : Which) (runs : List (List Step)) (h : List ℕ) (c : Catalogued pairs w runs h t) (p : ℕ) (i : p < row_bits) where
      in_either : (bit_at t row p ≡ 1) ⊎ (bit_at t other p ≡ 1) → SamePart (run_in w (run h p)) (touch_in w (done_step runs h p)) r x k
      in_either (inl b) = inl (in_row pairs w runs h t c k (part r x k) row p d.is d.low d.in_table i b).holds
      in_either (inr b) = inr (in_row pairs w runs h t c home_part (1 - homes x) other p o.is (omega arith) o.in_table i b).holds

      to_either : p < length h → HasTouch w (done_step runs h p) → SamePart (run_in w (run h p)) (touch_in w (done_step runs h p)) r x k → either p ≡ 1
      to_either j g (inl e) =
          omega (arith, bit_at_lt t other p, to_row pairs w runs h t c k (part r x k) row p d.is d.low d.in_table i (record { inside = j; has = g; holds = e }))
      to_either j g (inr e) =
          omega (arith, bit_at_lt t row p, to_row pairs w runs h t c home_part (1 - homes x) other p o.is (omega arith) o.in_table i (record { inside = j; has = g; holds = e }))

    pub at_keep : Replaced m u 0 (intersection (bit_at m 0) (union (bit_at t row) (bit_at t other))) → Finds (PairedAt r x k) t m → Finds (PairedAt r x (k + 1)) t u
    at_keep s f = record {
      columns = λ pairs w runs h c. record {
        sound = λ p i b. from pairs w runs h c p i (kept_from m u either either_lt s p i b);
        complete = λ p i a. kept m u either either_lt s p i
            ((f.columns pairs w runs h c).complete p i (has_more a (λ z. record { kinds = z.kinds; same = λ j l. z.same j (omega arith) })))
            (to_either pairs w runs h c p i a.inside a.has (a.holds.same k (omega arith)));
      };
    }
      where
        from : (pairs : List Pair) (w : Which) (runs : List (List Step)) (h : List ℕ) → Catalogued pairs w runs h t → (p : ℕ) → p < row_bits → (bit_at m 0 p ≡ 1) × (either p ≡ 1)
            → Has w (PairedAt r x (k + 1) pairs) runs h p
        from pairs w runs h c p i b =
            let a = (f.columns pairs w runs h c).sound p i b.0 in
            let g = in_either pairs w runs h c p i (either_one (bit_at t row p) (bit_at t other p) (bit_at_lt t row p) (bit_at_lt t other p) b.1) in
            has_more a (λ z. record { kinds = z.kinds; same = λ j l. go {s = run_in w (run h p)} (touch_in w (done_step runs h p)) j (below_next j k l) z.same g })
          where
            go : {s : ℕ} (y : Touch) (j : ℕ) → (j ≡ k) ⊎ (j < k) → ((j : ℕ) → j < k → SamePart s y r x j) → SamePart s y r x k
                → SamePart s y r x j
            go y j (inl z) f g = rw z g
            go y j (inr l) f g = f j l

-- touches with the same digits are at the same position
same_digits : (s r : ℕ) (y x : Touch) → ((k : ℕ) → k < digit_parts → part s y k ≡ part r x k) → y.position ≡ x.position
same_digits s r y x f =
    first_three y.position x.position (first_two y.position x.position (first_one y.position x.position (f 3 (omega arith)) (f 2 (omega arith))) (f 1 (omega arith))) (f 0 (omega arith))
  where
    first_one : (m n : ℕ) → m / 4096 ≡ n / 4096 → m / 256 % base ≡ n / 256 % base → m / 256 ≡ n / 256
    first_one m n e d = omega arith

    first_two : (m n : ℕ) → m / 256 ≡ n / 256 → m / 16 % base ≡ n / 16 % base → m / 16 ≡ n / 16
    first_two m n e d = omega arith

    first_three : (m n : ℕ) → m / 16 ≡ n / 16 → m % base ≡ n % base → m ≡ n
    first_three m n e d = omega arith

digits_same : (s r : ℕ) (y x : Touch) → y.position ≡ x.position → (k : ℕ) → k < digit_parts → part s y k ≡ part r x k
digits_same s r y x e zero l = omega (arith, e)
digits_same s r y x e (suc zero) l = omega (arith, e)
digits_same s r y x e (suc (suc zero)) l = omega (arith, e)
digits_same s r y x e (suc (suc (suc zero))) l = omega (arith, e)
digits_same s r y x e (suc (suc (suc (suc k)))) l = omega arith

both : (b c : Bool) → T b → T c → T (b && c)
both true c tb tc = tc
both false c tb tc = tb

and_first : (b c : Bool) → T (b && c) → T b
and_first true c t = tt
and_first false c t = t

pub and_second : (b c : Bool) → T (b && c) → T c
and_second true c t = t
and_second false c t = absurd t

-- two touches are at the same position exactly if each digit is the same or exactly one of them homes
module _ (s r : ℕ) (y x : Touch) where
  to_same_position : ((k : ℕ) → k < digit_parts → SamePart s y r x k) → same_position y.position x.position ≡ true
  to_same_position f = go (ℕ_discrete (homes y) (1 - homes x)) (homes_cases y) (homes_cases x)
    where
      alike : (k : ℕ) → homes y ≢ 1 - homes x → SamePart s y r x k → part s y k ≡ part r x k
      alike k n (inl e) = e
      alike k n (inr e) = absurd (n e)

      go : Dec (homes y ≡ 1 - homes x) → HomesOrNot y → HomesOrNot x → same_position y.position x.position ≡ true
      go (yes e) (inl a) c = same_where_first_homes y.position x.position a.1
      go (yes e) (inr a) (inl c) = same_where_second_homes y.position x.position c.1
      go (yes e) (inr a) (inr c) = absurd (let z : ◌≡◌ {A = ℕ} 0 1 = omega (arith, a.0, c.0) in omega arith)
      go (no n) a c = same_number y.position x.position (same_digits s r y x (λ k l. alike k n (f k l)))

  from_same_position : same_position y.position x.position ≡ true → (k : ℕ) → k < digit_parts → SamePart s y r x k
  from_same_position e k l = go (homes_cases y) (homes_cases x)
    where
      go : HomesOrNot y → HomesOrNot x → SamePart s y r x k
      go (inl a) (inl c) = inl (digits_same s r y x (a.1 ∙ sym c.1) k l)
      go (inl a) (inr c) = inr (omega (arith, a.0, c.0))
      go (inr a) (inl c) = inr (omega (arith, a.0, c.0))
      go (inr a) (inr c) = inl (digits_same s r y x (eqb-true y.position x.position (sym (compared y.position x.position a.1 c.1) ∙ e)) k l)

module _ (r : ℕ) (x : Touch) where
  at_conflict : (pairs : List Pair) (y : Touch) (s : ℕ) → PairedAt r x digit_parts pairs s y → TouchConflicts x pairs s y
  unfolding touches_conflict
  at_conflict pairs y s a = both (same_position y.position x.position) _ (rw (to_same_position s r y x a.same) tt) a.kinds

  conflict_at : (pairs : List Pair) (y : Touch) (s : ℕ) → TouchConflicts x pairs s y → PairedAt r x digit_parts pairs s y
  unfolding touches_conflict
  conflict_at pairs y s b = record {
    kinds = and_second (same_position y.position x.position) (listed pairs y.kind x.kind) b;
    same = from_same_position s r y x (is_true _ (and_first (same_position y.position x.position) (listed pairs y.kind x.kind) b));
  }

  pub at_all : (t m : List ℕ) (k : ℕ) → Finds (PairedAt r x k) t m → k ≤ digit_parts → digit_parts ≤ k → Finds (TouchConflicts x) t m
  at_all t m k v a b = record {
    columns = λ pairs w runs h c. record {
      sound = λ p i e. has_more ((f.columns pairs w runs h c).sound p i e) (at_conflict pairs _ _);
      complete = λ p i e. (f.columns pairs w runs h c).complete p i (has_more e (conflict_at pairs _ _));
    };
  }
    where
      f : Finds (PairedAt r x digit_parts) t m
      f = let e : k ≡ digit_parts = omega arith in rw e at v

-- ---- steps by both catalogues

-- a step conflicts with a single one where its first touch does, or its second
module _ (pairs : List Pair) (x : Touch) where
  abbrev ByTouches : Step → Type 0
  ByTouches y = T (touches_conflict pairs (touch_of y) x) ⊎ (HasTouch second_touches y × T (touches_conflict pairs (touch_in second_touches y) x))

  by_touches : (s : ℕ) (y : Step) → ConflictsWith (single x) pairs s y → ByTouches y
  by_touches s y e = let c = from_steps_conflict pairs y (single x) e in go c.of_x c.of_y c.conflict
    where
      go : {y : Step} {t u : Touch} → TouchOf y t → TouchOf (single x) u → T (touches_conflict pairs t u) → ByTouches y
      go only only h = inl h
      go first only h = inl h
      go second only h = inr (tt, h)

  of_touches : (s : ℕ) (y : Step) → ByTouches y → ConflictsWith (single x) pairs s y
  of_touches s (single t) (inl h) = to_steps_conflict pairs (single t) (single x) (record { touch = t; other = x; of_x = only; of_y = only; conflict = h })
  of_touches s (single t) (inr h) = absurd h.0
  of_touches s (transfer t u) (inl h) = to_steps_conflict pairs (transfer t u) (single x) (record { touch = t; other = x; of_x = first; of_y = only; conflict = h })
  of_touches s (transfer t u) (inr h) = to_steps_conflict pairs (transfer t u) (single x) (record { touch = u; other = x; of_x = second; of_y = only; conflict = h.1 })

-- a step conflicts with a transfer where it conflicts with either of two single ones
module _ (pairs : List Pair) (x x' : Touch) where
  by_either : (s : ℕ) (y : Step) → ConflictsWith (transfer x x') pairs s y → ConflictsWith (single x) pairs s y ⊎ ConflictsWith (single x') pairs s y
  by_either s y e = let c = from_steps_conflict pairs y (transfer x x') e in go c.of_x c.of_y c.conflict
    where
      go : {t u : Touch} → TouchOf y t → TouchOf (transfer x x') u → T (touches_conflict pairs t u) → ConflictsWith (single x) pairs s y ⊎ ConflictsWith (single x') pairs s y
      go a first h = inl (to_steps_conflict pairs y (single x) (record { touch = _; other = x; of_x = a; of_y = only; conflict = h }))
      go a second h = inr (to_steps_conflict pairs y (single x') (record { touch = _; other = x'; of_x = a; of_y = only; conflict = h }))

  of_either : (s : ℕ) (y : Step) → ConflictsWith (single x) pairs s y ⊎ ConflictsWith (single x') pairs s y → ConflictsWith (transfer x x') pairs s y
  of_either s y (inl e) = let c = from_steps_conflict pairs y (single x) e in go c.of_x c.of_y c.conflict
    where
      go : {t u : Touch} → TouchOf y t → TouchOf (single x) u → T (touches_conflict pairs t u) → ConflictsWith (transfer x x') pairs s y
      go a only h = to_steps_conflict pairs y (transfer x x') (record { touch = _; other = x; of_x = a; of_y = first; conflict = h })
  of_either s y (inr e) = let c = from_steps_conflict pairs y (single x') e in go c.of_x c.of_y c.conflict
    where
      go : {t u : Touch} → TouchOf y t → TouchOf (single x') u → T (touches_conflict pairs t u) → ConflictsWith (transfer x x') pairs s y
      go a only h = to_steps_conflict pairs y (transfer x x') (record { touch = _; other = x'; of_x = a; of_y = second; conflict = h })

-- of both catalogues
abbrev Both : List Pair → List (List Step) → List ℕ → List ℕ → List ℕ → Type 0
Both pairs runs h t v = Catalogued pairs first_touches runs h t × Catalogued pairs second_touches runs h v

module _ (t v : List ℕ) (x : Touch) (m : List ℕ) (f : Finds (TouchConflicts x) t m) where
  -- no place has a second touch
  pub touching_first : (answer : Bool) (n : ℕ) → Subset (bit_at v (run_part * base)) (bit_at (replicate n 0) 0) answer → answer ≡ true → StepFinds (ConflictsWith (single x)) t v m
  touching_first answer n g e = record {
    columns = λ pairs runs h c d. record {
      sound = λ p i b. let a = (f.columns pairs first_touches runs h c).sound p i b in record { inside = a.inside; holds = of_touches pairs x (run h p) (done_step runs h p) (inl a.holds) };
      complete = λ p i a. complete pairs runs h (c, d) p i a.inside (by_touches pairs x (run h p) (done_step runs h p) a.holds);
    };
  }
    where
      none : (pairs : List Pair) (runs : List (List Step)) (h : List ℕ) → Catalogued pairs second_touches runs h v → (p : ℕ) → p < row_bits → p < length h → HasTouch second_touches (done_step runs h p) → ⊥
      none pairs runs h d p i j a =
          clash (zeros_bit n 0 p) (g.sound e p i (to_row pairs second_touches runs h v d run_part 0 (run_part * base) p (omega arith) (omega arith) (omega arith) i (record { inside = j; has = a; holds = refl })))

      complete : (pairs : List Pair) (runs : List (List Step)) (h : List ℕ) → Both pairs runs h t v → (p : ℕ) → p < row_bits → p < length h → ByTouches pairs x (done_step runs h p) → bit_at m 0 p ≡ 1
      complete pairs runs h c p i j (inl a) = (f.columns pairs first_touches runs h c.0).complete p i (record { inside = j; has = tt; holds = a })
      complete pairs runs h c p i j (inr a) = absurd (none pairs runs h c.1 p i j a.0)

  pub touching_both : (n u : List ℕ) → Finds (TouchConflicts x) v n → Replaced m u 0 (union (bit_at m 0) (bit_at n 0)) → StepFinds (ConflictsWith (single x)) t v u
  touching_both n u g s = record {
    columns = λ pairs runs h c d. record {
      sound = λ p i b. from pairs runs h (c, d) p i (added_from m u (bit_at n 0) (bit_at_lt n 0) s p i b);
      complete = λ p i a. added m u (bit_at n 0) (bit_at_lt n 0) s p i (to pairs runs h (c, d) p i a.inside (by_touches pairs x (run h p) (done_step runs h p) a.holds));
    };
  }
    where
      from : (pairs : List Pair) (runs : List (List Step)) (h : List ℕ) → Both pairs runs h t v → (p : ℕ) → p < row_bits → (bit_at m 0 p ≡ 1) ⊎ (bit_at n 0 p ≡ 1) → StepHas (ConflictsWith (single x) pairs) runs h p
      from pairs runs h c p i (inl b) =
          let a = (f.columns pairs first_touches runs h c.0).sound p i b in record { inside = a.inside; holds = of_touches pairs x (run h p) (done_step runs h p) (inl a.holds) }
      from pairs runs h c p i (inr b) =
          let a = (g.columns pairs second_touches runs h c.1).sound p i b in record { inside = a.inside; holds = of_touches pairs x (run h p) (done_step runs h p) (inr (a.has, a.holds)) }

      to : (pairs : List Pair) (runs : List (List Step)) (h : List ℕ) → Both pairs runs h t v → (p : ℕ) → p < row_bits → p < length h → ByTouches pairs x (done_step runs h p)
          → (bit_at m 0 p ≡ 1) ⊎ (bit_at n 0 p ≡ 1)
      to pairs runs h c p i j (inl a) = inl ((f.columns pairs first_touches runs h c.0).complete p i (record { inside = j; has = tt; holds = a }))
      to pairs runs h c p i j (inr a) = inr ((g.columns pairs second_touches runs h c.1).complete p i (record { inside = j; has = a.0; holds = a.1 }))

-- the places of either of two rows of columns
module _ (P Q O : List Pair → ℕ → Step → Type 0) (t v m u : List ℕ) (f : ℕ → ℕ) (f_lt : (c : ℕ) → f c < 2) (s : Replaced m u 0 (union (bit_at m 0) f)) (w : StepFinds P t v m)
    (from_f : (pairs : List Pair) (runs : List (List Step)) (h : List ℕ) → Both pairs runs h t v → (p : ℕ) → p < row_bits → f p ≡ 1 → StepHas (Q pairs) runs h p)
    (to_f : (pairs : List Pair) (runs : List (List Step)) (h : List ℕ) → Both pairs runs h t v → (p : ℕ) → p < row_bits → StepHas (Q pairs) runs h p → f p ≡ 1)
    (to_o : (pairs : List Pair) (r : ℕ) (y : Step) → P pairs r y ⊎ Q pairs r y → O pairs r y) (from_o : (pairs : List Pair) (r : ℕ) (y : Step) → O pairs r y → P pairs r y ⊎ Q pairs r y) where
  either_finds : StepFinds O t v u
  either_finds = record {
    columns = λ pairs runs h c d. record {
      sound = λ p i b. from pairs runs h (c, d) p i (added_from m u f f_lt s p i b);
      complete = λ p i a. added m u f f_lt s p i (to pairs runs h (c, d) p i a.inside (from_o pairs (run h p) (done_step runs h p) a.holds));
    };
  }
    where
      from : (pairs : List Pair) (runs : List (List Step)) (h : List ℕ) → Both pairs runs h t v → (p : ℕ) → p < row_bits → (bit_at m 0 p ≡ 1) ⊎ (f p ≡ 1) → StepHas (O pairs) runs h p
      from pairs runs h c p i (inl b) = let a = (w.columns pairs runs h c.0 c.1).sound p i b in record { inside = a.inside; holds = to_o pairs (run h p) (done_step runs h p) (inl a.holds) }
      from pairs runs h c p i (inr b) = let a = from_f pairs runs h c p i b in record { inside = a.inside; holds = to_o pairs (run h p) (done_step runs h p) (inr a.holds) }

      to : (pairs : List Pair) (runs : List (List Step)) (h : List ℕ) → Both pairs runs h t v → (p : ℕ) → p < row_bits → p < length h
          → P pairs (run h p) (done_step runs h p) ⊎ Q pairs (run h p) (done_step runs h p) → (bit_at m 0 p ≡ 1) ⊎ (f p ≡ 1)
      to pairs runs h c p i j (inl a) = inl ((w.columns pairs runs h c.0 c.1).complete p i (record { inside = j; holds = a }))
      to pairs runs h c p i j (inr a) = inr (to_f pairs runs h c p i (record { inside = j; holds = a }))

pub transfer_finds : (t v m n u : List ℕ) (x x' : Touch) → StepFinds (ConflictsWith (single x)) t v m → StepFinds (ConflictsWith (single x')) t v n
    → Replaced m u 0 (union (bit_at m 0) (bit_at n 0)) → StepFinds (ConflictsWith (transfer x x')) t v u
transfer_finds t v m n u x x' f g s =
    either_finds (ConflictsWith (single x)) (ConflictsWith (single x')) (ConflictsWith (transfer x x')) t v m u (bit_at n 0) (bit_at_lt n 0) s f
    (λ pairs runs h c p i b. (g.columns pairs runs h c.0 c.1).sound p i b) (λ pairs runs h c p i a. (g.columns pairs runs h c.0 c.1).complete p i a)
    (λ pairs. of_either pairs x x') (λ pairs. by_either pairs x x')

pub linked_all : (t v m u : List ℕ) (r : ℕ) (x : Step) → r < run_limit → StepFinds (ConflictsWith x) t v m → Replaced m u 0 (union (bit_at m 0) (bit_at t (run_part * base + r)))
    → StepFinds (Linked r x) t v u
linked_all t v m u r x hr f s =
    either_finds (ConflictsWith x) (λ pairs s y. s ≡ r) (Linked r x) t v m u (bit_at t (run_part * base + r)) (bit_at_lt t (run_part * base + r)) s f from to (λ pairs. swap pairs) (λ pairs. swap_back pairs)
  where
    from : (pairs : List Pair) (runs : List (List Step)) (h : List ℕ) → Both pairs runs h t v → (p : ℕ) → p < row_bits → bit_at t (run_part * base + r) p ≡ 1 → StepHas (λ s y. s ≡ r) runs h p
    from pairs runs h c p i b =
        let a = in_row pairs first_touches runs h t c.0 run_part r (run_part * base + r) p refl (omega arith) (omega arith) i b in record { inside = a.inside; holds = a.holds }

    to : (pairs : List Pair) (runs : List (List Step)) (h : List ℕ) → Both pairs runs h t v → (p : ℕ) → p < row_bits → StepHas (λ s y. s ≡ r) runs h p → bit_at t (run_part * base + r) p ≡ 1
    to pairs runs h c p i a =
        to_row pairs first_touches runs h t c.0 run_part r (run_part * base + r) p refl (omega arith) (omega arith) i (record { inside = a.inside; has = tt; holds = a.holds })

    swap : (pairs : List Pair) (s : ℕ) (y : Step) → ConflictsWith x pairs s y ⊎ (s ≡ r) → Linked r x pairs s y
    swap pairs s y (inl a) = inr a
    swap pairs s y (inr a) = inl a

    swap_back : (pairs : List Pair) (s : ℕ) (y : Step) → Linked r x pairs s y → ConflictsWith x pairs s y ⊎ (s ≡ r)
    swap_back pairs s y (inl a) = inr a
    swap_back pairs s y (inr a) = inl a

-- ---- one step more

entered_more : (t u v : List ℕ) (q r : ℕ) (x : Touch) (k row : ℕ) → q < row_bits → PartRow r x k row → Marked u v row q → Entered t u q r x k → Entered t v q r x (k + 1)
entered_more t u v q r x k row hq d m w = record {
  here = λ j l. here j (below_next j k l) (ℕ_discrete (j * base + part r x j) row);
  other = λ y p h n. m.other y p h (λ z. n z.1 (omega (arith, z.0, d.is, d.low)) (in_part y z.0)) ∙ w.other y p h (λ a b c. n a (omega arith) c);
}
  where
    here : (j : ℕ) → (j ≡ k) ⊎ (j < k) → Dec (j * base + part r x j ≡ row) → bit_at v (j * base + part r x j) q ≡ 1
    here j o (yes e) = rw e m.here
    here j (inl z) (no n) = absurd (n (rw z (sym d.is)))
    here j (inr l) (no n) = m.other (j * base + part r x j) q hq (λ z. n z.0) ∙ w.here j l

    in_part : (y : ℕ) → y ≡ row → part r x (y / base) ≡ y % base
    in_part y e =
        let ek : y / base ≡ k = omega (arith, d.is, d.low) in
        ap (part r x) ek ∙ omega (arith, d.is, d.low)

-- the place whose column the row has
module _ (t column : List ℕ) (r : ℕ) (x : Touch) where
  pub parts_more : (u v : List ℕ) (k row : ℕ) → PartRow r x k row → Replaced u v row (union (bit_at u row) (bit_at column 0)) → PartsEntered t u column r x k
      → PartsEntered t v column r x (k + 1)
  parts_more u v k row d w f = record { place = λ q h a. entered_more t u v q r x k row h d (alone_added u v column row q h a w) (f.place q h a) }

-- no touch has a part beyond the last
part_few : (r : ℕ) (x : Touch) (k v : ℕ) → v < base → part r x k ≡ v → k < parts
part_few r x zero v l e = omega arith
part_few r x (suc zero) v l e = omega arith
part_few r x (suc (suc zero)) v l e = omega arith
part_few r x (suc (suc (suc zero))) v l e = omega arith
part_few r x (suc (suc (suc (suc zero)))) v l e = omega arith
part_few r x (suc (suc (suc (suc (suc zero))))) v l e = omega arith
part_few r x (suc (suc (suc (suc (suc (suc k)))))) v l e = omega arith

-- the rows of the kinds
module _ (pairs t : List ℕ) (q kind : ℕ) where
  module _ (k : ℕ) (answer : Bool) (e : answer ≡ listed (pairs_of pairs) kind k) where
    left : answer ≡ false → KindEntered pairs t t q kind k
    left z = record {
      more = λ s w. record {
        here = λ v l f. here s w v f (below_next v k l);
        other = λ y p h n. w.other y p h (λ a v l f g. n a v (omega arith) f g);
      };
    }
      where
        here : (s : List ℕ) → KindsEntered pairs s t q kind k → (v : ℕ) → T (listed (pairs_of pairs) kind v) → (v ≡ k) ⊎ (v < k) → bit_at t (part_rows + v) q ≡ 1
        here s w v f (inl d) = absurd (rw (d, ← e, z) at f)
        here s w v f (inr l) = w.here v l f

    marked : (u : List ℕ) → answer ≡ true → q < row_bits → Marked t u (part_rows + k) q → KindEntered pairs t u q kind k
    marked u z hq m = record {
      more = λ s w. record {
        here = λ v l f. here s w v f (below_next v k l) (ℕ_discrete v k);
        other = λ y p h n. m.other y p h (λ a. n a.1 k (omega arith) a.0 (rw (← e, z) tt)) ∙ w.other y p h (λ a v l f g. n a v (omega arith) f g);
      };
    }
      where
        here : (s : List ℕ) → KindsEntered pairs s t q kind k → (v : ℕ) → T (listed (pairs_of pairs) kind v) → (v ≡ k) ⊎ (v < k) → Dec (v ≡ k) → bit_at u (part_rows + v) q ≡ 1
        here s w v f o (yes d) = rw d m.here
        here s w v f (inl d) (no n) = absurd (n d)
        here s w v f (inr l) (no n) = m.other (part_rows + v) q hq (λ a. n (omega (arith, a.0))) ∙ w.here v l f

module _ (pairs t column : List ℕ) (kind k : ℕ) (answer : Bool) (e : answer ≡ listed (pairs_of pairs) kind k) where
  pub kind_left : answer ≡ false → KindJoined pairs t t column kind k
  kind_left z = record { place = λ q h a. left pairs t q kind k answer e z }

  pub kind_joined : (u : List ℕ) → answer ≡ true → Replaced t u (part_rows + k) (union (bit_at t (part_rows + k)) (bit_at column 0)) → KindJoined pairs t u column kind k
  kind_joined u z w = record { place = λ q h a. marked pairs t q kind k answer e u z h (alone_added t u column (part_rows + k) q h a w) }

-- the run and the step of the place that is read
module _ (runs : List (List Step)) (h : List ℕ) (r : ℕ) where
  pub last_run : run (h ++ r ∷ []) (length h) ≡ r
  last_run = get_or-append_seam h r [] 0

  pub last_step : done_step runs (h ++ r ∷ []) (length h) ≡ step_of runs r (count h r)
  unfolding ordinal
  last_step = rw (last_run, take-append_seam h (r ∷ []))

  pub front_step : (p : ℕ) → p < length h → done_step runs (h ++ r ∷ []) p ≡ done_step runs h p
  front_step p i = let s = front h (r ∷ []) p i in rw (s.runs, s.ordinals)

module _ (pairs : List ℕ) (w : Which) (runs : List (List Step)) (h t : List ℕ) (q r : ℕ) (x : Step) (eq : length h ≡ q) (ex : step_of runs r (count h r) ≡ x)
    (c : Catalogued (pairs_of pairs) w runs h t) where
  last_is : done_step runs (h ++ r ∷ []) q ≡ x
  last_is = rw (← eq) (last_step runs h r ∙ ex)

  front_part : (p k : ℕ) → p < length h → part (run_in w (run (h ++ r ∷ []) p)) (touch_in w (done_step runs (h ++ r ∷ []) p)) k ≡ part (run_in w (run h p)) (touch_in w (done_step runs h p)) k
  front_part p k i = rw (front_step runs h r p i, (front h (r ∷ []) p i).runs)

  longer : length (h ++ r ∷ []) ≡ suc (length h)
  longer = length_snoc h r

  -- a place of h, in the longer history and back
  front_in : (p y : ℕ) → PartIs w runs h p y → PartIs w runs (h ++ r ∷ []) p y
  front_in p y a = record { inside = omega (arith, longer, a.inside); has = rw (front_step runs h r p a.inside) a.has; is = front_part p (y / base) a.inside ∙ a.is }

  front_out : (p y : ℕ) → p < length h → PartIs w runs (h ++ r ∷ []) p y → PartIs w runs h p y
  front_out p y i a = record { inside = i; has = rw (front_step runs h r p i) at a.has; is = sym (front_part p (y / base) i) ∙ a.is }

  paired_in : (p v : ℕ) → PairedWith (pairs_of pairs) w runs h p v → PairedWith (pairs_of pairs) w runs (h ++ r ∷ []) p v
  paired_in p v a = record { inside = omega (arith, longer, a.inside); has = rw (front_step runs h r p a.inside) a.has; paired = rw (front_step runs h r p a.inside) a.paired }

  paired_out : (p v : ℕ) → p < length h → PairedWith (pairs_of pairs) w runs (h ++ r ∷ []) p v → PairedWith (pairs_of pairs) w runs h p v
  paired_out p v i a = record { inside = i; has = rw (front_step runs h r p i) at a.has; paired = rw (front_step runs h r p i) at a.paired }

  -- a step without such a touch leaves the catalogue as it is
  catalogued_same : (HasTouch w x → ⊥) → Catalogued (pairs_of pairs) w runs (h ++ r ∷ []) t
  catalogued_same none = record {
    sound = λ p y hp hy b. front_in p y (c.sound p y hp hy b);
    complete = λ p y hp hy a. c.complete p y hp hy (front_out p y (before p a.inside a.has (ℕ_discrete p q)) a);
    kinds_sound = λ p v hp hv b. paired_in p v (c.kinds_sound p v hp hv b);
    kinds_complete = λ p v hp hv a. c.kinds_complete p v hp hv (paired_out p v (before p a.inside a.has (ℕ_discrete p q)) a);
    no_more = c.no_more;
  }
    where
      before : (p : ℕ) → p < length (h ++ r ∷ []) → HasTouch w (done_step runs (h ++ r ∷ []) p) → Dec (p ≡ q) → p < length h
      before p i a (yes z) = absurd (none (rw (z, last_is) at a))
      before p i a (no n) = omega (arith, longer)

  module _ (u : List ℕ) (e : TouchEntered pairs t u q (run_in w r) (touch_in w x)) (hq : q < row_bits) where
    last_part : (k : ℕ) → part (run_in w (run (h ++ r ∷ []) q)) (touch_in w (done_step runs (h ++ r ∷ []) q)) k ≡ part (run_in w r) (touch_in w x) k
    last_part k = rw (← eq, last_step runs h r, last_run runs h r, ex)

    -- a row of the parts is not changed by the kinds, nor one of a kind by the parts
    by_parts_alone : (y p : ℕ) → p < row_bits → y < part_rows → bit_at u y p ≡ bit_at e.between y p
    by_parts_alone y p hp hy = e.by_kinds.other y p hp (λ a v l d f. omega arith)

    by_kinds_alone : (v p : ℕ) → p < row_bits → bit_at e.between (part_rows + v) p ≡ bit_at t (part_rows + v) p
    by_kinds_alone v p hp = e.by_parts.other (part_rows + v) p hp (λ a l d. omega arith)

    inside_not : (p : ℕ) → p < length h → p ≡ q → ⊥
    inside_not p i z = omega arith

    catalogued_more : HasTouch w x → Catalogued (pairs_of pairs) w runs (h ++ r ∷ []) u
    catalogued_more has = record {
      sound = λ p y hp hy b. sound p y hp hy (sym (by_parts_alone y p hp hy) ∙ b) (ℕ_discrete p q) (ℕ_discrete (part (run_in w r) (touch_in w x) (y / base)) (y % base));
      complete = λ p y hp hy a. by_parts_alone y p hp hy ∙ complete p y hp hy a (ℕ_discrete p q);
      kinds_sound = λ p v hp hv b. kinds_sound p v hp hv b (ℕ_discrete p q) (dec_T (listed (pairs_of pairs) (touch_in w x).kind v));
      kinds_complete = λ p v hp hv a. kinds_complete p v hp hv a (ℕ_discrete p q);
      no_more = λ p y hp l hy. e.by_kinds.other y p hp (λ a v k d f. omega arith) ∙ e.by_parts.other y p hp (λ a k d. omega arith) ∙ c.no_more p y hp l hy;
    }
      where
        sound : (p y : ℕ) → p < row_bits → y < part_rows → bit_at e.between y p ≡ 1 → Dec (p ≡ q) → Dec (part (run_in w r) (touch_in w x) (y / base) ≡ y % base) → PartIs w runs (h ++ r ∷ []) p y
        sound p y hp hy b (yes z) (yes f) = record { inside = omega (arith, longer); has = rw (z, last_is) has; is = rw z (last_part (y / base) ∙ f) }
        sound p y hp hy b (yes z) (no n) = absurd (inside_not p (c.sound p y hp hy (sym (e.by_parts.other y p hp (λ a d f. n f)) ∙ b)).inside z)
        sound p y hp hy b (no n) o = front_in p y (c.sound p y hp hy (sym (e.by_parts.other y p hp (λ a d f. n a)) ∙ b))

        complete : (p y : ℕ) → p < row_bits → y < part_rows → PartIs w runs (h ++ r ∷ []) p y → Dec (p ≡ q) → bit_at e.between y p ≡ 1
        complete p y hp hy a (yes z) = rw z (rw at_row at (e.by_parts.here (y / base) (part_few (run_in w r) (touch_in w x) (y / base) (y % base) (omega arith) is)))
          where
            is : part (run_in w r) (touch_in w x) (y / base) ≡ y % base
            is = sym (last_part (y / base)) ∙ (rw z at a.is)

            at_row : y / base * base + part (run_in w r) (touch_in w x) (y / base) ≡ y
            at_row = omega (arith, is)
        complete p y hp hy a (no n) = e.by_parts.other y p hp (λ a d f. n a) ∙ c.complete p y hp hy (front_out p y (omega (arith, longer, a.inside)) a)

        kinds_sound : (p v : ℕ) → p < row_bits → v < kind_limit → bit_at u (part_rows + v) p ≡ 1 → Dec (p ≡ q) → Dec (T (listed (pairs_of pairs) (touch_in w x).kind v))
            → PairedWith (pairs_of pairs) w runs (h ++ r ∷ []) p v
        kinds_sound p v hp hv b (yes z) (yes f) = record { inside = omega (arith, longer); has = rw (z, last_is) has; paired = rw (z, last_is) f }
        kinds_sound p v hp hv b (yes z) (no n) =
            absurd (inside_not p (c.kinds_sound p v hp hv (sym (by_kinds_alone v p hp) ∙ sym (e.by_kinds.other (part_rows + v) p hp (λ a k l d f. n (same k d f))) ∙ b)).inside z)
          where
            same : (k : ℕ) → part_rows + v ≡ part_rows + k → T (listed (pairs_of pairs) (touch_in w x).kind k) → T (listed (pairs_of pairs) (touch_in w x).kind v)
            same k d f = let g : v ≡ k = omega arith in rw g f
        kinds_sound p v hp hv b (no n) o = paired_in p v (c.kinds_sound p v hp hv (sym (by_kinds_alone v p hp) ∙ sym (e.by_kinds.other (part_rows + v) p hp (λ a k l d f. n a)) ∙ b))

        kinds_complete : (p v : ℕ) → p < row_bits → v < kind_limit → PairedWith (pairs_of pairs) w runs (h ++ r ∷ []) p v → Dec (p ≡ q) → bit_at u (part_rows + v) p ≡ 1
        kinds_complete p v hp hv a (yes z) = rw z (e.by_kinds.here v hv (rw (z, last_is) at a.paired))
        kinds_complete p v hp hv a (no n) =
            e.by_kinds.other (part_rows + v) p hp (λ b k l d f. n b) ∙ by_kinds_alone v p hp ∙ c.kinds_complete p v hp hv (paired_out p v (omega (arith, longer, a.inside)) a)

module _ (pairs : List ℕ) (runs : List (List Step)) (h t t' v v' : List ℕ) (q r : ℕ) (x : Step) (eq : length h ≡ q) (ex : step_of runs r (count h r) ≡ x) (e : StepEntered pairs t t' v v' q r x)
    (hq : q < row_bits) where
  pub firsts_more : Catalogued (pairs_of pairs) first_touches runs h t → Catalogued (pairs_of pairs) first_touches runs (h ++ r ∷ []) t'
  firsts_more c = catalogued_more pairs first_touches runs h t q r x eq ex c t' e.first hq tt

  pub seconds_more : Catalogued (pairs_of pairs) second_touches runs h v → Catalogued (pairs_of pairs) second_touches runs (h ++ r ∷ []) v'
  seconds_more c = go x ex e.second
    where
      go : (x : Step) → step_of runs r (count h r) ≡ x → SecondEntered pairs v v' q x → Catalogued (pairs_of pairs) second_touches runs (h ++ r ∷ []) v'
      go (single t) ex s = rw s (catalogued_same pairs second_touches runs h v q r (single t) eq ex c (λ a. a))
      go (transfer t u) ex s = catalogued_more pairs second_touches runs h v q r (transfer t u) eq ex c v' s hq tt
