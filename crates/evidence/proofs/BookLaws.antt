-- What the checks and the names over tables say of a valid book's contents.
use Prim.Native.Nat.{ℕ}
use native.Mathlib.Omega.{arith}
use mathlib.Core.Path.{◌≡◌}
use mathlib.Core.Bool.{Bool, true, false, not}
use mathlib.Core.List.{List}
use lib.ListN.{take}
use borrow.Author.Tests.{not-true, not-false}
use Rattle.theory.specs.Relative.{Depends, Equivalent, RelativelySerial, RelativelySerialOrder}
use Rattle.theory.specs.Graph.{Cycle}
use Rattle.book.specs.Format.{with_history, Allowed}
use Rattle.book.specs.Meaning.{conflict_of, unit_of}
use Rattle.book.specs.Book.{contents_of, Valid, Represents}
use Rattle.book.specs.declared.Book.{Book}
use Rattle.book.proofs.Books.{count_is, length_is}
use Rattle.theory.specs.Answers.{Answers}
use Rattle.theory.proofs.Answered.{answer_no, refute}
use Rattle.dependence.specs.Marks.{Marks}
use Rattle.names.specs.Names.{names_of}
use Rattle.graph.specs.Inner.Arcs.{GraphOf}
use Rattle.graph.specs.declared.graph.Graph.{Graph}
use Rattle.names.specs.Inner.Tables.{NamesBy}
use Rattle.names.specs.declared.ArcNames.{ArcNames}
use Rattle.evidence.specs.Inner.Tables.{EquivalentBy, CycleBy}

module _ (conflict : ℕ → ℕ → ℕ → ℕ → Bool) (unit : ℕ → ℕ → ℕ → ℕ) (h : List ℕ) (g : Graph) (b : GraphOf conflict unit h g) where
  pub graph_cycle : (c : List ℕ) (r : Bool) → CycleBy g c r → Answers (Cycle conflict unit h c) r
  graph_cycle c r a = rw (← b.history_is) (a.answers (record { conflict = conflict; unit = unit; by = b.tables_are }))

  pub graph_names : (x y : ℕ) (w : ArcNames) → NamesBy g x y w → w ≡ names_of conflict unit h x y
  graph_names x y w a = rw (← b.history_is) (a.by (record { conflict = conflict; unit = unit; by = b.tables_are }))

module _ (b : Book) (v : Valid b) where
  module _ (dep : List ℕ) (m : Marks (Depends (conflict_of (contents_of b)) (contents_of b).history) dep) (l : List ℕ) (t : Bool) (a : EquivalentBy (take b.done b.history) dep l t) where
    equivalent : Answers (Equivalent (conflict_of (contents_of b)) (contents_of b).history l) t
    unfolding contents_of
    equivalent = a.answers (conflict_of (contents_of b)) m

    pub not_equivalent : not t ≡ true → Answers (RelativelySerialOrder (conflict_of (contents_of b)) (unit_of (contents_of b)) (contents_of b).history l) false
    not_equivalent e = answer_no (λ s. refute equivalent (not-true t e) s.equivalent)

    module _ (e : not t ≡ false) where
      -- an order holds no run more often than the history, which has its steps
      pub order_allowed : Allowed l (contents_of b)
      order_allowed r = omega (arith, (equivalent.sound (not-false t e)).order r, count_is b v r, v.history.within r, length_is b v r)

      pub order_answer : (u : Book) → Represents (with_history (contents_of b) l) u → (q : Bool) → Answers (RelativelySerial (conflict_of (contents_of u)) (unit_of (contents_of u)) (contents_of u).history) q
          → Answers (RelativelySerialOrder (conflict_of (contents_of b)) (unit_of (contents_of b)) (contents_of b).history l) q
      order_answer u w q s =
          let r : Answers (RelativelySerial (conflict_of (contents_of b)) (unit_of (contents_of b)) l) q = rw w.contents at s in
          record { sound = λ x. record { equivalent = equivalent.sound (not-false t e); serial = r.sound x }; complete = λ x. r.complete x.serial }
