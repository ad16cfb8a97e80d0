-- Histories that a book's runs allow: its own is one, and a book with any of them in its place is a book.
use Prim.Native.Nat.{ℕ, zero, suc, ◌≤◌, ◌<◌, zero-le}
use mathlib.Core.Path.{◌≡◌, refl}
use mathlib.Core.List.{List, [], ◌∷◌, ◌++◌, append_assoc, append-nil}
use mathlib.Core.Bool.{Bool, true, false}
use native.Mathlib.Omega.{arith}
use borrow.Author.Tests.{ltb-true, lt-ltb, eqb-true, eq-eqb}
use lib.ListN.{length, get_or}
use lib.Dec.{eqb}
use Rattle.theory.specs.History.{count, suc_if}
use Rattle.theory.proofs.Lists.{count_append, count_snoc, get_or_inside}
use Rattle.book.specs.Format.{Bytes, Contents, with_history, Allowed, lengths, pair, run, step, cut, done, command_bytes, operand_tests, ReadState, next_state}
use Rattle.book.specs.declared.Rules.{Rules}
use Rattle.book.proofs.Groups.{length_lengths}
use Rattle.book.proofs.FormatLaws.{Permitted, WellFormed, empty, more, IsBook}
use Rattle.book.proofs.RenderLaws.{grouped}
use Rattle.book.proofs.Sizes.{few}

-- ---- a book's own history is one that its runs allow

pub well_formed_allowed : {ρ : Rules} {t : ReadState} → WellFormed ρ t → Allowed t.contents.history t.contents
unfolding operand_tests
well_formed_allowed empty r = zero-le
well_formed_allowed (more w (pair p) h) r = well_formed_allowed w r
well_formed_allowed (more w (run q) h) r = rw ((grouped w).history (omega arith)) zero-le
well_formed_allowed (more w (step x) h) r = rw ((grouped w).history (omega arith)) zero-le
well_formed_allowed (more w (cut c) h) r = well_formed_allowed w r
well_formed_allowed (more {t} w (done q) h) r = rw (count_snoc t.contents.history q r) (go (eqb q r) (eqb-true q r) (well_formed_allowed w r))
  where
    go : (b : Bool) → (b ≡ true → q ≡ r) → count t.contents.history r ≤ get_or (lengths t.contents.runs) r 0 → suc_if b (count t.contents.history r) ≤ get_or (lengths t.contents.runs) r 0
    go true e l = rw (← e refl) (ltb-true _ _ h.operands.1.0)
    go false e l = l

-- ---- a book with another history is a book

done_bytes : (r : ℕ) → r < 256 → Bytes (command_bytes (done r))
done_bytes r h zero = omega arith
done_bytes r h (suc zero) = h
done_bytes r h (suc (suc i)) = omega arith

module _ {ρ : Rules} where
  -- where no 48 has come
  not_begun : {t : ReadState} → WellFormed ρ t → t.group ≤ 2 → IsBook ρ (with_history t.contents [])
  not_begun {t} w g = record { state = t; well_formed = w; contents = rw (← (grouped w).history g) }

  without_history : {t : ReadState} → WellFormed ρ t → IsBook ρ (with_history t.contents [])
  without_history empty = not_begun empty zero-le
  without_history (more w (pair p) h) = not_begun (more w (pair p) h) zero-le
  without_history (more w (run r) h) = not_begun (more w (run r) h) (omega arith)
  without_history (more w (step x) h) = not_begun (more w (step x) h) (omega arith)
  without_history (more w (cut c) h) = not_begun (more w (cut c) h) (omega arith)
  without_history (more w (done r) h) = without_history w

  -- a run that has a step left may do it
  done_permitted : {t : ReadState} → WellFormed ρ t → (r : ℕ) → count t.contents.history r < get_or (lengths t.contents.runs) r 0 → Permitted ρ t (done r)
  unfolding operand_tests
  done_permitted {t} w r left =
      let declared : r < length t.contents.runs = rw (← length_lengths) (get_or_inside (lengths t.contents.runs) r (omega arith)) in
      record {
        offered = refl;
        group = (grouped w).last;
        operands = (lt-ltb _ _ declared, (lt-ltb _ _ left, tt));
        bytes = done_bytes r (omega (arith, (few w).runs));
      }

  -- the numbers of k are done one after another, behind those of h
  add_history : (d : Contents) (k h : List ℕ) → IsBook ρ (with_history d h) → Allowed (h ++ k) d → IsBook ρ (with_history d (h ++ k))
  add_history d [] h b w = rw append-nil b
  add_history d (r ∷ k) h b w = rw (← append_assoc h (r ∷ []) k) (add_history d k (h ++ r ∷ []) one (rw append_assoc w))
    where
      same : suc_if (eqb r r) (count k r) ≡ suc (count k r)
      same = rw (eq-eqb r r refl)

      left : count h r < get_or (lengths d.runs) r 0
      left = omega (arith, w r, count_append h (r ∷ k) r, same)

      one : IsBook ρ (with_history d (h ++ r ∷ []))
      one = record {
        state = next_state (done r) b.state;
        well_formed = more b.well_formed (done r) (done_permitted b.well_formed r (rw b.contents left));
        contents = rw b.contents;
      }

  pub history_book : (d : Contents) (k : List ℕ) → IsBook ρ d → Allowed k d → IsBook ρ (with_history d k)
  history_book d k b w = add_history d k [] (rw (← b.contents) (without_history b.well_formed)) w
