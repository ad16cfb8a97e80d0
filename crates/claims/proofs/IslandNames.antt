-- A book has one contents, its islands one name each, and it is decided whether a run is an island's smallest.
use Prim.Native.Nat.{ℕ}
use native.Mathlib.Decide.{ℕ_discrete, dec_lt, map_dec}
use mathlib.Core.Path.{◌≡◌, ap, subst}
use mathlib.Core.List.{List}
use lib.ListN.{length}
use Rattle.theory.specs.Components.{Joined}
use Rattle.theory.proofs.Connected.{smallest_unique}
use Rattle.theory.proofs.Finite.{dec_both}
use Rattle.book.specs.Format.{Contents, accepted, read}
use Rattle.book.specs.Meaning.{conflict_of}
use Rattle.islands.specs.Islands.{IslandsOf, Smallest, island_book}

pub dec_smallest : (c : Contents) (name : ℕ → ℕ) (m : ℕ) → Dec (Smallest c name m)
dec_smallest c name m = map_dec (λ t. record { declared = t.0; own = t.1 }) (λ s. (s.declared, s.own)) (dec_both (dec_lt m (length c.runs)) (ℕ_discrete (name m) m))

-- one book has one outcome
pub one_contents : (s : List ℕ) (c d : Contents) → read s ≡ accepted c → read s ≡ accepted d → c ≡ d
one_contents s c d e f = cc

-- a book's islands have one name each
pub one_name_each : (c : Contents) (f g : ℕ → ℕ) → IslandsOf c f → IslandsOf c g → f ≡ g
one_name_each c f g a b = λ i r. smallest_unique (Joined (conflict_of c) c.history) (a r) (b r) i

-- a promise on the island by the one name is one by the other
module _ (c : Contents) (m : ℕ) (f g : ℕ → ℕ) (a : IslandsOf c f) (b : IslandsOf c g) where
  pub same_smallest : Smallest c f m → Smallest c g m
  same_smallest s = subst (λ (n : ℕ → ℕ). Smallest c n m) (one_name_each c f g a b) s

  pub same_book : island_book c f m ≡ island_book c g m
  same_book = ap (λ (n : ℕ → ℕ). island_book c n m) (one_name_each c f g a b)
