-- The arcs from one place to another by name: which of I, D, F and B lead there (document 02, change 5).
use Rattle.std.specs.Prelude.{ℕ, ◌+◌, Bool, cond, List, [], ◌∷◌, ◌++◌}
use Rattle.theory.proofs.Finite.{is_yes}
use Rattle.theory.proofs.Decided.{dec_arc_I, dec_arc_D, dec_arc_F, dec_arc_B}
use Rattle.names.specs.declared.ArcNames.{ArcNames}

-- the value of the names, for hosts and in a byte: the sum of I 1, D 2, F 4 and B 8, of those that hold
abbrev pub names_value : ArcNames → ℕ
names_value w = cond w.i 1 0 + (cond w.d 2 0 + (cond w.f 4 0 + cond w.b 8 0))

module _ (conflict : ℕ → ℕ → ℕ → ℕ → Bool) (unit : ℕ → ℕ → ℕ → ℕ) (h : List ℕ) where
  -- of each name, whether theory's ArcI, ArcD, ArcF or ArcB holds from x to y: `dec_arc_I h x y` is of type Dec (ArcI h x y), and so on
  unfoldable pub names_of : ℕ → ℕ → ArcNames
  names_of x y = record {
    i = is_yes (dec_arc_I h x y);
    d = is_yes (dec_arc_D conflict h x y);
    f = is_yes (dec_arc_F conflict unit h x y);
    b = is_yes (dec_arc_B conflict unit h x y);
  }

  -- the names from each of xs to the one at the same index of ys
  abbrev pub names_between : List ℕ → List ℕ → List ArcNames
  names_between [] ys = []
  names_between (x ∷ xs) [] = []
  names_between (x ∷ xs) (y ∷ ys) = names_of x y ∷ names_between xs ys

-- the place after each of a cycle's places: the next, and after the last the first
abbrev pub after_each : List ℕ → List ℕ
after_each [] = []
after_each (x ∷ c) = c ++ x ∷ []

-- for each arc of a cycle in turn, the one back to the first place last, its names
abbrev pub cycle_names : (ℕ → ℕ → ℕ → ℕ → Bool) → (ℕ → ℕ → ℕ → ℕ) → List ℕ → List ℕ → List ArcNames
cycle_names conflict unit h c = names_between conflict unit h c (after_each c)
