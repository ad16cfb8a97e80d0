-- The bytes of each element: of two lists, of one element more, and how many they are.
use Prim.Native.Nat.{ℕ, ◌*◌}
use mathlib.Core.Path.{◌≡◌, refl, sym, ap, ◌∙◌}
use mathlib.Core.List.{List, [], ◌∷◌, ◌++◌, map, append_assoc, append-nil}
use native.Mathlib.Omega.{arith}
use lib.ListN.{length, length-append}
use Rattle.buffer.specs.Each.{each}

module _ {A : Type 0} (f : A → List ℕ) where
  pub each_append : (xs ys : List A) → each f (xs ++ ys) ≡ each f xs ++ each f ys
  each_append [] ys = refl
  each_append (x ∷ xs) ys = ap (λ (l : List ℕ). f x ++ l) (each_append xs ys) ∙ sym (append_assoc (f x) (each f xs) (each f ys))

  pub each_snoc : (xs : List A) (x : A) → each f (xs ++ x ∷ []) ≡ each f xs ++ f x
  each_snoc xs x = each_append xs (x ∷ []) ∙ rw append-nil

  pub each_length : (k : ℕ) → ((x : A) → length (f x) ≡ k) → (xs : List A) → length (each f xs) ≡ k * length xs
  each_length k h [] = omega arith
  each_length k h (x ∷ xs) = omega (arith, length-append (f x) (each f xs), h x, each_length k h xs)

  -- of the images of another list's elements
  pub each_map : {B : Type 0} (g : B → A) (xs : List B) → each f (map g xs) ≡ each (λ x. f (g x)) xs
  each_map g [] = refl
  each_map g (x ∷ xs) = ap (λ (l : List ℕ). f (g x) ++ l) (each_map g xs)
