-- Laws of a search through the words of a row, upwards by their trailing zeros and downwards by their leading zeros.
use mathlib.Core.Path.{◌≡◌, refl, sym, ap, ◌∙◌}
use mathlib.Core.Bool.{Bool, true, false, not, true≢false}
use Rattle.std.proofs.Common.{Option, Some, None, is_some}
use Prim.Native.Nat.{ℕ, ◌+◌, ◌-◌, ◌*◌, ◌≤◌, ◌<◌}
use native.Mathlib.Decide.{dec_lt}
use native.Mathlib.Omega.{arith}
use lib.Count.{count_trailing_zeros}
use Rattle.bits.specs.Table.{row_words, row_bits, bit, difference, Subset}
use Rattle.bits.specs.First.{FirstAt, NoColumn, First}
use Rattle.bits.specs.Last.{LastAt}
use Rattle.bits.specs.Inner.Words.{BitLength, WordOf}
use Rattle.bits.proofs.Word.{trailing_at, trailing_below}
use Rattle.bits.proofs.Store.{at_column}

-- b is the first bit of the word w, or w has none and b is 64 or more
pub record Lowest (w b : ℕ) : Type 0 where
  pub here : b < 64 → bit w b ≡ 1
  pub before : (j : ℕ) → j < b → bit w j ≡ 0

pub lowest : (w : ℕ) → Lowest w (count_trailing_zeros 64 w)
lowest w = record { here = trailing_at 64 w; before = λ j h. trailing_below 64 w j h }

-- f has no column before the word k
pub record NoneYet (f : ℕ → ℕ) (k : ℕ) : Type 0 where
  pub none : (j : ℕ) → j < 64 * k → f j ≡ 0

-- b is the first bit of the word w, which holds the columns of f in the word k
module _ {f : ℕ → ℕ} {k w b : ℕ} (n : NoneYet f k) (l : Lowest w b) (word : WordOf f k w) where
  none_before : (j : ℕ) → j < 64 * k + b → j < 64 * (k + 1) → f j ≡ 0
  none_before j h r = go (dec_lt j (64 * k))
    where
      go : Dec (j < 64 * k) → f j ≡ 0
      go (yes q) = n.none j q
      go (no q) =
          let e : 64 * k + (j - 64 * k) ≡ j = omega arith in
          ap f (sym e) ∙ sym (at_column f (bit w) k word.columns (j - 64 * k) (omega arith)) ∙ l.before (j - 64 * k) (omega arith)

  pub found_at : k < row_words → b < 64 → FirstAt f (64 * k + b)
  found_at hk hb = record {
    in_row = omega arith;
    here = sym (at_column f (bit w) k word.columns b hb) ∙ l.here hb;
    before = λ j h. none_before j h (omega arith);
  }

  pub none_yet_more : 64 ≤ b → NoneYet f (k + 1)
  none_yet_more hb = record { none = λ j h. none_before j (omega arith) (omega arith) }

-- ---- downwards

-- f has no column in the word k or a later one
pub record NoneAbove (f : ℕ → ℕ) (k : ℕ) : Type 0 where
  pub within : k ≤ row_words
  pub none : (j : ℕ) → 64 * k ≤ j → j < row_bits → f j ≡ 0

-- b is the length of the word w, which holds the columns of f in the word k - 1
module _ {f : ℕ → ℕ} {k w b : ℕ} (n : NoneAbove f k) (hk : 0 < k) (l : BitLength w b) (word : WordOf f (k - 1) w) where
  none_after : (j : ℕ) → 64 * (k - 1) + b ≤ j → j < row_bits → f j ≡ 0
  none_after j a r = go (dec_lt j (64 * k))
    where
      go : Dec (j < 64 * k) → f j ≡ 0
      go (no q) = n.none j (omega arith) r
      go (yes q) =
          let e : 64 * (k - 1) + (j - 64 * (k - 1)) ≡ j = omega arith in
          ap f (sym e) ∙ sym (at_column f (bit w) (k - 1) word.columns (j - 64 * (k - 1)) (omega arith))
          ∙ l.after (j - 64 * (k - 1)) (omega arith) (omega arith)

  pub last_at : 0 < b → LastAt f (64 * (k - 1) + b - 1)
  last_at hb = record {
    in_row = omega (arith, n.within, l.in_word);
    here =
        let e : 64 * (k - 1) + (b - 1) ≡ 64 * (k - 1) + b - 1 = omega arith in
        ap f (sym e) ∙ sym (at_column f (bit w) (k - 1) word.columns (b - 1) (omega (arith, l.in_word))) ∙ l.here hb;
    after = λ j a h. none_after j (omega arith) h;
  }

  pub none_above_more : b ≤ 0 → NoneAbove f (k - 1)
  none_above_more hb = record { within = omega (arith, n.within); none = λ j a h. none_after j (omega arith) h }

-- ---- a set within another

module _ {f g : ℕ → ℕ} (f_lt : (c : ℕ) → f c < 2) (g_lt : (c : ℕ) → g c < 2) where
  outside_found : {c : ℕ} → FirstAt (difference f g) c → Subset f g false
  outside_found {c} a = record {
    sound = λ e. absurd (true≢false (sym e));
    complete = λ all. absurd (omega (arith, a.here, f_lt c, all c a.in_row (omega (arith, a.here, f_lt c))));
  }

  outside_none : NoColumn (difference f g) → Subset f g true
  outside_none n = record {
    sound = λ e c h one. omega (arith, n.none c h, g_lt c);
    complete = λ all. refl;
  }

  -- what a search for the first column outside finds
  pub outside_answer : (found : Option ℕ) (none : Bool) → is_some found ≡ not none → First (difference f g) found → Subset f g none
  outside_answer (Some c) false e a = outside_found a
  outside_answer None true e n = outside_none n
  outside_answer (Some c) true e a = absurd (true≢false e)
  outside_answer None false e n = absurd (true≢false (sym e))
