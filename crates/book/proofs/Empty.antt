-- The empty book is valid and holds nothing. Its tables' lengths are variables here, so that no long list is computed.
use Prim.Native.Nat.{ℕ, zero, suc, ◌<◌, zero-le}
use mathlib.Core.List.{List, []}
use mathlib.Core.Path.{◌≡◌, refl}
use native.Mathlib.Omega.{arith}
use lib.ListN.{replicate, length-replicate}
use Rattle.theory.proofs.Lists.{get_or_zeros, sum_zeros}
use Rattle.book.specs.Format.{run_limit, run_step_limit, step_limit, nothing}
use Rattle.book.specs.Book.{book_of_tables, set_counts, pairs_size, cuts_size, code_limit, flagged, contents_of, Flags, Column, HistoryValid, Valid, Represents, empty_book}
use Rattle.book.specs.Inner.Room.{Next}
use Rattle.book.specs.declared.Book.{Book}

none_flagged : (i n : ℕ) → flagged i (replicate n 0) ≡ []
none_flagged i zero = refl
none_flagged i (suc n) = none_flagged (suc i) n

flags_zero : (n : ℕ) → Flags n (replicate n 0)
flags_zero n = record { long = length-replicate n 0; small = λ i. omega (arith, get_or_zeros n i) }

column_zero : (n limit end : ℕ) → 0 < limit → Column n limit end (replicate n 0)
column_zero n limit end h = record { long = length-replicate n 0; small = λ i. omega (arith, get_or_zeros n i); blank = λ i l. get_or_zeros n i }

next_zero : (n : ℕ) → Next (replicate n 0) 0
next_zero n = record { clear = λ i l. get_or_zeros n i; last = rw (none_flagged 0 n) }

-- no step is done
history_zero : (ls : List ℕ) (n m : ℕ) → n ≡ step_limit → m ≡ run_limit → HistoryValid ls (replicate m 0) (replicate n 0) 0
history_zero ls n m hn hm = record {
  history = rw (← hn) (column_zero n run_limit 0 (omega arith));
  long = rw length-replicate hm;
  total = sum_zeros m;
  counts = get_or_zeros m;
  within = λ r. rw (get_or_zeros m r) zero-le;
}

pub history_empty : (ls : List ℕ) → HistoryValid ls (replicate run_limit 0) (replicate step_limit 0) 0
history_empty ls = history_zero ls step_limit run_limit refl refl

abbrev zero_book : ℕ → ℕ → ℕ → ℕ → Book
zero_book p c n m = book_of_tables (replicate p 0) (replicate c 0) (replicate n 0) (replicate m 0) (replicate m 0) (replicate n 0) 0 0 0

zero_contents : (p c n m : ℕ) → contents_of (zero_book p c n m) ≡ nothing
unfolding contents_of
zero_contents p c n m = rw (none_flagged 0 p, none_flagged 0 c)

zero_valid : (p c n m : ℕ) → p ≡ pairs_size → c ≡ cuts_size → n ≡ step_limit → m ≡ run_limit → Valid (zero_book p c n m)
zero_valid p c n m hp hc hn hm = record {
  pairs = rw (← hp) (flags_zero p);
  runs = record {
    lengths = rw (← hm) (column_zero m (suc run_step_limit) 0 (omega arith));
    steps = rw (← hn) (column_zero n code_limit 0 (omega arith));
    few_runs = zero-le;
    few_steps = zero-le;
    total = refl;
  };
  cuts = rw (← hc) (flags_zero c);
  history = history_zero (replicate m 0) n m hn hm;
}

pub represents_empty : Represents nothing empty_book
unfolding empty_book
represents_empty = record { contents = zero_contents pairs_size cuts_size step_limit run_limit; valid = zero_valid pairs_size cuts_size step_limit run_limit refl refl refl refl }

pub next_empty_pairs : Next empty_book.pairs 0
unfolding empty_book
next_empty_pairs = next_zero pairs_size

pub next_empty_cuts : Next empty_book.cuts 0
unfolding empty_book
next_empty_cuts = next_zero cuts_size

-- its counts are 0, so that it is the book of its tables with these counts
pub empty_counted : set_counts empty_book 0 0 0 ≡ empty_book
unfolding empty_book
empty_counted = refl
