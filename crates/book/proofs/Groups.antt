-- Laws of the lists that the groups of a book's tables stand for: runs, flags, columns, and what rises.
use Prim.Native.Nat.{ℕ, zero, suc, ◌+◌, ◌*◌, ◌/◌, ◌%◌, ◌≤◌, ◌<◌, zero-le}
use mathlib.Core.Path.{◌≡◌, refl, ap, ap₂, sym, ◌∙◌}
use mathlib.Core.List.{List, [], ◌∷◌, ◌++◌, map}
use mathlib.Core.Bool.{Bool, true, false, not}
use native.Mathlib.Omega.{arith}
use native.Mathlib.Decide.{dec_le, ℕ_discrete}
use native.Mathlib.Nat.{add-zero, zero-add}
use borrow.Author.Tests.{lt-ltb, le-ltb, le-leb, lt-leb, eq-eqb, ne_eqb}
use lib.ListN.{length, get_or, take, drop, set, length-append, length-drop, length-set}
use lib.Seq.{take_all, take-append-le, drop-append-le, drop-drop, length-take-le, get_or-set_other}
use lib.Dec.{ltb, leb, eqb}
use Rattle.theory.specs.Lists.{sum}
use Rattle.theory.specs.History.{suc_if, count}
use Rattle.theory.specs.Deck.{Step}
use Rattle.book.specs.Format.{kind_limit, run_limit, run_step_limit, last, pick, add_last, lengths, above_pair, above_cut}
use Rattle.book.specs.Book.{flagged, run_cuts, pair_of, cut_of, runs_of_lengths, Flags, Column}
use Rattle.book.specs.Inner.Room.{next_of, Next}
use Rattle.theory.proofs.Lists.{all_set}

pub last_snoc : (ns : List ℕ) (l : ℕ) → last (ns ++ l ∷ []) ≡ l
last_snoc [] l = refl
last_snoc (n ∷ []) l = refl
last_snoc (n ∷ m ∷ ns) l = last_snoc (m ∷ ns) l

-- runs
pub lengths_runs : (ns : List ℕ) (ss : List Step) → sum ns ≤ length ss → lengths (runs_of_lengths ns ss) ≡ ns
lengths_runs [] ss h = refl
lengths_runs (n ∷ ns) ss h =
    ap₂ (λ (a : ℕ) (l : List ℕ). a ∷ l) (length-take-le n ss (omega arith)) (lengths_runs ns (drop n ss) (simp length-drop (omega arith)))

pub length_lengths : (rs : List (List Step)) → length (lengths rs) ≡ length rs
length_lengths [] = refl
length_lengths (r ∷ rs) = ap suc (length_lengths rs)

pub runs_snoc : (ns : List ℕ) (n : ℕ) (ss : List Step) → runs_of_lengths (ns ++ n ∷ []) ss ≡ runs_of_lengths ns ss ++ take n (drop (sum ns) ss) ∷ []
runs_snoc [] n ss = refl
runs_snoc (m ∷ ns) n ss = rw (runs_snoc ns n (drop m ss), drop-drop (sum ns) m ss)

pub runs_more : (ns : List ℕ) (l : ℕ) (ss : List Step) (x : Step) → sum ns + l ≡ length ss
    → runs_of_lengths (ns ++ (l + 1) ∷ []) (ss ++ x ∷ []) ≡ add_last (runs_of_lengths (ns ++ l ∷ []) ss) x
runs_more [] l ss x h =
    rw (take_all (l + 1) (ss ++ x ∷ []) (simp length-append (omega arith)), take_all l ss (omega arith))
runs_more (n ∷ []) l ss x h =
    rw (
      take-append-le n ss (x ∷ []) (omega arith),
      drop-append-le n ss (x ∷ []) (omega arith),
      runs_more [] l (drop n ss) x (simp length-drop (omega arith)),
    )
runs_more (n ∷ m ∷ ns) l ss x h =
    rw (
      take-append-le n ss (x ∷ []) (omega arith),
      drop-append-le n ss (x ∷ []) (omega arith),
      runs_more (m ∷ ns) l (drop n ss) x (simp length-drop (omega arith)),
    )

-- flagged indices
pick_append : (t : Bool) (i : ℕ) (xs ys : List ℕ) → pick t (xs ++ ys) (i ∷ (xs ++ ys)) ≡ pick t xs (i ∷ xs) ++ ys
pick_append true i xs ys = refl
pick_append false i xs ys = refl

flagged_none : (i : ℕ) (xs : List ℕ) → ((k : ℕ) → ◌≡◌ {A = ℕ} (get_or xs k 0) 0) → flagged i xs ≡ []
flagged_none i [] f = refl
flagged_none i (x ∷ xs) f = rw (eq-eqb x 0 (f 0)) (flagged_none (suc i) xs (λ k. f (suc k)))

flagged_set : (i : ℕ) (xs : List ℕ) (c : ℕ) → c < length xs → ((k : ℕ) → c ≤ k → ◌≡◌ {A = ℕ} (get_or xs k 0) 0) → flagged i (set xs c 1) ≡ flagged i xs ++ (i + c) ∷ []
flagged_set i [] c h f = absurd (omega arith)
flagged_set i (x ∷ xs) zero h f =
    let e : flagged (suc i) xs ≡ [] = flagged_none (suc i) xs (λ k. f (suc k) zero-le) in
    rw (e, eq-eqb x 0 (f 0 zero-le), add-zero)
flagged_set i (x ∷ xs) (suc c) h f =
    let e : suc i + c ≡ i + suc c = omega arith in
    rw (flagged_set (suc i) xs c (omega arith) (λ k l. f (suc k) (omega arith)), e) (pick_append (eqb x 0) i (flagged (suc i) xs) ((i + suc c) ∷ []))

count_under : (l : List ℕ) (i c : ℕ) → c < i → count (flagged i l) c ≡ 0
count_under [] i c h = refl
count_under (x ∷ l) i c h = go (eqb x 0) (count_under l (suc i) c (omega arith))
  where
    go : (b : Bool) → count (flagged (suc i) l) c ≡ 0 → count (pick b (flagged (suc i) l) (i ∷ flagged (suc i) l)) c ≡ 0
    go true r = r
    go false r = rw (ne_eqb i c (λ q. omega arith)) r

count_from : (l : List ℕ) (i k : ℕ) → count (flagged i l) (i + k) ≡ suc_if (not (eqb (get_or l k 0) 0)) 0
count_from [] i k = refl
count_from (x ∷ l) i zero = go (eqb x 0) (count_under l (suc i) (i + zero) (omega arith))
  where
    go : (b : Bool) → count (flagged (suc i) l) (i + zero) ≡ 0 → count (pick b (flagged (suc i) l) (i ∷ flagged (suc i) l)) (i + zero) ≡ suc_if (not b) 0
    go true r = r
    go false r = rw (eq-eqb i (i + zero) (omega arith)) (ap suc r)
count_from (x ∷ l) i (suc k) = go (eqb x 0) (let s : suc i + k ≡ i + suc k = omega arith in rw (← s) (count_from l (suc i) k))
  where
    go : {n : ℕ} (b : Bool) → count (flagged (suc i) l) (i + suc k) ≡ n → count (pick b (flagged (suc i) l) (i ∷ flagged (suc i) l)) (i + suc k) ≡ n
    go true r = r
    go false r = rw (ne_eqb i (i + suc k) (λ q. omega arith)) r

-- an index stands in the list once where its flag is set
pub count_flagged : (l : List ℕ) (c : ℕ) → count (flagged 0 l) c ≡ suc_if (not (eqb (get_or l c 0) 0)) 0
count_flagged l c = ap (count (flagged 0 l)) (sym (zero-add c)) ∙ count_from l 0 c

next_snoc : (cs : List ℕ) (c : ℕ) → next_of (cs ++ c ∷ []) ≡ c + 1
next_snoc [] c = refl
next_snoc (d ∷ []) c = refl
next_snoc (d ∷ e ∷ cs) c = next_snoc (e ∷ cs) c

pub flagged_more : (xs : List ℕ) (next c : ℕ) → Next xs next → next ≤ c → c < length xs → flagged 0 (set xs c 1) ≡ flagged 0 xs ++ c ∷ []
flagged_more xs next c f l h =
    let e : 0 + c ≡ c = omega arith in
    flagged_set 0 xs c h (λ k g. f.clear k (omega arith)) ∙ rw e

pub next_more : (xs : List ℕ) (next c : ℕ) → Next xs next → next ≤ c → c < length xs → Next (set xs c 1) (c + 1)
next_more xs next c f l h = record {
  clear = λ k g. get_or-set_other xs c k 1 0 (omega arith) ∙ f.clear k (omega arith);
  last = sym (ap next_of (flagged_more xs next c f l h) ∙ next_snoc (flagged 0 xs) c);
}

pub flags_set : (n : ℕ) (xs : List ℕ) (i : ℕ) → Flags n xs → Flags n (set xs i 1)
flags_set n xs i f = record { long = simp length-set f.long; small = all_set (λ x. x ≤ 1) xs i 1 f.small (omega arith) }

-- a column after a store before its end
pub column_set : (n limit end : ℕ) (xs : List ℕ) (i v end' : ℕ) → Column n limit end xs → i < end' → end ≤ end' → v < limit → Column n limit end' (set xs i v)
column_set n limit end xs i v end' f h l s = record {
  long = simp length-set f.long;
  small = all_set (λ x. x < limit) xs i v f.small s;
  blank = λ k g. get_or-set_other xs i k v 0 (omega arith) ∙ f.blank k (omega arith);
}

pub column_more : (n limit end : ℕ) (xs : List ℕ) (end' : ℕ) → Column n limit end xs → end ≤ end' → Column n limit end' xs
column_more n limit end xs end' f l = record { long = f.long; small = f.small; blank = λ k g. f.blank k (omega arith) }

-- compared left to right is compared by index; there are as many kinds as runs
lex : (x y a b : ℕ) → y < run_limit → b < run_limit → pick (eqb x a) (ltb y b) (ltb x a) ≡ leb (x * run_limit + y + 1) (a * run_limit + b)
lex x y a b hy hb = go (ℕ_discrete x a) (dec_le (x * run_limit + y + 1) (a * run_limit + b))
  where
    go : Dec (x ≡ a) → Dec (x * run_limit + y + 1 ≤ a * run_limit + b) → pick (eqb x a) (ltb y b) (ltb x a) ≡ leb (x * run_limit + y + 1) (a * run_limit + b)
    go (yes e) (yes l) = rw (eq-eqb x a e, lt-ltb y b (omega arith), le-leb _ _ l)
    go (yes e) (no l) = rw (eq-eqb x a e, le-ltb y b (omega arith), lt-leb (x * run_limit + y + 1) (a * run_limit + b) (omega arith))
    go (no e) (yes l) = rw (ne_eqb x a e, lt-ltb x a (omega arith), le-leb _ _ l)
    go (no e) (no l) = rw (ne_eqb x a e, le-ltb x a (omega arith), lt-leb (x * run_limit + y + 1) (a * run_limit + b) (omega arith))

lex3 : (x y z a b c : ℕ) → y < run_step_limit → z < run_limit → b < run_step_limit → c < run_limit
    → pick (eqb x a) (pick (eqb y b) (ltb z c) (ltb y b)) (ltb x a) ≡ leb (x * run_cuts + y * run_limit + z + 1) (a * run_cuts + b * run_limit + c)
lex3 x y z a b c hy hz hb hc = rw (lex y z b c hz hc) (go (ℕ_discrete x a) (dec_le (x * run_cuts + y * run_limit + z + 1) (a * run_cuts + b * run_limit + c)))
  where
    go : Dec (x ≡ a) → Dec (x * run_cuts + y * run_limit + z + 1 ≤ a * run_cuts + b * run_limit + c)
        → pick (eqb x a) (leb (y * run_limit + z + 1) (b * run_limit + c)) (ltb x a) ≡ leb (x * run_cuts + y * run_limit + z + 1) (a * run_cuts + b * run_limit + c)
    go (yes e) (yes l) = rw (eq-eqb x a e, le-leb (y * run_limit + z + 1) (b * run_limit + c) (omega arith), le-leb _ _ l)
    go (yes e) (no l) = rw (eq-eqb x a e, lt-leb (y * run_limit + z + 1) (b * run_limit + c) (omega arith), lt-leb (x * run_cuts + y * run_limit + z + 1) (a * run_cuts + b * run_limit + c) (omega arith))
    go (no e) (yes l) = rw (ne_eqb x a e, lt-ltb x a (omega arith), le-leb _ _ l)
    go (no e) (no l) = rw (ne_eqb x a e, le-ltb x a (omega arith), lt-leb (x * run_cuts + y * run_limit + z + 1) (a * run_cuts + b * run_limit + c) (omega arith))

pub above_pair_index : (is : List ℕ) (x y : ℕ) → y < kind_limit → above_pair (map pair_of is) (record { a = x; b = y }) ≡ leb (next_of is) (x * kind_limit + y)
above_pair_index [] x y h = rw (le-leb 0 (x * kind_limit + y) zero-le)
above_pair_index (i ∷ []) x y h =
    let e : i / kind_limit * kind_limit + i % kind_limit + 1 ≡ i + 1 = omega arith in
    lex (i / kind_limit) (i % kind_limit) x y (omega arith) h ∙ rw e
above_pair_index (i ∷ j ∷ js) x y h = above_pair_index (j ∷ js) x y h

pub above_cut_index : (is : List ℕ) (r j o : ℕ) → j < run_step_limit → o < run_limit
    → above_cut (map cut_of is) (record { of_run = r; after = j; seen_by = o }) ≡ leb (next_of is) (r * run_cuts + j * run_limit + o)
above_cut_index [] r j o h k = rw (le-leb 0 (r * run_cuts + j * run_limit + o) zero-le)
above_cut_index (i ∷ []) r j o h k =
    let e : i / run_cuts * run_cuts + i % run_cuts / run_limit * run_limit + i % run_limit + 1 ≡ i + 1 = omega arith in
    lex3 (i / run_cuts) (i % run_cuts / run_limit) (i % run_limit) r j o (omega arith) (omega arith) h k ∙ rw e
above_cut_index (i ∷ i' ∷ is) r j o h k = above_cut_index (i' ∷ is) r j o h k
