-- The names of the components of a book's runs, found join by join: each run begins with its own name, and where a run links to another, the larger of their
-- names gives way to the smaller.
use Rattle.std.specs.Prelude.{Option, Some, None}
use Rattle.std.specs.Option.{is_some}
use Prim.Native.Nat.{ℕ, zero, suc, ◌+◌, ◌*◌, ◌≤◌, ◌<◌, min, max}
use native.Mathlib.Nat.{le_refl, not-suc-le-zero, le_of_suc-le-suc}
use native.Mathlib.Numerals.{add-one}
use native.Mathlib.Decide.{dec_le, dec_lt}
use native.Mathlib.Omega.{arith}
use mathlib.Core.Path.{◌≡◌, refl, sym, ap, ◌∙◌}
use mathlib.Core.Logic.{◌⊎◌, inl, inr, ◌≢◌}
use mathlib.Core.Bool.{Bool, cond}
use mathlib.Core.List.{List, [], ◌∷◌}
use lib.ListN.{length, get_or, get_or-eq_default}
use lib.Dec.{eqb}
use borrow.Author.Tests.{ne_eqb}
use Rattle.bits.specs.Table.{row_bits, bit_at, intersection, RowCopied}
use Rattle.bits.specs.Last.{Last}
use Rattle.bits.proofs.Store.{bit_at_lt}
use Rattle.theory.specs.History.{run}
use Rattle.theory.specs.Relative.{Lawful, Conflicting}
use Rattle.theory.specs.Components.{Joined, itself, joined}
use Rattle.theory.specs.Answers.{Answers}
use Rattle.theory.proofs.Answered.{answer_yes, answer_no}
use Rattle.theory.proofs.Finite.{below_suc}
use Rattle.theory.proofs.Steps.{conf_ne}
use Rattle.theory.proofs.Connected.{Names, names_smallest, connected_by, merged, merge}
use Rattle.theory.proofs.Components.{joined_sym}
use Rattle.theory.proofs.DeckLaws.{lawful}
use Rattle.book.specs.Format.{run_limit}
use Rattle.book.specs.Book.{contents_of, Valid}
use Rattle.book.specs.Meaning.{conflict_of}
use Rattle.book.specs.declared.Book.{Book}
use Rattle.book.proofs.Books.{history_long}
use Rattle.dependence.specs.Marks.{Marks}
use Rattle.dependence.specs.Catalogue.{base, run_part}
use Rattle.dependence.specs.Inner.Tables.{InRun, RunRows, RunLinked}
use Rattle.dependence.proofs.Counting.{history_length, history_run}
use Rattle.dependence.proofs.BookTables.{book_history, book_declared}
use Rattle.islands.specs.Inner.Names.{name_in, LinksTo, LinkedBy, Renamed, Connects, alike, apart, together, LinkBelow, NamesUpTo, Own, BookNames}

-- ---- whether a run links to another

module _ (catalogue links m : List ℕ) (r s : ℕ) (hr : r < run_limit) (hs : s < run_limit) (k : RowCopied catalogue (run_part * base + s) m) where
  pub links_answer : (found : Option ℕ) → Last (intersection (bit_at links r) (bit_at m 0)) found → (b : Bool) → b ≡ is_some found → Answers (LinksTo catalogue links r s) b
  links_answer (Some p) a b e =
      rw e
      (answer_yes (record {
        from_run = hr;
        to_run = hs;
        p = p;
        in_row = a.in_row;
        linked = omega (arith, a.here, bit_at_lt links r p, bit_at_lt m 0 p);
        of_run = omega (arith, k.same p a.in_row, a.here, bit_at_lt links r p, bit_at_lt m 0 p);
      }))
  links_answer None n b e = rw e (answer_no (λ l. omega (arith, n.none l.p l.in_row, l.linked, l.of_run, k.same l.p l.in_row)))

-- ---- one number in place of another

pub record RenamedBelow (t : List ℕ) (from to : ℕ) (u : List ℕ) (k : ℕ) : Type 0 where
  pub long : length u ≡ run_limit
  pub below : (j : ℕ) → j < k → get_or u j 0 ≡ cond (eqb (get_or t j 0) from) to (get_or t j 0)
  pub rest : (j : ℕ) → k ≤ j → get_or u j 0 ≡ get_or t j 0

-- ---- the names of an array

-- a place inside a list does not rest on what stands for those outside
get_or_any : (l : List ℕ) (i d e : ℕ) → i < length l → get_or l i d ≡ get_or l i e
get_or_any [] i d e h = absurd (not-suc-le-zero h)
get_or_any (x ∷ l) zero d e h = refl
get_or_any (x ∷ l) (suc i) d e h = get_or_any l i d e (le_of_suc-le-suc h)

pub name_inside : (t : List ℕ) (k : ℕ) → length t ≡ run_limit → k < run_limit → name_in t k ≡ get_or t k 0
name_inside t k l h = get_or_any t k k 0 (omega arith)

pub name_outside : (t : List ℕ) (k : ℕ) → length t ≡ run_limit → run_limit ≤ k → name_in t k ≡ k
name_outside t k l h = get_or-eq_default t k (omega arith)

-- ---- join by join

module _ (J : ℕ → ℕ → Type 0) where
  -- names for fewer joins
  fewer : (E F : ℕ → ℕ → Type 0) (f : ℕ → ℕ) → ((x y : ℕ) → F x y → f x ≡ f y) → Names J E f → Names J F f
  fewer E F f one n = record { low = n.low; connected = n.connected; one = one }

  -- the same names
  same_names : (E : ℕ → ℕ → Type 0) (f g : ℕ → ℕ) → ((k : ℕ) → g k ≡ f k) → Names J E f → Names J E g
  same_names E f g e n = record { low = λ r. rw (e r) (n.low r); connected = λ r. rw (e r) (n.connected r); one = λ r s j. e r ∙ n.one r s j ∙ sym (e s) }

module _ (catalogue links : List ℕ) where
  abbrev J : ℕ → ℕ → Type 0
  J = LinkedBy catalogue links

  either_way : (r s : ℕ) → J r s → J s r
  either_way r s (inl a) = inr a
  either_way r s (inr a) = inl a

  -- the larger name of r and s gives way to the smaller
  module _ (E : ℕ → ℕ → Type 0) (t u : List ℕ) (r s : ℕ) (n : Names J E (name_in t)) (long : length t ≡ run_limit) (l : LinksTo catalogue links r s)
      (w : Renamed t (max (get_or t r 0) (get_or t s 0)) (min (get_or t r 0) (get_or t s 0)) u) where
    abbrev f : ℕ → ℕ
    f = name_in t

    renamed_at : (a b : ℕ) → a ≡ min (get_or t r 0) (get_or t s 0) → b ≡ max (get_or t r 0) (get_or t s 0) → (k : ℕ) → name_in u k ≡ cond (eqb (f k) b) a (f k)
    renamed_at a b ea eb k = go (dec_lt k run_limit)
      where
        go : Dec (k < run_limit) → name_in u k ≡ cond (eqb (f k) b) a (f k)
        go (yes h) = name_inside u k w.long h ∙ w.at k h ∙ rw (name_inside t k long h, ea, eb)
        go (no m) =
            let h : run_limit ≤ k = omega arith in
            let lr : get_or t r 0 < run_limit = omega (arith, name_inside t r long l.from_run, n.low r, l.from_run) in
            let ls : get_or t s 0 < run_limit = omega (arith, name_inside t s long l.to_run, n.low s, l.to_run) in
            let other : k ≢ b = λ z. omega arith in
            name_outside u k w.long h ∙ rw (name_outside t k long h, ne_eqb k b other)

    ir : f r ≡ get_or t r 0
    ir = name_inside t r long l.from_run

    is : f s ≡ get_or t s 0
    is = name_inside t s long l.to_run

    renamed_names : Names J (λ x y. E x y ⊎ ((x ≡ r) × (y ≡ s))) (name_in u)
    renamed_names = go (dec_le (f r) (f s))
      where
        go : Dec (f r ≤ f s) → Names J (λ x y. E x y ⊎ ((x ≡ r) × (y ≡ s))) (name_in u)
        go (yes le) = same_names J (λ x y. E x y ⊎ ((x ≡ r) × (y ≡ s))) (merged J either_way E f n r s (joined itself (inl l)) le) (name_in u)
            (renamed_at (f r) (f s) (omega (arith, ir, is)) (omega (arith, ir, is))) (merge J either_way E f n r s (joined itself (inl l)) le)
        go (no m) = fewer J (λ x y. E x y ⊎ ((x ≡ s) × (y ≡ r))) (λ x y. E x y ⊎ ((x ≡ r) × (y ≡ s))) (name_in u) one turned
          where
            ge : f s ≤ f r
            ge = omega arith

            turned : Names J (λ x y. E x y ⊎ ((x ≡ s) × (y ≡ r))) (name_in u)
            turned = same_names J (λ x y. E x y ⊎ ((x ≡ s) × (y ≡ r))) (merged J either_way E f n s r (joined itself (inr l)) ge) (name_in u)
                (renamed_at (f s) (f r) (omega (arith, ir, is)) (omega (arith, ir, is))) (merge J either_way E f n s r (joined itself (inr l)) ge)

            one : (x y : ℕ) → E x y ⊎ ((x ≡ r) × (y ≡ s)) → name_in u x ≡ name_in u y
            one x y (inl e) = turned.one x y (inl e)
            one x y (inr e) = sym (turned.one y x (inr (e.1, e.0)))

  -- the links of run r to the runs below s
  pub record RowLink (r s x y : ℕ) : Type 0 where
    pub is : x ≡ r
    pub below : y < s
    pub links_to : LinksTo catalogue links x y

  -- the names after the links of the runs below r, and after those of r to the runs below s
  pub record ConnectedBelow (n r : ℕ) (t : List ℕ) (s : ℕ) : Type 0 where
    pub within : s ≤ n
    pub long : length t ≡ run_limit
    pub names : Names J (λ x y. LinkBelow catalogue links n r x y ⊎ RowLink r s x y) (name_in t)

  module _ (n r : ℕ) where
    abbrev E : ℕ → ℕ → ℕ → Type 0
    E s x y = LinkBelow catalogue links n r x y ⊎ RowLink r s x y

    pub connected_none : (t : List ℕ) → NamesUpTo catalogue links n r t → ConnectedBelow n r t 0
    connected_none t w = record { within = omega arith; long = w.long; names = fewer J (LinkBelow catalogue links n r) (E 0) (name_in t) one w.names }
      where
        one : (x y : ℕ) → E 0 x y → name_in t x ≡ name_in t y
        one x y (inl e) = w.names.one x y e
        one x y (inr e) = absurd (not-suc-le-zero e.below)

    module _ (t : List ℕ) (s : ℕ) (w : ConnectedBelow n r t s) (hn : n ≤ run_limit) (hr : r < n) (hs : s < n) where
      -- the links so far, or the one from r to s
      last : (x y : ℕ) → E (s + 1) x y → E s x y ⊎ (((x ≡ r) × (y ≡ s)) × LinksTo catalogue links r s)
      last x y (inl e) = inl (inl e)
      last x y (inr e) = go (below_suc (rw (add-one s) at e.below))
        where
          go : (y ≡ s) ⊎ (y < s) → E s x y ⊎ (((x ≡ r) × (y ≡ s)) × LinksTo catalogue links r s)
          go (inl z) = inr ((e.is, z), rw (e.is, z) at e.links_to)
          go (inr k) = inl (inr (record { is = e.is; below = k; links_to = e.links_to }))

      pub connected_more : (u : List ℕ) → Connects catalogue links t r s u → ConnectedBelow n r u (s + 1)
      connected_more u (alike e z) = rw z (record { within = omega arith; long = w.long; names = fewer J (E s) (E (s + 1)) (name_in t) (λ x y f. one x y (last x y f)) w.names })
        where
          one : (x y : ℕ) → E s x y ⊎ (((x ≡ r) × (y ≡ s)) × LinksTo catalogue links r s) → name_in t x ≡ name_in t y
          one x y (inl f) = w.names.one x y f
          one x y (inr f) = rw (f.0.0, f.0.1) (name_inside t r w.long (omega arith) ∙ e ∙ sym (name_inside t s w.long (omega arith)))
      connected_more u (apart k z) = rw z (record { within = omega arith; long = w.long; names = fewer J (E s) (E (s + 1)) (name_in t) (λ x y f. one x y (last x y f)) w.names })
        where
          one : (x y : ℕ) → E s x y ⊎ (((x ≡ r) × (y ≡ s)) × LinksTo catalogue links r s) → name_in t x ≡ name_in t y
          one x y (inl f) = w.names.one x y f
          one x y (inr f) = absurd (k f.1)
      connected_more u (together l v) = record { within = omega arith; long = v.long; names = fewer J (λ x y. E s x y ⊎ ((x ≡ r) × (y ≡ s))) (E (s + 1)) (name_in u) (λ x y f. one x y (last x y f)) m }
        where
          m : Names J (λ x y. E s x y ⊎ ((x ≡ r) × (y ≡ s))) (name_in u)
          m = renamed_names (E s) t u r s w.names w.long l v

          one : (x y : ℕ) → E s x y ⊎ (((x ≡ r) × (y ≡ s)) × LinksTo catalogue links r s) → name_in u x ≡ name_in u y
          one x y (inl f) = m.one x y (inl f)
          one x y (inr f) = m.one x y (inr f.0)

    pub connected_all : (t : List ℕ) (s : ℕ) → ConnectedBelow n r t s → n ≤ s → NamesUpTo catalogue links n (r + 1) t
    connected_all t s w l = record { long = w.long; names = fewer J (E s) (LinkBelow catalogue links n (r + 1)) (name_in t) (λ x y e. w.names.one x y (go x y e (below_suc (rw (add-one r) at e.from_below)))) w.names }
      where
        go : (x y : ℕ) → LinkBelow catalogue links n (r + 1) x y → (x ≡ r) ⊎ (x < r) → E s x y
        go x y e (inl z) = inr (record { is = z; below = omega (arith, e.to_below); links_to = e.links_to })
        go x y e (inr k) = inl (record { from_below = k; to_below = e.to_below; links_to = e.links_to })

  -- before the first link each run has its own name
  pub own_up_to : (n : ℕ) (t : List ℕ) → Own t → NamesUpTo catalogue links n 0 t
  own_up_to n t o = record {
    long = o.long;
    names = record {
      low = λ r. rw (o.own r) (le_refl r);
      connected = λ r. rw (o.own r) itself;
      one = λ r s e. absurd (not-suc-le-zero e.from_below);
    };
  }

-- ---- the components of a book

pub declared_few : (b : Book) → Valid b → b.declared ≤ run_limit
declared_few b v = v.runs.few_runs

-- the runs of a valid book's history are declared
pub book_run : (b : Book) → Valid b → (p : ℕ) → p < length (contents_of b).history → run (contents_of b).history p < b.declared
unfolding contents_of
book_run b v p i =
    let k : p < b.done = rw (history_length (book_history b v)) at i in
    rw (history_run b.history b.done p k) ((book_declared b v).declared p k)

module _ (b : Book) (v : Valid b) (catalogue links t : List ℕ) (r : ℕ) (rr : RunRows (contents_of b).history b.done catalogue)
    (m : Marks (RunLinked (conflict_of (contents_of b)) (contents_of b).history) links) (w : NamesUpTo catalogue links b.declared r t) (all : b.declared ≤ r) where
  abbrev h : List ℕ
  h = (contents_of b).history

  abbrev con : ℕ → ℕ → ℕ → ℕ → Bool
  con = conflict_of (contents_of b)

  law : Lawful con
  law = lawful (contents_of b).pairs (contents_of b).runs

  long : length h ≡ b.done
  long = history_long b v

  short : b.done ≤ row_bits
  short = (book_history b v).within

  declared : (p : ℕ) → p < length h → run h p < b.declared
  declared = book_run b v

  few : b.declared ≤ run_limit
  few = declared_few b v

  -- a link is a join, or leads from a run to itself
  link_joined : (x y : ℕ) → LinksTo catalogue links x y → (x ≡ y) ⊎ Joined con h x y
  link_joined x y l = go a.directly.linked
    where
      a : RunLinked con h l.p x
      a = m.sound l.p x l.in_row (omega (arith, l.from_run)) l.linked

      c : InRun h b.done l.p y
      c = rr.sound l.p y l.in_row l.to_run l.of_run

      go : (run h l.p ≡ run h a.q) ⊎ Conflicting con h l.p a.q → (x ≡ y) ⊎ Joined con h x y
      go (inl e) = inl (sym a.of_run ∙ sym e ∙ c.runs)
      go (inr e) = inr (joined_sym con law h y x (record { p = l.p; q = a.q; inside_p = omega (arith, long, c.below); inside_q = a.directly.inside; of_r = c.runs; of_s = a.of_run; conflicting = e }))

  linked_joined : (x y : ℕ) → LinkedBy catalogue links x y → (x ≡ y) ⊎ Joined con h x y
  linked_joined x y (inl l) = link_joined x y l
  linked_joined x y (inr l) = turned (link_joined y x l)
    where
      turned : (y ≡ x) ⊎ Joined con h y x → (x ≡ y) ⊎ Joined con h x y
      turned (inl e) = inl (sym e)
      turned (inr j) = inr (joined_sym con law h y x j)

  -- of two conflicting places the later one's run links to that of the earlier
  conflict_linked : (p q : ℕ) → p < q → q < length h → Conflicting con h p q → LinksTo catalogue links (run h q) (run h p)
  conflict_linked p q k i c =
      let ip : p < length h = omega arith in
      let low : p < row_bits = omega (arith, long, short) in
      record {
        from_run = omega (arith, declared q i, few);
        to_run = omega (arith, declared p ip, few);
        p = p;
        in_row = low;
        linked = m.complete p (run h q) low (omega (arith, declared q i, few)) (record { q = q; directly = record { before = k; inside = i; linked = inr c }; of_run = refl });
        of_run = rr.complete p (run h p) low (omega (arith, declared p ip, few)) (record { below = omega (arith, long); runs = refl });
      }

  one_name : (x y : ℕ) → Joined con h x y → name_in t x ≡ name_in t y
  one_name x y j = rw (← j.of_r, ← j.of_s) (go (dec_lt j.p j.q))
    where
      named : (p q : ℕ) → p < length h → q < length h → LinksTo catalogue links (run h p) (run h q) → name_in t (run h p) ≡ name_in t (run h q)
      named p q i k l = w.names.one (run h p) (run h q) (record { from_below = omega (arith, declared p i); to_below = declared q k; links_to = l })

      go : Dec (j.p < j.q) → name_in t (run h j.p) ≡ name_in t (run h j.q)
      go (yes k) = sym (named j.q j.p j.inside_q j.inside_p (conflict_linked j.p j.q k j.inside_q j.conflicting))
      go (no n) =
          let other : j.p ≢ j.q = λ e. conf_ne con law h j.p j.q j.conflicting (ap (run h) e) in
          named j.p j.q j.inside_p j.inside_q (conflict_linked j.q j.p (omega arith) j.inside_p (law.symmetric _ _ _ _ j.conflicting))

  pub book_names : BookNames b t
  book_names = record { long = w.long; components = names_smallest (Joined con h) (record { low = w.names.low; connected = λ k. connected_by (LinkedBy catalogue links) (Joined con h) linked_joined (w.names.connected k); one = one_name }) }
