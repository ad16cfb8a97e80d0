-- Back from source to source: the walk's places are distinct, so one comes again, and what lies between is a cycle.
use Rattle.std.specs.Prelude.{Option, Some, None}
use Rattle.std.proofs.lemmas.Option.{none-some, same_Some}
use Rattle.std.proofs.lemmas.List.{get_or-replicate}
use Prim.Native.Nat.{ℕ, zero, suc, ◌+◌, ◌-◌, ◌≤◌, ◌<◌, zero-le, suc-le-suc}
use native.Mathlib.Nat.{lt_irrefl, not-suc-le-zero}
use native.Mathlib.Decide.{ℕ_discrete, dec_lt}
use native.Mathlib.Omega.{arith}
use mathlib.Core.Path.{◌≡◌, sym, ap, ◌∙◌}
use mathlib.Core.Logic.{◌⊎◌, inl, inr, ◌≢◌}
use mathlib.Core.List.{List, [], ◌∷◌}
use lib.ListN.{length, get_or, take, drop, set, length-set, length-drop, replicate, length-replicate}
use lib.Seq.{get_or-set_same, get_or-set_other, get_or-take, get_or-drop, length-take-le}
use Rattle.theory.proofs.Finite.{below_suc}
use Rattle.theory.proofs.Cycles.{NotIn, Distinct, AllBelow, pigeonhole}
use Rattle.bits.specs.Table.{row_bits, bit_at, difference}
use Rattle.bits.specs.First.{FirstAt, NoColumn}
use Rattle.bits.proofs.Store.{bit_at_lt}
use Rattle.buffer.specs.Put.{Put}
use Rattle.book.specs.Format.{step_limit}
use Rattle.turns.specs.Inner.Turns.{InSet, FirstUntaken}
use Rattle.turns.specs.Inner.Cycles.{ArcIn, Stuck, CycleIn}

-- ---- lists by their elements

notin_of : (x : ℕ) (xs : List ℕ) → ((j : ℕ) → j < length xs → x ≢ get_or xs j 0) → NotIn x xs
notin_of x [] f = tt
notin_of x (y ∷ ys) f = (f zero (suc-le-suc zero-le), notin_of x ys (λ j l. f (suc j) (suc-le-suc l)))

distinct_of : (xs : List ℕ) → ((i j : ℕ) → i < j → j < length xs → get_or xs i 0 ≢ get_or xs j 0) → Distinct xs
distinct_of [] f = tt
distinct_of (x ∷ xs) f = (notin_of x xs (λ j l. f zero (suc j) (suc-le-suc zero-le) (suc-le-suc l)), distinct_of xs (λ i j a b. f (suc i) (suc j) (suc-le-suc a) (suc-le-suc b)))

below_of : (n : ℕ) (xs : List ℕ) → ((i : ℕ) → i < length xs → get_or xs i 0 < n) → AllBelow n xs
below_of n [] f = tt
below_of n (x ∷ xs) f = (f zero (suc-le-suc zero-le), below_of n xs (λ i l. f (suc i) (suc-le-suc l)))

-- ---- the walk

-- a place below n that is not taken
record Open (taken : List ℕ) (n p : ℕ) : Type 0 where
  inside : p < n
  untaken : bit_at taken 0 p ≡ 0

-- the first place that is not taken is one, where not all are
open_first : (arc taken : List ℕ) (n p : ℕ) → Stuck arc taken n → FirstUntaken taken n p → Open taken n p
open_first arc taken n p st f = go (dec_lt p n)
  where
    go : Dec (p < n) → Open taken n p
    go (yes l) = record { inside = l; untaken = f.here l }
    go (no l) = absurd (st.not_all (record { all = λ k i. f.before.all k (omega arith) }))

-- the k-th place of the walk
abbrev place : List ℕ → ℕ → ℕ
place trail k = get_or trail (step_limit - (k + 1)) 0

-- the walk so far: distinct places, each a source of the one before it, and the number of each
pub record Trail (arc : List ℕ) (n : ℕ) (trail : List ℕ) (seen : List (Option ℕ)) (len : ℕ) : Type 0 where
  pub trail_size : length trail ≡ step_limit
  pub seen_size : length seen ≡ step_limit
  pub within : len ≤ step_limit
  pub places : (k : ℕ) → k < len → place trail k < n
  pub sources : (k : ℕ) → suc k < len → bit_at arc (place trail k) (place trail (suc k)) ≡ 1
  pub unseen : (x k : ℕ) → x < n → get_or seen x None ≡ None → k < len → place trail k ≢ x
  pub seen_at : (x s : ℕ) → x < n → get_or seen x None ≡ Some s → (s < len) × (place trail s ≡ x)
  pub distinct : (j k : ℕ) → j < k → k < len → place trail j ≢ place trail k

-- and the next place, v, a source of the last
pub record Walked (arc taken : List ℕ) (n : ℕ) (trail : List ℕ) (seen : List (Option ℕ)) (v len : ℕ) : Type 0 where
  pub so_far : Trail arc n trail seen len
  pub inside : v < n
  pub untaken : bit_at taken 0 v ≡ 0
  pub fresh : get_or seen v None ≡ None
  pub last : (k : ℕ) → suc k ≡ len → bit_at arc (place trail k) v ≡ 1

pub walked_none : (arc taken : List ℕ) (n v : ℕ) → Stuck arc taken n → FirstUntaken taken n v → Walked arc taken n (replicate step_limit 0) (replicate step_limit None) v 0
walked_none arc taken n v st f = record {
  so_far = record {
    trail_size = length-replicate {A = ℕ} step_limit 0;
    seen_size = length-replicate {A = Option ℕ} step_limit None;
    within = omega arith;
    places = λ k l. absurd (not-suc-le-zero l);
    sources = λ k l. absurd (not-suc-le-zero l);
    unseen = λ x k i z l. absurd (not-suc-le-zero l);
    seen_at = λ x s i e. absurd (none-some s (sym (empty x i) ∙ e));
    distinct = λ j k l b. absurd (not-suc-le-zero b);
  };
  inside = o.inside;
  untaken = o.untaken;
  fresh = empty v o.inside;
  last = λ k e. absurd (ne k e);
}
  where
    o : Open taken n v
    o = open_first arc taken n v st f

    ne : (k : ℕ) → suc k ≡ 0 → ⊥
    ne k e = omega arith

    empty : (x : ℕ) → x < n → ◌≡◌ {A = Option ℕ} (get_or (replicate step_limit None) x None) None
    empty x i = get_or-replicate step_limit x None None (omega (arith, st.within))

module _ (arc taken : List ℕ) (n : ℕ) (st : Stuck arc taken n) (trail : List ℕ) (seen : List (Option ℕ)) (v len : ℕ) (w : Walked arc taken n trail seen v len) where
  t : Trail arc n trail seen len
  t = w.so_far

  vn : v < n
  vn = w.inside

  -- the places so far and v are distinct, so there are at most n
  pub room : suc len ≤ n
  room = let p = pigeonhole n walk (distinct_of walk each) (below_of n walk small) in omega (arith, ld)
    where
      walk : List ℕ
      walk = v ∷ drop (step_limit - len) trail

      ld : length (drop (step_limit - len) trail) ≡ len
      ld = length-drop (step_limit - len) trail ∙ omega (arith, t.trail_size, t.within)

      at_k : (i : ℕ) → i < len → get_or (drop (step_limit - len) trail) i 0 ≡ place trail (len - suc i)
      at_k i l = get_or-drop (step_limit - len) trail i 0 ∙ ap (λ (x : ℕ). get_or trail x 0) (omega (arith, t.within))

      small : (i : ℕ) → i < length walk → get_or walk i 0 < n
      small zero l = vn
      small (suc i) l = rw (at_k i (omega (arith, ld))) (t.places (len - suc i) (omega (arith, ld)))

      each : (i j : ℕ) → i < j → j < length walk
          → get_or walk i 0 ≢ get_or walk j 0
      each i zero a b e = absurd (not-suc-le-zero a)
      each zero (suc j) a b e = t.unseen v (len - suc j) vn w.fresh (omega (arith, ld)) (sym (at_k j (omega (arith, ld))) ∙ sym e)
      each (suc i) (suc j) a b e =
          t.distinct (len - suc j) (len - suc i) (omega (arith, ld)) (omega (arith, ld)) (sym (at_k j (omega (arith, ld))) ∙ sym e ∙ at_k i (omega (arith, ld)))

  pub room_limit : len + 1 ≤ step_limit
  room_limit = omega (arith, room, st.within)

  -- v put down
  trail' : List ℕ
  trail' = set trail (step_limit - (len + 1)) v

  seen' : List (Option ℕ)
  seen' = set seen v (Some len)

  v_last : place trail' len ≡ v
  unfolding trail'
  v_last = get_or-set_same trail (step_limit - (len + 1)) v 0 (omega (arith, t.trail_size))

  pushed : Trail arc n trail' seen' (len + 1)
  unfolding trail' seen'
  pushed = record {
    trail_size = length-set trail (step_limit - (len + 1)) v ∙ t.trail_size;
    seen_size = length-set seen v (Some len) ∙ t.seen_size;
    within = room_limit;
    places = λ k l. places_at k (split k l);
    sources = λ k l. sources_at k (split (suc k) l);
    unseen = λ x k i z l. unseen_at x k i z (ℕ_discrete x v) (split k l);
    seen_at = λ x s i e. seen_at' x s i e (ℕ_discrete x v);
    distinct = λ j k l b. distinct_at j k l (split k b);
  }
    where
      old : (k : ℕ) → k < len → place trail' k ≡ place trail k
      old k l = get_or-set_other trail (step_limit - (len + 1)) (step_limit - (k + 1)) v 0 (λ e. omega (arith, room_limit))

      split : (k : ℕ) → k < len + 1 → (k ≡ len) ⊎ (k < len)
      split k l = below_suc (omega arith)

      places_at : (k : ℕ) → (k ≡ len) ⊎ (k < len) → place trail' k < n
      places_at k (inl e) = rw (e, v_last) vn
      places_at k (inr l) = rw (old k l) (t.places k l)

      sources_at : (k : ℕ) → (suc k ≡ len) ⊎ (suc k < len) → bit_at arc (place trail' k) (place trail' (suc k)) ≡ 1
      sources_at k (inl e) = let l : k < len = omega arith in rw (old k l, e, v_last) (w.last k e)
      sources_at k (inr l) = let l' : k < len = omega arith in rw (old k l', old (suc k) l) (t.sources k l)

      v_size : v < length seen
      v_size = omega (arith, vn, st.within, t.seen_size)

      unseen_at : (x k : ℕ) → x < n → get_or seen' x None ≡ None → Dec (x ≡ v) → (k ≡ len) ⊎ (k < len) → place trail' k ≢ x
      unseen_at x k i z (yes e) d = absurd (none-some len (sym (rw e at z) ∙ get_or-set_same seen v (Some len) None v_size))
      unseen_at x k i z (no d) (inl e) = λ q. d (sym q ∙ ap (place trail') e ∙ v_last)
      unseen_at x k i z (no d) (inr l) = λ q. t.unseen x k i (sym (get_or-set_other seen v x (Some len) None d) ∙ z) l (sym (old k l) ∙ q)

      seen_at' : (x s : ℕ) → x < n → get_or seen' x None ≡ Some s → Dec (x ≡ v) → (s < len + 1) × (place trail' s ≡ x)
      seen_at' x s i e (yes d) =
          let ls : s ≡ len = sym (same_Some len s (sym (get_or-set_same seen v (Some len) None v_size) ∙ (rw d at e))) in
          (omega arith, ap (place trail') ls ∙ v_last ∙ sym d)
      seen_at' x s i e (no d) =
          let u = t.seen_at x s i (sym (get_or-set_other seen v x (Some len) None d) ∙ e) in
          (omega (arith, u.0), old s u.0 ∙ u.1)

      distinct_at : (j k : ℕ) → j < k → (k ≡ len) ⊎ (k < len) → place trail' j ≢ place trail' k
      distinct_at j k l (inl e) q =
          let jl : j < len = omega arith in
          t.unseen v j vn w.fresh jl (sym (old j jl) ∙ q ∙ ap (place trail') e ∙ v_last)
      distinct_at j k l (inr b) q =
          let jl : j < len = omega arith in
          t.distinct j k l b (sym (old j jl) ∙ q ∙ old k b)

  -- v is not ready, so it has a source that is not taken
  pub never_none : (cycle cycle' : List ℕ) (r : ℕ) → NoColumn (difference (bit_at arc v) (bit_at taken 0)) → CycleIn arc n cycle cycle' r
  never_none cycle cycle' r none = absurd (st.none.none v vn (record { untaken = w.untaken; sources = source }))
    where
      source : (x : ℕ) → x < row_bits → bit_at arc v x ≡ 1 → InSet taken x
      source x h e = omega (arith, none.none x h, bit_at_lt taken 0 x)

  pub never_long : (cycle cycle' : List ℕ) (r : ℕ) → step_limit ≤ len → CycleIn arc n cycle cycle' r
  never_long cycle cycle' r l = absurd (lt_irrefl len (omega (arith, room_limit)))

  module _ (x : ℕ) (src : FirstAt (difference (bit_at arc v) (bit_at taken 0)) x) where
    x_marked : bit_at arc v x ≡ 1
    x_marked = omega (arith, src.here, bit_at_lt arc v x)

    x_untaken : bit_at taken 0 x ≡ 0
    x_untaken = omega (arith, src.here, bit_at_lt taken 0 x)

    x_in : x < n
    x_in = st.sources x v src.in_row vn x_marked

    pub walked_more : get_or (set seen v (Some len)) x None ≡ None → Walked arc taken n (set trail (step_limit - (len + 1)) v) (set seen v (Some len)) x (len + 1)
    unfolding trail' seen'
    walked_more z = record {
      so_far = pushed;
      inside = x_in;
      untaken = x_untaken;
      fresh = z;
      last = λ k e. let q : k ≡ len = omega arith in rw (q, v_last) x_marked;
    }

    module _ (s : ℕ) (es : get_or (set seen v (Some len)) x None ≡ Some s) where
      at_s : (s < len + 1) × (place trail' s ≡ x)
      unfolding seen'
      at_s = pushed.seen_at x s x_in es

      pub s_limit : s ≤ step_limit
      s_limit = omega (arith, at_s.0, room_limit)

      pub part_start : step_limit - (len + 1) ≤ step_limit - s
      part_start = omega (arith, at_s.0, room_limit)

      pub closed : (m : ℕ) → m ≡ s → (cycle now cycle' : List ℕ) (count : ℕ) → now ≡ cycle
          → Put (take (step_limit - m - (step_limit - (len + 1))) (drop (step_limit - (len + 1)) (set trail (step_limit - (len + 1)) v))) now cycle' count
          → CycleIn arc n cycle cycle' count
      unfolding trail'
      closed m em cycle now cycle' count eo p = rw (put.count ∙ c_length) (record {
        places = c_places;
        least = omega (arith, at_s.0);
        most = omega (arith, room);
        distinct = λ i j l b. rw (c_at i (omega arith), c_at j b) (λ q. pushed.distinct (len - j) (len - i) (omega (arith, at_s.0)) (omega arith) (sym q));
        next = c_next;
        back = c_back;
        written = record { bytes = rw (← eo) put.bytes; count = sym c_length };
      })
        where
          a : ℕ
          a = step_limit - (len + 1)

          r : ℕ
          r = len + 1 - s

          c_places : List ℕ
          c_places = take r (drop a trail')

          put : Put c_places now cycle' count
          put = let e : step_limit - m - a ≡ r = omega (arith, room_limit, em) in rw (← e) p

          c_length : length c_places ≡ r
          c_length = length-take-le r (drop a trail') (omega (arith, length-drop a trail', pushed.trail_size, room_limit))

          c_at : (i : ℕ) → i < r → get_or c_places i 0 ≡ place trail' (len - i)
          c_at i l = get_or-take r (drop a trail') i 0 l ∙ get_or-drop a trail' i 0 ∙ ap (λ (y : ℕ). get_or trail' y 0) (omega (arith, room_limit))

          c_next : (i : ℕ) → suc i < r → ArcIn arc n (get_or c_places i 0) (get_or c_places (suc i) 0)
          c_next i l =
              let k : len - i ≡ suc (len - suc i) = omega arith in
              let m : bit_at arc (place trail' (len - suc i)) (place trail' (suc (len - suc i))) ≡ 1 = pushed.sources (len - suc i) (omega arith) in
              rw (c_at i (omega arith), c_at (suc i) l) (record {
                from = pushed.places (len - i) (omega arith);
                to = pushed.places (len - suc i) (omega arith);
                marked = rw k m;
              })

          c_back : ArcIn arc n (get_or c_places (r - 1) 0) (get_or c_places 0 0)
          c_back =
              let k : len - (r - 1) ≡ s = omega (arith, at_s.0) in
              let z : len - 0 ≡ len = omega arith in
              rw (c_at (r - 1) (omega (arith, at_s.0)), c_at 0 (omega (arith, at_s.0)), k, z, at_s.1, v_last) (record { from = x_in; to = vn; marked = x_marked })
