-- The arc test's names are what holds, and a letter of the program's line is the first of them: on a cycle one holds.
use Rattle.std.specs.Prelude.{Result, Err, Ok}
use Prim.Native.Nat.{ℕ, zero, suc, ◌-◌, ◌≤◌, ◌<◌}
use native.Mathlib.Nat.{not-suc-le-zero}
use native.Mathlib.Omega.{arith}
use mathlib.Core.Path.{◌≡◌, refl, sym, ap, ◌∙◌, subst}
use mathlib.Core.Logic.{◌⊎◌, inl, inr, ◌≢◌, ◌↔◌}
use mathlib.Core.Bool.{Bool, true, false}
use mathlib.Core.List.{List, [], ◌∷◌, ◌++◌, map, append_assoc}
use lib.ListN.{length, get_or, take, drop, length-map}
use lib.Seq.{take_at}
use Rattle.theory.specs.Graph.{ArcI, ArcD, ArcF, ArcB, arc_I, arc_D, arc_F, arc_B, Cycle}
use Rattle.theory.specs.Rows.{Is}
use Rattle.theory.proofs.Decided.{arc_source, arc_target}
use Rattle.book.specs.Format.{Contents, Outcome, refused, accepted, read}
use Rattle.book.specs.Numbers.{Numbers, value_of}
use Rattle.book.specs.Book.{refusal_at}
use Rattle.book.specs.declared.Refusal.{Refusal}
use Rattle.book.specs.Meaning.{conflict_of, unit_of}
use Rattle.names.specs.Names.{names_value, cycle_names}
use Rattle.names.specs.declared.ArcNames.{ArcNames}
use Rattle.names.specs.Inner.Tables.{no_names}
use Rattle.names.proofs.NameLaws.{is_i, is_d, is_f, is_b}
use Rattle.names.proofs.CycleNames.{named_length, named_next, named_back}
use Rattle.classes.specs.Tested.{Tested, Yes, tested_numbers, YesWhere, OutcomeTested, TestedAs}
use Rattle.evidence.specs.Named.{Named, named_numbers, OutcomeNamed, NamedAs}
use Rattle.judge.specs.Judged.{count_of}
use Rattle.judge.specs.declared.Verdict.{Verdict}
use Rattle.judge.specs.declared.Verdict.TheVariants.{Passed, Tangled}
use Rattle.report.specs.Text.{Findings, accepted_with, Verdict as ReportVerdict, tangled, first_letter, done_line, serial_line, atomic_line, relserial_line, conflict_line, verdict_line, evidence_line, arcs_line, text_of}
use Rattle.report.specs.Reporting.{VerdictOn, ReportOn, Reports}
use Rattle.capi.specs.Calls.{TestCall, NameCall}
use Rattle.capi.specs.declared.Answered.{Answered}
use Rattle.report.proofs.FindingsLaws.{answer_is}
use Rattle.buffer.proofs.EachLaws.{each_map}
use Rattle.claims.specs.Demands.{answered_numbers}
use Rattle.claims.specs.ArcsByName.{arcs_from, ArcFrom, AllThatHold, SomeName, CycleByNames, CycleBefore, FirstHolds, letter_I, letter_D, letter_F, letter_B, Lettered, cycle_text, arcs_text, ArcsUnder, ArcsByName}
use Rattle.claims.proofs.Demands.{demand_2, deck_demand_2}

-- ---- what is said of an accepted book

named_of : (N : Contents → ArcNames) (s : List ℕ) (c : Contents) → read s ≡ accepted c → (r : Named) → NamedAs N s r → r ≡ Ok (N c)
named_of N s c e r w = subst (λ (o : Outcome). OutcomeNamed o N r) e w.named

module _ (c : Contents) (x y : ℕ) where
  holding : AllThatHold c x y (arcs_from x y c)
  holding = record {
    i_holds = answer_is _ (is_i (conflict_of c) (unit_of c) c.history x y);
    d_holds = answer_is _ (is_d (conflict_of c) (unit_of c) c.history x y);
    f_holds = answer_is _ (is_f (conflict_of c) (unit_of c) c.history x y);
    b_holds = answer_is _ (is_b (conflict_of c) (unit_of c) c.history x y);
  }

  -- some name holds exactly where there is an arc
  some : (w : ArcNames) → AllThatHold c x y w → ArcFrom x y c ↔ (names_value w ≢ 0)
  some w a = (λ k. to w.i w.d w.f w.b a.i_holds a.d_holds a.f_holds a.b_holds k, from w.i w.d w.f w.b a.i_holds a.d_holds a.f_holds a.b_holds)
    where
      to : (i d f b : Bool) → Is i (ArcI c.history x y) → Is d (ArcD (conflict_of c) c.history x y) → Is f (ArcF (conflict_of c) (unit_of c) c.history x y)
          → Is b (ArcB (conflict_of c) (unit_of c) c.history x y) → ArcFrom x y c → names_value (record { i = i; d = d; f = f; b = b }) ≢ 0
      to true d f b hi hd hf hb k e = omega arith
      to false true f b hi hd hf hb k e = omega arith
      to false false true b hi hd hf hb k e = omega arith
      to false false false true hi hd hf hb k e = omega arith
      to false false false false hi hd hf hb (arc_I k) e = hi k
      to false false false false hi hd hf hb (arc_D k) e = hd k
      to false false false false hi hd hf hb (arc_F k) e = hf k
      to false false false false hi hd hf hb (arc_B k) e = hb k

      from : (i d f b : Bool) → Is i (ArcI c.history x y) → Is d (ArcD (conflict_of c) c.history x y) → Is f (ArcF (conflict_of c) (unit_of c) c.history x y)
          → Is b (ArcB (conflict_of c) (unit_of c) c.history x y) → names_value (record { i = i; d = d; f = f; b = b }) ≢ 0 → ArcFrom x y c
      from true d f b hi hd hf hb ne = arc_I hi
      from false true f b hi hd hf hb ne = arc_D hd
      from false false true b hi hd hf hb ne = arc_F hf
      from false false false true hi hd hf hb ne = arc_B hb
      from false false false false hi hd hf hb ne = absurd (ne refl)

  -- the first letter of the names of an arc
  first : (w : ArcNames) → AllThatHold c x y w → ArcFrom x y c → FirstHolds c x y (first_letter w)
  first w a k = go w.i w.d w.f a.i_holds a.d_holds a.f_holds k
    where
      go : (i d f : Bool) → Is i (ArcI c.history x y) → Is d (ArcD (conflict_of c) c.history x y) → Is f (ArcF (conflict_of c) (unit_of c) c.history x y)
          → ArcFrom x y c → FirstHolds c x y (first_letter (record { i = i; d = d; f = f; b = w.b }))
      go true d f hi hd hf k = letter_I hi
      go false true f hi hd hf k = letter_D hi hd
      go false false true hi hd hf k = letter_F hi hd hf
      go false false false hi hd hf (arc_I k) = absurd (hi k)
      go false false false hi hd hf (arc_D k) = absurd (hd k)
      go false false false hi hd hf (arc_F k) = absurd (hf k)
      go false false false hi hd hf (arc_B k) = letter_B hi hd hf k

-- ---- the earlier answer

module _ (s : List ℕ) (x y : ℕ) (r : Named) (t : Tested) (w : NamedAs (arcs_from x y) s r) (v : TestedAs (ArcFrom x y) s t) where
  yes_before : (t ≡ Yes) ↔ ((named_numbers r).value ≢ 0)
  yes_before = go (read s) w.named v.tested
    where
      refused_no : (n : Named) (cause : _) (at : ℕ) → n ≡ Err (refusal_at cause at) → (named_numbers n).value ≢ 0 → ⊥
      refused_no n cause at e ne = ne (ap (λ (z : Named). (named_numbers z).value) e)

      tested : (c : Contents) (a : Tested) → YesWhere (ArcFrom x y c) a → (a ≡ Yes) ↔ ArcFrom x y c
      tested c (Err refusal) z = absurd z
      tested c (Ok true) z = (λ e. z, λ k. refl)
      tested c (Ok false) z = (λ e. absurd (let q : ◌≡◌ {A = ℕ} 0 1 = cc in omega arith), λ k. absurd (z k))

      go : (o : Outcome) → OutcomeNamed o (arcs_from x y) r → OutcomeTested o (ArcFrom x y) t → (t ≡ Yes) ↔ ((named_numbers r).value ≢ 0)
      go (refused cause at) n a = (
        λ e. absurd (let q : ◌≡◌ {A = ℕ} 0 1 = cc (e, a.refusal) in omega arith),
        λ ne. absurd (refused_no r cause at n.refusal ne),
      )
      go (accepted c) n a =
          let p = some c x y (arcs_from x y c) (holding c x y) in
          let q = tested c t a in (
            λ e. subst (λ (z : Named). (named_numbers z).value ≢ 0) (sym n) (p.0 (q.0 e)),
            λ ne. q.1 (p.1 (subst (λ (z : Named). (named_numbers z).value ≢ 0) n ne)),
          )

  refused_before : ((named_numbers r).number ≡ (tested_numbers t).number) × ((named_numbers r).place ≡ (tested_numbers t).place)
  refused_before = go (read s) w.named v.tested
    where
      accepted_numbers : (c : Contents) (a : Tested) → YesWhere (ArcFrom x y c) a → ((tested_numbers a).number ≡ 0) × ((tested_numbers a).place ≡ 0)
      accepted_numbers c (Err refusal) z = absurd z
      accepted_numbers c (Ok true) z = (refl, refl)
      accepted_numbers c (Ok false) z = (refl, refl)

      go : (o : Outcome) → OutcomeNamed o (arcs_from x y) r → OutcomeTested o (ArcFrom x y) t → ((named_numbers r).number ≡ (tested_numbers t).number) × ((named_numbers r).place ≡ (tested_numbers t).place)
      go (refused cause at) n a =
          let e : named_numbers r ≡ tested_numbers t = n.numbers ∙ sym a.numbers in
          (ap (λ (z : Numbers). z.number) e, ap (λ (z : Numbers). z.place) e)
      go (accepted c) n a =
          let z = accepted_numbers c t a in
          (ap (λ (k : Named). (named_numbers k).number) n ∙ sym z.0, ap (λ (k : Named). (named_numbers k).place) n ∙ sym z.1)

-- the same for C
module _ (s : List ℕ) (x y : ℕ) (r t : Answered) (w : NameCall (arcs_from x y) s r) (v : TestCall (ArcFrom x y) s t) where
  named : answered_numbers r ≡ named_numbers w.named
  named = ap answered_numbers w.numbers

  tested : answered_numbers t ≡ tested_numbers v.tested
  tested = ap answered_numbers v.numbers

  yes_is_1 : (a : Tested) → (a ≡ Yes) ↔ ((tested_numbers a).value ≡ 1)
  yes_is_1 (Err refusal) = (λ e. absurd (let q : ◌≡◌ {A = ℕ} 0 1 = cc in omega arith), λ e. absurd (omega arith))
  yes_is_1 (Ok true) = (λ e. refl, λ e. refl)
  yes_is_1 (Ok false) = (λ e. absurd (let q : ◌≡◌ {A = ℕ} 0 1 = cc in omega arith), λ e. absurd (omega arith))

  deck_yes_before : ((answered_numbers t).value ≡ 1) ↔ ((answered_numbers r).value ≢ 0)
  deck_yes_before = rw (ap (λ (k : Numbers). k.value) named, ap (λ (k : Numbers). k.value) tested) (
    λ e. (yes_before s x y w.named v.tested w.promise v.promise).0 ((yes_is_1 v.tested).1 e),
    λ e. (yes_is_1 v.tested).0 ((yes_before s x y w.named v.tested w.promise v.promise).1 e),
  )

  deck_refused_before : ((answered_numbers r).number ≡ (answered_numbers t).number) × ((answered_numbers r).place ≡ (answered_numbers t).place)
  deck_refused_before =
      rw (ap (λ (k : Numbers). k.number) named, ap (λ (k : Numbers). k.place) named, ap (λ (k : Numbers). k.number) tested, ap (λ (k : Numbers). k.place) tested)
      (refused_before s x y w.named v.tested w.promise v.promise)

-- ---- cycles

module _ (c : Contents) where
  some_name : (x y : ℕ) → ArcFrom x y c ↔ SomeName c x y
  some_name x y = some c x y (arcs_from x y c) (holding c x y)

  same_cycles : (l : List ℕ) → CycleByNames c l ↔ CycleBefore l c
  same_cycles l = (
    λ k. record { least = k.least; most = k.most; distinct = k.distinct; next = λ i m. (some_name _ _).1 (k.next i m); back = (some_name _ _).1 k.back },
    λ k. record { least = k.least; most = k.most; distinct = k.distinct; next = λ i m. (some_name _ _).0 (k.next i m); back = (some_name _ _).0 k.back },
  )

-- a test of two properties that are the same
same_answer : {P Q : Type 0} → P ↔ Q → (r : Tested) → YesWhere P r → YesWhere Q r
same_answer e (Err refusal) w = absurd w
same_answer e (Ok true) w = e.0 w
same_answer e (Ok false) w = λ q. w (e.1 q)

same_test : (P Q : Contents → Type 0) → ((c : Contents) → P c ↔ Q c) → (s : List ℕ) (r : Tested) → TestedAs P s r → TestedAs Q s r
same_test P Q e s r w = record { tested = go (read s) w.tested }
  where
    go : (o : Outcome) → OutcomeTested o P r → OutcomeTested o Q r
    go (refused cause at) t = t
    go (accepted c) t = same_answer (e c) r t

same_call : (P Q : Contents → Type 0) → ((c : Contents) → P c ↔ Q c) → (s : List ℕ) (r : Answered) → TestCall P s r → TestCall Q s r
same_call P Q e s r w = record { tested = w.tested; promise = same_test P Q e s w.tested w.promise; numbers = w.numbers }

other_way : {P Q : Contents → Type 0} → ((c : Contents) → P c ↔ Q c) → (c : Contents) → Q c ↔ P c
other_way e c = ((e c).1, (e c).0)

not_passed : {v : Result Verdict Refusal} → v ≡ Ok Tangled → v ≢ Ok Passed
not_passed t p = let z : ◌≡◌ {A = ℕ} 0 1 = cc in omega arith

not_1 : {n : Numbers} → n ≡ value_of 2 → n ≢ value_of 1
not_1 t p = let z = ap (λ (k : Numbers). k.value) (sym t ∙ p) in omega arith

-- ---- beyond the done steps

no_arc : (c : Contents) (x y : ℕ) → (length c.history ≤ x) ⊎ (length c.history ≤ y) → ¬ ArcFrom x y c
no_arc c x y (inl l) k = let i = arc_source (conflict_of c) (unit_of c) k in omega arith
no_arc c x y (inr l) k = let i = arc_target (conflict_of c) (unit_of c) k in omega arith

none_beyond : (c : Contents) (x y : ℕ) → (length c.history ≤ x) ⊎ (length c.history ≤ y) → names_value (arcs_from x y c) ≡ 0
none_beyond c x y l = go (names_value (arcs_from x y c)) refl
  where
    go : (n : ℕ) → names_value (arcs_from x y c) ≡ n → names_value (arcs_from x y c) ≡ 0
    go zero e = e
    go (suc n) e = absurd (no_arc c x y l ((some c x y (arcs_from x y c) (holding c x y)).1 (λ z. over z)))
      where
        over : names_value (arcs_from x y c) ≡ 0 → ⊥
        over z = let q : suc n ≡ 0 = sym e ∙ z in omega arith

-- ---- the letters

-- an entry of the letters is that of the names
letter_at : (ws : List ArcNames) (i : ℕ) (d : ArcNames) → i < length ws → get_or (map first_letter ws) i 0 ≡ first_letter (get_or ws i d)
letter_at [] i d l = absurd (not-suc-le-zero l)
letter_at (w ∷ ws) zero d l = refl
letter_at (w ∷ ws) (suc i) d l = letter_at ws i d (omega (arith, l))

module _ (c : Contents) (cycle : List ℕ) (k : Cycle (conflict_of c) (unit_of c) c.history cycle) where
  abbrev names : List ArcNames
  names = cycle_names (conflict_of c) (unit_of c) c.history cycle

  first_at : (i y : ℕ) → i < length cycle → get_or names i no_names ≡ arcs_from (get_or cycle i 0) y c → ArcFrom (get_or cycle i 0) y c → FirstHolds c (get_or cycle i 0) y (get_or (map first_letter names) i 0)
  first_at i y l z a =
      let e : get_or (map first_letter names) i 0 ≡ first_letter (arcs_from (get_or cycle i 0) y c) = letter_at names i no_names (rw (named_length (conflict_of c) (unit_of c) c.history cycle) l) ∙ ap first_letter z in
      subst (FirstHolds c (get_or cycle i 0) y) (sym e) (first c (get_or cycle i 0) y (arcs_from (get_or cycle i 0) y c) (holding c (get_or cycle i 0) y) a)

  cycle_lettered : Lettered c cycle (map first_letter names)
  cycle_lettered = record {
    many = length-map names first_letter ∙ named_length (conflict_of c) (unit_of c) c.history cycle;
    next = λ i l. first_at i (get_or cycle (suc i) 0) (omega arith) (named_next (conflict_of c) (unit_of c) c.history cycle i no_names l) (k.next i l);
    back = first_at (length cycle - 1) (get_or cycle 0 0) (omega (arith, k.least)) (named_back (conflict_of c) (unit_of c) c.history cycle (length cycle - 1) no_names (omega (arith, k.least))) k.back;
  }

-- ---- the text

above : Findings → List ℕ
above f = done_line f.done ++ (serial_line f.serial ++ (atomic_line f.atomic ++ (relserial_line f.relserial ++ (conflict_line f.conflict ++ verdict_line f.verdict))))

eight : (a b c d e f g k : List ℕ) → a ++ (b ++ (c ++ (d ++ (e ++ (f ++ (g ++ k)))))) ≡ (a ++ (b ++ (c ++ (d ++ (e ++ f))))) ++ (g ++ k)
eight a b c d e f g k = simp append_assoc

text_ends : (f : Findings) (cycle : List ℕ) (names : List ArcNames) → f.verdict ≡ tangled cycle names → text_of (accepted_with f) ≡ above f ++ (cycle_text cycle ++ arcs_text (map first_letter names))
unfolding text_of above
text_ends f cycle names e =
    eight (done_line f.done) (serial_line f.serial) (atomic_line f.atomic) (relserial_line f.relserial) (conflict_line f.conflict) (verdict_line f.verdict) (evidence_line f.verdict) (arcs_line f.verdict)
    ∙ ap (λ (l : List ℕ). above f ++ l) (lines f.verdict e)
  where
    lines : (v : ReportVerdict) → v ≡ tangled cycle names → evidence_line v ++ arcs_line v ≡ cycle_text cycle ++ arcs_text (map first_letter names)
    lines v q = rw (q, each_map (λ (x : ℕ). 0x20 ∷ x ∷ []) first_letter names)

text_lettered : (s : List ℕ) (c : Contents) → read s ≡ accepted c → (text text' : List ℕ) (n : ℕ) (r : Reports (read s) text text' n) → (f : Findings) (cycle : List ℕ) (names : List ArcNames)
    → r.report ≡ accepted_with f → f.verdict ≡ tangled cycle names → ArcsUnder c cycle (take n text')
text_lettered s c e text text' n r f cycle names q u =
    let w : ReportOn (accepted c) (accepted_with f) = subst (λ (o : Outcome). ReportOn o (accepted_with f)) e (subst (ReportOn (read s)) q r.report_on) in
    let x : VerdictOn c (tangled cycle names) = subst (VerdictOn c) u w.verdict_is in
    let front : take n text' ≡ text_of r.report = ap (take n) r.put.bytes ∙ take_at (text_of r.report) (drop (length (text_of r.report)) text) n (sym r.put.count) in
    record {
      letters = map first_letter names;
      lettered = subst (λ (ws : List ArcNames). Lettered c cycle (map first_letter ws)) (sym x.2) (cycle_lettered c cycle x.1);
      above = above f;
      ends = front ∙ ap text_of q ∙ text_ends f cycle names u;
    }

-- ---- the statement

pub arcs_by_name : ArcsByName
arcs_by_name = record {
  all_named = λ s c e x y r w. (arcs_from x y c, named_of (arcs_from x y) s c e r w, holding c x y);
  deck_named = λ s c e x y r w. (
    arcs_from x y c,
    ap answered_numbers w.numbers ∙ ap named_numbers (named_of (arcs_from x y) s c e w.named w.promise),
    holding c x y,
  );
  yes_before = yes_before;
  refused_before = refused_before;
  deck_yes_before = deck_yes_before;
  deck_refused_before = deck_refused_before;
  beyond = λ s c e x y r w l. ap (λ (z : Named). (named_numbers z).value) (named_of (arcs_from x y) s c e r w) ∙ none_beyond c x y l;
  deck_beyond = λ s c e x y r w l. ap (λ (z : Answered). (answered_numbers z).value) w.numbers ∙ ap (λ (z : Named). (named_numbers z).value) (named_of (arcs_from x y) s c e w.named w.promise) ∙ none_beyond c x y l;
  same_cycles = same_cycles;
  checked_as_before = λ s l r. (
    same_test (λ c. CycleByNames c l) (CycleBefore l) (λ c. same_cycles c l) s r,
    same_test (CycleBefore l) (λ c. CycleByNames c l) (other_way (λ c. same_cycles c l)) s r,
  );
  deck_checked_as_before = λ s l r. (
    same_call (λ c. CycleByNames c l) (CycleBefore l) (λ c. same_cycles c l) s r,
    same_call (CycleBefore l) (λ c. CycleByNames c l) (other_way (λ c. same_cycles c l)) s r,
  );
  judged_by_names = λ s c e order order' cycle cycle' r a b j t. (same_cycles c (take (count_of r) cycle')).1 ((demand_2 s c e order order' cycle cycle' r a b j).cycle_returned (not_passed t));
  deck_judged_by_names = λ s c e order order' cycle cycle' r a b j t. (same_cycles c (take r.count cycle')).1 ((deck_demand_2 s c e order order' cycle cycle' r a b j).cycle_returned (not_1 t));
  lettered = text_lettered;
}
