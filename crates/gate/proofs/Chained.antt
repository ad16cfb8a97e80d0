-- Demand 3: calls made in turn on the record that opening returned over an accepted book. The contracts of the calls make the chain
-- a run of the plain gate, of which the demand holds.
use Prim.Native.Nat.{ℕ, suc}
use mathlib.Core.Path.{◌≡◌, refl, subst, ap, ◌∙◌}
use mathlib.Core.List.{List, [], ◌∷◌, ◌++◌}
use lib.ListN.{length}
use Rattle.book.specs.Format.{Bytes, Contents, accepted, read, with_history}
use Rattle.plain.specs.Plain.{Call, Answer, newly_opened, PlainCalls, PlainCall, none as no_calls, next as next_call}
use Rattle.plain.specs.Demand.{Demand3}
use Rattle.gate.specs.Gate.{Replied, answer_of, book_of, state_of, opened_book, Sound, OpenedAs, CalledAs}
use Rattle.gate.specs.Chain.{Chain, none, link}
use Rattle.gate.specs.declared.Gate.{Gate}
use Rattle.gate.specs.declared.Opened.{Opened}
use Rattle.plain.proofs.PlainGate.{call_history}
use Rattle.gate.proofs.Records.{sound_call}
use Rattle.plain.proofs.Demand.{plain_demand}

-- from a sound record on, each call is the plain gate's and leaves a sound record
chain_plain : (c : Contents) {g h : Gate} {xs : List Call} {bs : List Answer} → Chain g xs bs h → Sound g → book_of g ≡ with_history c [] → PlainCalls c (state_of g) xs bs (state_of h)
chain_plain c none y e = no_calls
chain_plain c {g} (link {h = h} {x = x} a w k) y e =
    let v = sound_call y w in
    let p = subst (λ b. PlainCall b (state_of g) x (answer_of a) (state_of h)) e v.plain in
    next_call (call_history c [] p) (chain_plain c k v.sound (v.book ∙ e))

pub chain_book : {g h : Gate} {xs : List Call} {bs : List Answer} → Chain g xs bs h → Sound g → book_of h ≡ book_of g
chain_book none y = refl
chain_book (link a w k) y = let v = sound_call y w in chain_book k v.sound ∙ v.book

-- from the opening on
pub opened_plain : (s : List ℕ) (c : Contents) (o : Opened) (calls : List Call) (answers : List Answer) (g : Gate) → read s ≡ accepted c → OpenedAs (read s) o
    → Chain o.gate calls answers g → PlainCalls c newly_opened calls answers (state_of g)
opened_plain s c o calls answers g e w k = rw (← w.state) (chain_plain c k w.sound (w.book ∙ ap opened_book e))

pub demand_3 : (s : List ℕ) (c : Contents) → Bytes s → read s ≡ accepted c → (o : Opened) → OpenedAs (read s) o
    → (calls : List Call) (answers : List Answer) (g : Gate) → Chain o.gate calls answers g → Demand3 s c calls answers (state_of g)
demand_3 s c bytes e o w calls answers g k = plain_demand c s bytes e calls answers (state_of g) (opened_plain s c o calls answers g e w k)

-- ---- one call more

pub chain_snoc : {g h k : Gate} {xs : List Call} {bs : List Answer} {x : Call} → Chain g xs bs h → (a : Replied) → CalledAs h x a k
    → Chain g (xs ++ x ∷ []) (bs ++ answer_of a ∷ []) k
chain_snoc none a w = link a w none
chain_snoc (link b v c) a w = link b v (chain_snoc c a w)

pub chain_length : {g h : Gate} {xs : List Call} {bs : List Answer} → Chain g xs bs h → length bs ≡ length xs
chain_length none = refl
chain_length (link a w k) = ap suc (chain_length k)
