-- Both round trips: accepted bytes are the bytes of what was read, and the bytes of a book with any history that its runs allow are read as
-- that book.
use Prim.Native.Nat.{ℕ, zero, suc, ◌+◌, ◌-◌, ◌≤◌, zero-le}
use mathlib.Core.Path.{◌≡◌, refl, ap, ◌∙◌}
use mathlib.Core.List.{List, [], ◌∷◌, ◌++◌, append_assoc}
use mathlib.Core.Bool.{Bool, true, false}
use native.Mathlib.Nat.{le_refl}
use native.Mathlib.Omega.{arith}
use borrow.Author.Tests.{le-leb}
use lib.ListN.{length, drop, length-append}
use lib.Seq.{drop-append_seam}
use lib.Dec.{leb}
use Rattle.book.specs.Format.{Bytes, deck_rules, Contents, with_history, Allowed, refused, accepted, pick, Command, command_bytes, width, ReadState, over, next_state, command_at, read_from, read_commands, read_by, read, start}
use Rattle.book.specs.Render.{render}
use Rattle.book.specs.declared.Rules.{Rules}
use Rattle.book.specs.declared.Cause.TheVariants.{EndsEarly, BookTooLong}
use Rattle.book.proofs.FormatLaws.{width_positive, Permitted, WellFormed, empty, more, IsBook, Goes, command, end, next, command_read, end_read, not_accepted}
use Rattle.book.proofs.RenderLaws.{body, body_more}
use Rattle.book.proofs.Sizes.{few, render_short}
use Rattle.book.proofs.Histories.{well_formed_allowed, history_book}

-- ---- accepted bytes are the bytes of a book

record Accepted (ρ : Rules) (s : List ℕ) (d : Contents) : Type 0 where
  book : IsBook ρ d
  bytes : render d ≡ s

-- from a state on, whose bytes stand before the place
read_on : (ρ : Rules) (k : ℕ) (s : List ℕ) → Bytes s → (at : ℕ) (t : ReadState) (d : Contents) → WellFormed ρ t → body t.contents ++ drop at s ≡ s
    → read_from ρ k s at t ≡ accepted d → Accepted ρ s d
unfolding read_from
read_on ρ zero s bytes at t d w b e = not_accepted EndsEarly at d e
read_on ρ (suc k) s bytes at t d w b e = go (read_on ρ k s bytes) (next ρ s bytes at t (read_from ρ k s) d e)
  where
    go : ((at : ℕ) (t : ReadState) (d : Contents) → WellFormed ρ t → body t.contents ++ drop at s ≡ s → read_from ρ k s at t ≡ accepted d → Accepted ρ s d)
        → Goes ρ s at t (read_from ρ k s) d → Accepted ρ s d
    go later (command c h x f) = later (at + width c) (next_state c t) d (more w c h) (rw (body_more w c h, append_assoc, ← x) b) f
    go later (end x q) = record {
      book = record { state = t; well_formed = w; contents = q };
      bytes = rw (← q, ← x) b;
    }

read_accepted : (ρ : Rules) (s : List ℕ) (d : Contents) → Bytes s → read_by ρ s ≡ accepted d → Accepted ρ s d
unfolding read_by read_commands
read_accepted ρ s d bytes e = go (leb (length s) ρ.length_limit) e
  where
    go : (b : Bool) → pick b (read_from ρ (suc (length s)) s 0 start) (refused BookTooLong 0) ≡ accepted d → Accepted ρ s d
    go true e = read_on ρ (suc (length s)) s bytes 0 start d empty refl e
    go false e = not_accepted BookTooLong 0 d e

pub accepted_book : (s : List ℕ) (d : Contents) → Bytes s → read s ≡ accepted d → IsBook deck_rules d
accepted_book s d bytes e = (read_accepted deck_rules s d bytes e).book

-- THE FIRST ROUND TRIP: accepted bytes are the bytes of what was read
pub render_read : (s : List ℕ) (d : Contents) → Bytes s → read s ≡ accepted d → render d ≡ s
render_read s d bytes e = (read_accepted deck_rules s d bytes e).bytes

-- ---- the bytes of a book are read as that book

module _ {ρ : Rules} where
  commands : {t : ReadState} → WellFormed ρ t → ℕ
  commands empty = 0
  commands (more w c h) = suc (commands w)

  length_more : {t : ReadState} → WellFormed ρ t → (c : Command) → Permitted ρ t c → length (body (next_state c t).contents) ≡ length (body t.contents) + width c
  length_more {t} w c h = ap length (body_more w c h) ∙ length-append (body t.contents) (command_bytes c)

  commands_few : {t : ReadState} (w : WellFormed ρ t) → commands w ≤ length (body t.contents)
  unfolding commands
  commands_few empty = zero-le
  commands_few (more w c h) = omega (arith, commands_few w, width_positive c, length_more w c h)

  read_along : {t : ReadState} (w : WellFormed ρ t) (s rest : List ℕ) → s ≡ body t.contents ++ rest → (m : ℕ)
      → read_from ρ (m + commands w) s 0 start ≡ read_from ρ m s (length (body t.contents)) t
  unfolding commands read_from
  read_along empty s rest e m = let z : m + 0 ≡ m = omega arith in rw z
  read_along (more {t} w c h) s rest e m =
      let at : ℕ = length (body t.contents) in
      let front : s ≡ body t.contents ++ (command_bytes c ++ rest) = e ∙ rw (body_more w c h, append_assoc) in
      let x : drop at s ≡ command_bytes c ++ rest = rw front (drop-append_seam (body t.contents) (command_bytes c ++ rest)) in
      let z : m + suc (commands w) ≡ suc m + commands w = omega arith in
      rw z (read_along w s (command_bytes c ++ rest) front (suc m) ∙ rw (command_read ρ s rest at t c h x, length_more w c h))

  well_formed_read : {t : ReadState} → WellFormed ρ t → length (render t.contents) ≤ ρ.length_limit → read_by ρ (render t.contents) ≡ accepted t.contents
  unfolding read_by read_commands read_from
  well_formed_read {t} w l =
      let s : List ℕ = render t.contents in
      let at : ℕ = length (body t.contents) in
      let m : ℕ = length s - commands w in
      let n : length s ≡ at + 1 = length-append (body t.contents) (0x45 ∷ []) in
      let z : suc (length s) ≡ suc m + commands w = omega (arith, commands_few w) in
      let e : command_at ρ s at t ≡ over (accepted t.contents) = end_read ρ s at t (drop-append_seam (body t.contents) (0x45 ∷ [])) in
      rw (le-leb (length s) ρ.length_limit l)
      (ap (λ (k : ℕ). read_from ρ k s 0 start) z ∙ read_along w s (0x45 ∷ []) refl (suc m) ∙ rw e)

pub read_render : (d : Contents) → IsBook deck_rules d → read (render d) ≡ accepted d
read_render d b = rw (← b.contents)
    (let w = b.well_formed in well_formed_read w (render_short deck_rules b.state.contents (le_refl _) (few w) (well_formed_allowed w)))

-- ---- the bytes of a book are bytes

bytes_append : (xs ys : List ℕ) → Bytes xs → Bytes ys → Bytes (xs ++ ys)
bytes_append [] ys f g i = g i
bytes_append (x ∷ xs) ys f g zero = f 0
bytes_append (x ∷ xs) ys f g (suc i) = bytes_append xs ys (λ i. f (suc i)) g i

end_bytes : Bytes (0x45 ∷ [])
end_bytes zero = omega arith
end_bytes (suc i) = omega arith

well_formed_bytes : {ρ : Rules} {t : ReadState} → WellFormed ρ t → Bytes (body t.contents)
well_formed_bytes empty = λ i. omega arith
well_formed_bytes (more {t} w c h) = rw (body_more w c h) (bytes_append (body t.contents) (command_bytes c) (well_formed_bytes w) h.bytes)

pub render_bytes : {ρ : Rules} (d : Contents) → IsBook ρ d → Bytes (render d)
render_bytes d b = rw (← b.contents) (bytes_append (body b.state.contents) (0x45 ∷ []) (well_formed_bytes b.well_formed) end_bytes)

-- ---- with another history

-- THE SECOND ROUND TRIP: a book with any history that its runs allow is read as that
pub read_with_history : (s : List ℕ) (d : Contents) (k : List ℕ) → Bytes s → read s ≡ accepted d → Allowed k d
    → read (render (with_history d k)) ≡ accepted (with_history d k)
read_with_history s d k bytes e w = read_render (with_history d k) (history_book d k (accepted_book s d bytes e) w)

-- so with its own history
pub read_own_history : (s : List ℕ) (d : Contents) → Bytes s → read s ≡ accepted d → read (render d) ≡ accepted d
read_own_history s d bytes e = read_render d (accepted_book s d bytes e)

-- and with none
pub read_no_history : (s : List ℕ) (d : Contents) → Bytes s → read s ≡ accepted d → read (render (with_history d [])) ≡ accepted (with_history d [])
read_no_history s d bytes e = read_with_history s d [] bytes e (λ r. zero-le)
