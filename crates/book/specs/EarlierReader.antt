-- Books before and after command 54 (document 02, change 6): books without a 54 are read as before, and the earlier reader refuses each book with a 54 by 2,
-- if no earlier command is at fault. The earlier reader is the format without 54, in which that byte is no command. A book has a 54 where reading comes to
-- that byte as a command; an operand may be 54 too, and means what it meant. All this holds under any rules, so under those of deck books, `deck_rules`.
use Rattle.std.specs.Prelude.{ℕ, ◌≤◌, ◌<◌, ◌≡◌, false, List, length}
use Rattle.theory.specs.Transfers.{WithoutTransfers}
use Rattle.book.specs.Format.{Contents, refused, accepted, byte, ReadState, on, command_at, start, read_by}
use Rattle.book.specs.declared.Rules.{Rules}
use Rattle.book.specs.declared.Cause.TheVariants.{NoCommand}

-- the rules from before transfers: the same limits, 42 as it is, and no 54
abbrev pub earlier : Rules → Rules
earlier ρ = record { step_limit = ρ.step_limit; length_limit = ρ.length_limit; has_cuts = ρ.has_cuts; has_transfers = false }

-- reading comes to an offset, in a state: the book is not too long (1 is tested first), and behind each earlier command reading goes on
pub data Reaches (ρ : Rules) (s : List ℕ) : ℕ → ReadState → Type 0 where
  at_start : length s ≤ ρ.length_limit → Reaches ρ s 0 start
  behind : {at at' : ℕ} {t t' : ReadState} → Reaches ρ s at t → command_at ρ s at t ≡ on at' t' → Reaches ρ s at' t'

-- a 54 at an offset: reading comes to it, no earlier command being at fault, and the byte there is 54
pub record Has54 (ρ : Rules) (s : List ℕ) (at : ℕ) : Type 0 where
  pub state : ReadState
  pub reached : Reaches ρ s at state
  pub inside : at < length s
  pub is_54 : byte s at ≡ 0x54

-- the earlier reader refuses the book by 2, NoCommand, at the book's first 54
pub record RefusedBefore (ρ : Rules) (s : List ℕ) : Type 0 where
  pub place : ℕ
  pub has_54 : Has54 ρ s place
  pub first : (at : ℕ) → Has54 ρ s at → place ≤ at
  pub answer : read_by (earlier ρ) s ≡ refused NoCommand place

pub record EarlierReader : Type 0 where
  -- Books without a 54 are read as before: accepted with the same contents, or refused with the same cause and place.
  pub without_54 : (ρ : Rules) (s : List ℕ) → ((at : ℕ) → ¬ Has54 ρ s at) → read_by ρ s ≡ read_by (earlier ρ) s
  -- The earlier reader refuses each book with a 54 by 2, if no earlier command is at fault.
  pub with_54 : (ρ : Rules) (s : List ℕ) (at : ℕ) → Has54 ρ s at → RefusedBefore ρ s
  -- So each book that was accepted before is accepted with the same contents, which have no transfer;
  pub still_accepted : (ρ : Rules) (s : List ℕ) (c : Contents) → read_by (earlier ρ) s ≡ accepted c → (read_by ρ s ≡ accepted c) × WithoutTransfers c.runs
  -- each book that is accepted and has no transfer was accepted before, with the same contents;
  pub accepted_before : (ρ : Rules) (s : List ℕ) (c : Contents) → read_by ρ s ≡ accepted c → WithoutTransfers c.runs → read_by (earlier ρ) s ≡ accepted c
  -- and each that is accepted and has a transfer was refused by 2, at its first 54.
  pub newly_accepted : (ρ : Rules) (s : List ℕ) (c : Contents) → read_by ρ s ≡ accepted c → ¬ WithoutTransfers c.runs → RefusedBefore ρ s
