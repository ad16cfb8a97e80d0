-- The head, the entries, the line end, each behind the one before.
use native.Mathlib.Nat.{le_refl}
use mathlib.Core.Path.{refl}
use Rattle.report.proofs.WithinLaws.{exactly, behind_within, within_is}
use Rattle.report.proofs.put_list.Goals as goal

pub returns : goal.returns
returns g c = within_is (behind_within (behind_within (exactly c.put_bytes-n.ensures) c.put_entries-m.ensures) (exactly c.put_byte-k.ensures)) refl (le_refl _)
