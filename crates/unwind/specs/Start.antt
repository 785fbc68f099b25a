-- The start of the program: the address that the kernel gives for it (getauxval(3), AT_ENTRY). Nothing called the code there.
use Rattle.std.specs.Prelude.{ℕ, ◌+◌, ◌-◌, ◌%◌, ◌^◌, Bool, false, Option, None, Some}
use Rattle.call_frames.specs.Covering.{covers}
use Rattle.call_frames.specs.Entry.{EntryView}
use Rattle.unwind.specs.Code.{looked_up}
use Rattle.unwind.specs.declared.frame.Frame.{Frame}

-- an address n of the process in the numbering of a file whose address v is at a: as far from v as n is from a
abbrev pub carried : ℕ → ℕ → ℕ → ℕ
carried v a n = (v + (n + (2 ^ 64 - a)) % 2 ^ 64) % 2 ^ 64

abbrev pub covers_at : ℕ → EntryView → ℕ → Option ℕ → Bool
covers_at v e n None = false
covers_at v e n (Some a) = covers (carried v a n) e

-- The program begins in the code of an FDE: that covers the address of the start, carried to the numbering of the file whose address v is looked up for the frame.
unfoldable pub holds_start : Option ℕ → Frame → ℕ → EntryView → Bool
holds_start None f v e = false
holds_start (Some n) f v e = covers_at v e n (looked_up f)
