-- The room in the journal that the record of a stream needs.
use Rattle.std.specs.Prelude.{ℕ, ◌+◌, ◌||◌, Bool, false, not, length, nat_lt, Option, None, Some}
use Rattle.extents.specs.Runs.{runs_of}
use Rattle.journal_layout.specs.Layout.{half_length}
use Rattle.intake.specs.Parts.{StreamParts}
use Rattle.intake.specs.Slots.{stream_at}
use Rattle.intake.specs.State.{ArchiveState, StreamFacts}
use Rattle.intake.specs.Step.{record_size, snapshot_size}

-- A record of `size` bytes has room with the gate after it: after the records that are there, or after the cases that are written anew. Whether
-- a generation is left for that is not looked at.
abbrev pub has_record_room : ArchiveState → ℕ → Bool
has_record_room s size = nat_lt (s.used + size) (half_length s.shape) || nat_lt (snapshot_size s.cases + size) (half_length s.shape)

-- the bytes of the record of the case that a stream becomes, if its image lies in one run of blocks more than the stream has
abbrev pub longest_record : StreamFacts → ℕ
longest_record x = record_size x.origin.name (length (runs_of x.blocks) + 1)

abbrev pub longest_of : StreamParts → ℕ
longest_of x = longest_record x.facts

abbrev pub lacks_room_for : ArchiveState → Option StreamFacts → Bool
lacks_room_for s None = false
lacks_room_for s (Some x) = not (has_record_room s (longest_record x))

-- That record of the stream in a slot has no room.
abbrev pub lacks_record_room : ArchiveState → ℕ → Bool
lacks_record_room s slot = lacks_room_for s (stream_at s.streams slot)
