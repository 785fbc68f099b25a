-- The bytes that a crash of the caller's choice leaves of writes that no sync has made stable.
use Rattle.std.specs.Prelude.{ℕ, ◌/◌, List, [], ◌∷◌, length, take, replicate}
use Rattle.disk_model.specs.Places.{overwritten}
use Rattle.disk_model.specs.Notes.{Write, Held}
use Rattle.disk_model.specs.declared.note.Note.{Note}
use Rattle.disk_model.specs.declared.note.Note.TheVariants.{Wrote, Synced}
use Rattle.disk_model.specs.declared.crash.Pick.{Pick}
use Rattle.disk_model.specs.declared.crash.Pick.TheVariants.{Nothing, Whole, FirstHalf, Fill}

-- the bytes that it leaves of a write of these
abbrev pub torn : Pick → List ℕ → List ℕ
torn Nothing bytes = []
torn Whole bytes = bytes
torn FirstHalf bytes = take (length bytes / 2) bytes
torn (Fill byte) bytes = replicate (length bytes) byte

-- the synced bytes, changed by the bytes that it leaves of each write since; the newest write comes first
abbrev pub left_of : Pick → List ℕ → List Write → List ℕ
left_of pick synced [] = synced
left_of pick synced (w ∷ since) = overwritten (left_of pick synced since) w.at (torn pick w.bytes)

-- the bytes that the crash leaves of a disk
abbrev pub crashed : Pick → Held → List ℕ
crashed pick h = left_of pick h.synced h.since

-- the bytes after the crash leaves its part of one note, and of each of these notes
abbrev pub struck : Pick → List ℕ → Note → List ℕ
struck pick bytes (Wrote at from) = overwritten bytes at (torn pick from.items)
struck pick bytes Synced = bytes

abbrev pub replayed : Pick → List ℕ → List Note → List ℕ
replayed pick bytes [] = bytes
replayed pick bytes (note ∷ notes) = replayed pick (struck pick bytes note) notes

-- none of them is a sync
abbrev pub IsWrite : Note → Type 0
IsWrite (Wrote at bytes) = Unit {0}
IsWrite Synced = ⊥

abbrev pub AllWrites : List Note → Type 0
AllWrites [] = Unit {0}
AllWrites (note ∷ notes) = IsWrite note × AllWrites notes
