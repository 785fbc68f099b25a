-- The bytes that a crash of the caller's choice leaves are bytes that a crash may leave.
use Rattle.std.proofs.Common.{◌≡◌, ℕ, ◌+◌, ◌/◌, ◌<◌, ◌≤◌, List, [], ◌∷◌, length, get_or, fold, replicate, refl, ◌∙◌, arith}
use Rattle.std.proofs.lemmas.List.{length-take, length-replicate, get_or-replicate, get_or_past}
use Rattle.std.proofs.lemmas.Bool.{cases_lt}
use Rattle.std.proofs.Common.{inl, inr}
use Rattle.disk_model.specs.Places.{AreBytes, overwritten}
use Rattle.disk_model.specs.PlaceLaws.{take_bytes, overwritten_bytes, overwritten_length, overwritten_outside}
use Rattle.disk_model.specs.PartLaws.{widened}
use Rattle.disk_model.specs.Notes.{Write, Held, after, stable, held, Torn, MayLeave, Fits, AllFit}
use Rattle.disk_model.specs.Crash.{torn, left_of, crashed}
use Rattle.disk_model.specs.declared.note.Note.{Note}
use Rattle.disk_model.specs.declared.note.Note.TheVariants.{Wrote, Synced}
use Rattle.disk_model.specs.declared.crash.Pick.{Pick}
use Rattle.disk_model.specs.declared.crash.Pick.TheVariants.{Nothing, Whole, FirstHalf, Fill}

-- no more bytes than were written
pub torn_length : (pick : Pick) (bytes : List ℕ) → length (torn pick bytes) ≤ length bytes
torn_length Nothing bytes = omega arith
torn_length Whole bytes = omega arith
torn_length FirstHalf bytes = omega (arith, length-take (length bytes / 2) bytes)
torn_length (Fill byte) bytes = omega (arith, length-replicate (length bytes) byte)

-- the byte that a crash fills with is one
abbrev pub FillsBytes : Pick → Type 0
FillsBytes (Fill byte) = byte < 256
FillsBytes pick = Unit {0}

copies_bytes : (n byte : ℕ) → byte < 256 → AreBytes (replicate n byte)
copies_bytes n byte small k =
    elim (cases_lt k n) as (λ _. get_or (replicate n byte) k 0 < 256) [
      | inl below ↦ rw (get_or-replicate n k byte 0 below) small
      | inr past ↦ rw (get_or_past (replicate n byte) k 0 (omega (arith, past, length-replicate n byte))) (omega arith)
    ]

pub torn_bytes : (pick : Pick) (bytes : List ℕ) → FillsBytes pick → AreBytes bytes → AreBytes (torn pick bytes)
torn_bytes Nothing bytes small are = λ k. omega arith
torn_bytes Whole bytes small are = are
torn_bytes FirstHalf bytes small are = take_bytes (length bytes / 2) bytes are
torn_bytes (Fill byte) bytes small are = copies_bytes (length bytes) byte small

-- writes that lie within n bytes, and write bytes
abbrev Within : ℕ → List Write → Type 0
Within n [] = Unit {0}
Within n (w ∷ since) = (w.at + length w.bytes ≤ n) × AreBytes w.bytes × Within n since

after_within : (n : ℕ) (h : Held) (note : Note) → Within n h.since → Fits n note → Within n (after h note).since
after_within n h (Wrote at bytes) within fits = (fits.0, fits.1, within)
after_within n h Synced within fits = tt

held_within : (n : ℕ) (h : Held) (notes : List Note) → Within n h.since → AllFit n notes → Within n (fold after h notes).since
held_within n h [] within fit = within
held_within n h (note ∷ notes) within fit = held_within n (after h note) notes (after_within n h note within fit.0) fit.1

record IsLeft (n : ℕ) (synced : List ℕ) (since : List Write) (c : List ℕ) : Type 0 where
  size : length c ≡ n
  bytes : AreBytes c
  torn : Torn synced since c

left_is : (pick : Pick) (n : ℕ) (synced : List ℕ) (since : List Write) → FillsBytes pick → length synced ≡ n → AreBytes synced → Within n since → IsLeft n synced since (left_of pick synced since)
left_is pick n synced [] small long are within = record { size = long; bytes = are; torn = refl }
left_is pick n synced (w ∷ since) small long are within =
    let older = left_is pick n synced since small long are within.2 in
    let put = torn pick w.bytes in
    let no_more = torn_length pick w.bytes in
    let fits : w.at + length put ≤ length (left_of pick synced since) = omega (arith, within.0, no_more, older.size) in
    let same = overwritten_outside (left_of pick synced since) w.at put fits in
    let bytes = overwritten_bytes (left_of pick synced since) w.at put older.bytes (torn_bytes pick w.bytes small within.1) in
    let new = overwritten (left_of pick synced since) w.at put in
    record {
      size = same.same_length ∙ older.size;
      bytes = bytes;
      torn = (left_of pick synced since, older.torn, widened w.at (length put) (left_of pick synced since) new same w.at (length w.bytes) (omega arith) (omega (arith, no_more)), bytes);
    }

-- the bytes that were synced last are bytes, as many as the first
record IsSynced (n : ℕ) (h : Held) : Type 0 where
  now_length : length h.now ≡ n
  now_bytes : AreBytes h.now
  synced_length : length h.synced ≡ n
  synced_bytes : AreBytes h.synced

after_synced : (n : ℕ) (h : Held) (note : Note) → IsSynced n h → Fits n note → IsSynced n (after h note)
after_synced n h (Wrote at bytes) is fits = record {
  now_length = overwritten_length h.now at bytes.items (omega (arith, fits.0, is.now_length)) ∙ is.now_length;
  now_bytes = overwritten_bytes h.now at bytes.items is.now_bytes fits.1;
  synced_length = is.synced_length;
  synced_bytes = is.synced_bytes;
}
after_synced n h Synced is fits = record { now_length = is.now_length; now_bytes = is.now_bytes; synced_length = is.now_length; synced_bytes = is.now_bytes }

held_synced : (n : ℕ) (h : Held) (notes : List Note) → IsSynced n h → AllFit n notes → IsSynced n (fold after h notes)
held_synced n h [] is fit = is
held_synced n h (note ∷ notes) is fit = held_synced n (after h note) notes (after_synced n h note is fit.0) fit.1

pub crashed_may_stay : (pick : Pick) (first : List ℕ) (notes : List Note) → FillsBytes pick → AreBytes first → AllFit (length first) notes → MayLeave (held first notes) (crashed pick (held first notes))
crashed_may_stay pick first notes small are fit =
    let h = held first notes in
    let is = held_synced (length first) (stable first) notes (record { now_length = refl; now_bytes = are; synced_length = refl; synced_bytes = are }) fit in
    (left_is pick (length first) h.synced h.since small is.synced_length is.synced_bytes (held_within (length first) (stable first) notes tt fit)).torn

pub crashed_length : (pick : Pick) (first : List ℕ) (notes : List Note) → FillsBytes pick → AreBytes first → AllFit (length first) notes → length (crashed pick (held first notes)) ≡ length first
crashed_length pick first notes small are fit =
    let h = held first notes in
    let is = held_synced (length first) (stable first) notes (record { now_length = refl; now_bytes = are; synced_length = refl; synced_bytes = are }) fit in
    (left_is pick (length first) h.synced h.since small is.synced_length is.synced_bytes (held_within (length first) (stable first) notes tt fit)).size
