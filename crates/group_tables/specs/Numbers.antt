-- Crashes and places of cores by numbers.
use Rattle.std.specs.Prelude.{ℕ, ◌==◌, ◌&&◌, Bool, true, false, List, length, map, position, unwrap_or, Option, None, Some, Vec}
use Rattle.std.specs.Global.{Global}
use Rattle.std.specs.Str.{bytes_eq}
use Rattle.std.proofs.Math.Bool.{beq}
use Rattle.crash_signatures.specs.Words.{same_words}
use Rattle.crash_signatures.specs.declared.groups.Core.{Core}
use Rattle.group_tables.specs.declared.numbers.CrashPlace.{CrashPlace}
use Rattle.group_tables.specs.declared.numbers.CrashedCore.{CrashedCore}
use Rattle.group_tables.specs.Values.{CrashSaid, crash_said}

-- two crashes have one program and one signal
abbrev pub is_same_cause : CrashSaid → CrashSaid → Bool
is_same_cause a b = bytes_eq a.program b.program && a.signal == b.signal

-- two crashes are one: they also have the same words, and both have frames missing, or neither
abbrev pub is_same_crash : CrashSaid → CrashSaid → Bool
is_same_crash a b = is_same_cause a b && (beq a.signature.is_missing b.signature.is_missing && same_words a.signature.words b.signature.words)

abbrev pub is_same : CrashedCore → CrashedCore → Bool
is_same a b = is_same_crash (crash_said a.crash) (crash_said b.crash)

-- the same build ID, or none
abbrev pub is_same_build : Option (Vec ℕ Global) → Option (Vec ℕ Global) → Bool
is_same_build (Some a) (Some b) = bytes_eq a.items b.items
is_same_build None None = true
is_same_build _ _ = false

abbrev pub is_same_spot : CrashPlace → CrashPlace → Bool
is_same_spot a b = bytes_eq a.text.items b.text.items && is_same_build a.build b.build

abbrev pub are_same_spots : Option CrashPlace → Option CrashPlace → Bool
are_same_spots (Some a) (Some b) = is_same_spot a b
are_same_spots _ _ = false

-- two cores have one place: a place in one build, and one program and signal
abbrev pub is_same_place : CrashedCore → CrashedCore → Bool
is_same_place a b = are_same_spots a.place b.place && is_same_cause (crash_said a.crash) (crash_said b.crash)

-- the number of a core's crash: the first core with the same crash
abbrev pub crash_number : List CrashedCore → CrashedCore → ℕ
crash_number cores c = unwrap_or (position (λ other. is_same other c) cores) (length cores)

-- that of its place, if it has one
abbrev pub place_number : List CrashedCore → CrashedCore → Option ℕ
place_number cores c = position (λ other. is_same_place other c) cores

abbrev pub numbered_core : List CrashedCore → CrashedCore → Core
numbered_core cores c = record { number = c.number; signature = crash_number cores c; is_missing = c.crash.signature.is_missing; place = place_number cores c }

abbrev pub numbered : List CrashedCore → List Core
numbered cores = map (numbered_core cores) cores
