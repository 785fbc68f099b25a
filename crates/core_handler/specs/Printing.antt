-- The log of a handler, by its configuration and its words.
use Rattle.std.specs.Prelude.{◌≡◌, ℕ, ◌==◌, List, [], ◌∷◌, ◌++◌, length, Option, Some, None, codes, if◌then◌else◌}
use Rattle.std.specs.Option.{unwrap_or}
use Rattle.script_words.specs.Printing.{shown}
use Rattle.handler_files.specs.declared.fate.Fate.{Fate}
use Rattle.handler_files.specs.declared.fate.Fate.TheVariants.{Stay, Go}
use Rattle.core_handler.specs.declared.outcome_lines.Place.{Place}
use Rattle.core_handler.specs.declared.outcome_lines.Place.TheVariants.{Lost, Kept}
use Rattle.core_handler.specs.declared.printer.Spooling.{Spooling}

-- the log: the kernel's, if the configuration names none
abbrev pub log_said : Option (List ℕ) → List ℕ
log_said log = unwrap_or log (codes "/dev/kmsg")

-- the archive that the configuration names, or else the one that the words name
abbrev pub archive_said : Option (List ℕ) → Option (List ℕ) → Option (List ℕ)
archive_said None words = words
archive_said (Some archive) words = Some archive

-- a name as it is printed; a minus, if it isn't known
abbrev pub name_or_minus : List ℕ → List ℕ
name_or_minus [] = codes "-"
name_or_minus (byte ∷ name) = byte ∷ name

abbrev pub place_words : List ℕ → List ℕ → List ℕ → List ℕ
place_words what name path = what ++ (name_or_minus name ++ (codes " in " ++ shown path))

-- the place of a core that is not stored: the archive has lost it, or it stays in the spool
unfoldable pub unstored_words : Place → List ℕ → List ℕ
unstored_words (Lost archive) name = place_words (codes "lost ") name archive.now
unstored_words (Kept folder) name = place_words (codes "kept ") name folder.now

abbrev pub meant_words : List ℕ → List ℕ
meant_words words = if length words == 0 then [] else codes ": " ++ words

-- the reason why it is not stored, and its meaning
unfoldable pub why_words : List ℕ → List ℕ → List ℕ
why_words reason words = codes ": no " ++ (reason ++ meant_words words)

-- the dump mode of its process, if that is the one of a process that changed its user or group
abbrev pub mode_words : Option ℕ → List ℕ
mode_words None = []
mode_words (Some mode) = if mode == 2 then codes ", mode 2" else []

unfoldable pub number_words : List ℕ → List ℕ → List ℕ
number_words number name = codes "stored " ++ (number ++ (codes " " ++ name))

unfoldable pub archive_words : List ℕ → List ℕ → List ℕ
archive_words details archive = details ++ (codes " in " ++ shown archive)

-- The line about a core that is stored. The text before says that it was cut, and the text after is about other cases.
unfoldable pub stored_words : List ℕ → List ℕ → List ℕ → List ℕ → List ℕ → Option ℕ → List ℕ → List ℕ
stored_words kept number name details archive mode more = kept ++ (number_words number name ++ (archive_words details archive ++ (mode_words mode ++ more)))

-- The line about a core that is not stored. The text after it is about other cases.
unfoldable pub lost_words : Place → List ℕ → List ℕ → List ℕ → Option ℕ → List ℕ → List ℕ
lost_words place name reason words mode more = unstored_words place name ++ (why_words reason words ++ (mode_words mode ++ more))

-- A core that is not stored stays in the spool only if it is there, and its outcome may pass.
abbrev pub IsPlaced : Option Spooling → List ℕ → Fate → Place → Type 0
IsPlaced (Some spooling) archive Stay (Kept folder) = folder.now ≡ spooling.folder.now
IsPlaced (Some spooling) archive Stay (Lost path) = ⊥
IsPlaced (Some spooling) archive Go (Kept folder) = ⊥
IsPlaced (Some spooling) archive Go (Lost path) = path.now ≡ archive
IsPlaced None archive fate (Kept folder) = ⊥
IsPlaced None archive fate (Lost path) = path.now ≡ archive
