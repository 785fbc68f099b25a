-- The build IDs of a core's mapped files (core(5), NT_FILE), next to those of the executables that are stored for them.
use Rattle.std.specs.Prelude.{ℕ, ◌-◌, ◌==◌, ◌&&◌, not, if◌then◌else◌, Bool, List, [], ◌∷◌, ◌++◌, filter, find, is_none, map, Option, None, Some, Result, Ok, Err, codes, decimal}
use Rattle.std.specs.List.{filter_map, flat_map}
use Rattle.std.specs.Option.{option_and_then, option_map}
use Rattle.std.specs.Str.{bytes_eq}
use Rattle.script_words.specs.Hex.{hex_of}
use Rattle.script_words.specs.Printing.{shown}
use Rattle.elf_view.specs.ViewWords.{notes_of}
use Rattle.elf_view.specs.declared.faults.Want.TheVariants.{Core}
use Rattle.core_notes.specs.FileList.{FileView, files_of}
use Rattle.core_notes.specs.Typed.{first_desc}
use Rattle.address_space.specs.Source.{Space, ExecutableView, Content, held, is_named}
use Rattle.address_space.specs.Pieces.{PieceView, pieces_of}
use Rattle.build_ids.specs.BuildId.{build_id_of}
use Rattle.memory_replies.specs.Memory.{memory_of}
use Rattle.build_ids.specs.BuildName.{has_name}
use Rattle.build_replies.specs.ByBuild.{Chosen, chosen, chosen_id, debug_of, how_word, used_executable}

-- each of the names once, at its first place
unfoldable pub once : List (List ℕ) → List (List ℕ)
once [] = []
once (name ∷ names) = name ∷ filter (λ other. not (bytes_eq name other)) (once names)

abbrev pub name_of : FileView → List ℕ
name_of f = f.name

-- a mapped file from its first byte on
abbrev pub is_front : FileView → Bool
is_front f = f.offset == 0

-- the bytes that the core has of the first of these pieces
abbrev pub bytes_of : Content (List ℕ) → List ℕ
bytes_of (held bytes) = bytes
bytes_of _ = []

abbrev pub first_bytes : List PieceView → List ℕ
first_bytes [] = []
first_bytes (p ∷ ps) = bytes_of p.content

-- the front of a file in the core: the bytes of the first piece of the addresses where the file is mapped
unfoldable pub front_of : Space → FileView → ExecutableView
front_of space f = record { path = f.name; image = first_bytes (pieces_of space f.start (f.past - f.start)) }

-- those of the mapped files that have one, in order. Of a name the first counts.
abbrev pub fronts_of : Space → List FileView → List ExecutableView
fronts_of space files = map (front_of space) (filter is_front files)

-- the build ID of the first of the executables, or fronts, of that name
abbrev pub id_named : List ExecutableView → List ℕ → Option (List ℕ)
id_named xs name = option_and_then (λ (x : ExecutableView). build_id_of x.image) (find (is_named name) xs)

-- an ID in hexadecimal digits, or `-` if there is no ID
abbrev pub id_word : Option (List ℕ) → List ℕ
id_word None = codes "-"
id_word (Some id) = hex_of id

-- the result of comparing the two IDs
abbrev pub verdict : Option (List ℕ) → Option (List ℕ) → List ℕ
verdict (Some core) (Some stored) = if bytes_eq core stored then codes "same" else codes "differs"
verdict (Some core) None = codes "unknown"
verdict None stored = codes "unknown"

-- `CORE STORED VERDICT`
abbrev pub ids_words : Option (List ℕ) → Option (List ℕ) → List ℕ
ids_words core stored = id_word core ++ (32 ∷ [] ++ (id_word stored ++ (32 ∷ [] ++ verdict core stored)))

-- a mapped file, by its name, with the build ID that the core gives for it: that of its front
abbrev pub NamedId : Type 0
NamedId = List ℕ × Option (List ℕ)

abbrev pub told_as : List ExecutableView → List ℕ → NamedId
told_as fronts name = (name, id_named fronts name)

-- one for each name
abbrev pub told_in : Space → List FileView → List NamedId
told_in space files = map (told_as (fronts_of space files)) (once (map name_of files))

-- those of a core, by the first NT_FILE (0x46494c45); none, if it has no such note. No executable is attached to the memory in which the
-- fronts are.
unfoldable pub told_of : List ℕ → Option (List NamedId)
told_of b = option_map (λ desc. told_in (memory_of b []) (files_of desc)) (first_desc 0x46494c45 (notes_of Core b))

-- none, if it has no such note
abbrev pub told_or_none : Option (List NamedId) → List NamedId
told_or_none None = []
told_or_none (Some told) = told

-- a mapped file, by its name, with the build ID of its front, the stored
-- executable that is chosen for it, and the debug file of the one that is used
pub record BuildValue : Type 0 where
  pub name : List ℕ
  pub core : Option (List ℕ)
  pub chosen : Chosen
  pub debug : Option ExecutableView

abbrev pub build_value : List ExecutableView → NamedId → BuildValue
build_value stored t = record { name = t.0; core = t.1; chosen = chosen stored t.1 t.0; debug = debug_of stored (chosen stored t.1 t.0) }

-- one for each
abbrev pub values_of : List ExecutableView → List NamedId → List BuildValue
values_of stored told = map (build_value stored) told

-- those of a core
abbrev pub builds_of : List ℕ → List ExecutableView → Option (List BuildValue)
builds_of b stored = option_map (values_of stored) (told_of b)

-- `NAME CORE STORED VERDICT`
unfoldable pub build_line : BuildValue → List ℕ
build_line v = shown v.name ++ (32 ∷ [] ++ (ids_words v.core (chosen_id v.chosen) ++ 10 ∷ []))

-- a case, by its number and its name
abbrev pub NumberedName : Type 0
NumberedName = ℕ × List ℕ

abbrev pub is_of_name : List ℕ → NumberedName → Bool
is_of_name name c = bytes_eq c.1 name

abbrev pub number_in : NumberedName → ℕ
number_in c = c.0

-- the number of the case of that name
abbrev pub number_named : List NumberedName → List ℕ → Option ℕ
number_named cases name = option_map number_in (find (is_of_name name) cases)

-- that of the case as which a file is stored
abbrev pub case_of_file : List NumberedName → Option ExecutableView → Option ℕ
case_of_file cases x = option_and_then (λ (y : ExecutableView). number_named cases y.path) x

-- that of the case whose executable is used
abbrev pub case_used : List NumberedName → Chosen → Option ℕ
case_used cases k = case_of_file cases (used_executable k)

abbrev pub number_word : Option ℕ → List ℕ
number_word None = codes "-"
number_word (Some n) = decimal n

-- `NAME CASE HOW DEBUG`
unfoldable pub used_line : List NumberedName → BuildValue → List ℕ
used_line cases v =
    shown v.name ++ (32 ∷ [] ++ (number_word (case_used cases v.chosen) ++ (32 ∷ [] ++ (how_word v.chosen
    ++ (32 ∷ [] ++ (number_word (case_of_file cases v.debug) ++ 10 ∷ []))))))

-- a build that is wanted, by the name of a mapped file of it and by its ID
abbrev pub NamedBuild : Type 0
NamedBuild = List ℕ × List ℕ

abbrev pub id_in : NamedBuild → List ℕ
id_in w = w.1

-- the build that the core names for a file, if an executable can be stored by it, and none is used for the file
abbrev pub wanted_id : Chosen → Option (List ℕ) → Option (List ℕ)
wanted_id k None = None
wanted_id k (Some id) = if has_name id && is_none (used_executable k) then Some id else None

abbrev pub wanted_of : BuildValue → Option NamedBuild
wanted_of v = option_map (λ id. (v.name, id)) (wanted_id v.chosen v.core)

-- each of the builds once, with the first file that wants it
unfoldable pub each_build : List NamedBuild → List NamedBuild
each_build [] = []
each_build (w ∷ ws) = w ∷ filter (λ other. not (bytes_eq w.1 other.1)) (each_build ws)

abbrev pub wants_of : List BuildValue → List NamedBuild
wants_of values = each_build (filter_map wanted_of values)

-- `NAME ID`
unfoldable pub wants_line : NamedBuild → List ℕ
wants_line w = shown w.0 ++ (32 ∷ [] ++ (hex_of w.1 ++ 10 ∷ []))

-- a line's question about a core's mapped files: their build IDs; which of these cases are used; the builds that are wanted
pub data BuildsAsking : Type 0 where
  compares : BuildsAsking
  uses : List NumberedName → BuildsAsking
  wants : BuildsAsking

-- a line for each
abbrev pub lines_for : BuildsAsking → List BuildValue → List ℕ
lines_for compares values = flat_map build_line values
lines_for (uses cases) values = flat_map (used_line cases) values
lines_for wants values = flat_map wants_line (wants_of values)

-- of those of a core, if it has an NT_FILE
abbrev pub printed : BuildsAsking → Option (List BuildValue) → Result (List ℕ) (List ℕ)
printed asking None = Err (codes "Missing")
printed asking (Some values) = Ok (lines_for asking values)

-- `builds`, `used`, `wants`
unfoldable pub builds_answer : BuildsAsking → List ℕ → List ExecutableView → Result (List ℕ) (List ℕ)
builds_answer asking b stored = printed asking (builds_of b stored)
