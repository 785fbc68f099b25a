-- The builds that cores want: those that they have for mapped files for which no stored executable is used.
use Rattle.std.specs.Prelude.{◌≡◌, ◌&&◌, ℕ, Bool, false, not, if◌then◌else◌, List, [], ◌∷◌, ◌++◌, ◌||◌, map, Option, None, Some}
use Rattle.std.specs.Borrow.{Bor}
use Rattle.std.specs.BTreeSet.{BTreeSet, contains_by}
use Rattle.std.specs.Cmp.Lexicographic.{slice_cmp}
use Rattle.std.specs.List.{flat_map, list_any}
use Rattle.std.specs.Ordering.{nat_cmp}
use Rattle.std.specs.Str.{bytes_eq}
use Rattle.build_ids.specs.BuildName.{has_name}
use Rattle.build_replies.specs.Builds.{BuildValue, NamedBuild, id_in, wanted_id, wants_line, wants_of}
use Rattle.build_replies.specs.BuildsWords.{with_build}
use Rattle.build_replies.specs.NameWords.{is_one_of}
use Rattle.script_streams.specs.Replies.{ok_reply}
use Rattle.script_words.specs.Hex.{hex_of}
use Rattle.case_info.specs.Gathering.{FileValue, files_with}

-- the builds that are wanted for the mapped files of a core; an empty list without an NT_FILE
abbrev pub wants_with : Option (List BuildValue) → List NamedBuild
wants_with None = []
wants_with (Some values) = wants_of values

-- These behind the others, but for those whose IDs are there.
unfoldable pub with_each : List NamedBuild → List NamedBuild → List NamedBuild
with_each ws [] = ws
with_each ws (more ∷ others) = with_each (with_build ws (Some more)) others

-- ---- The IDs.

-- whether one of these builds has this ID
abbrev pub has_id : List NamedBuild → List ℕ → Bool
has_id ws id = is_one_of (map id_in ws) id

abbrev pub is_id : List ℕ → Option (List ℕ) → Bool
is_id id None = false
is_id id (Some other) = bytes_eq other id

-- whether the core has this ID for the file, an executable can be stored by it, and no executable is used for the file
abbrev pub wants_id : List ℕ → BuildValue → Bool
wants_id id v = is_id id (wanted_id v.chosen v.core)

-- no two of these have one ID
abbrev pub AreOnce : List NamedBuild → Type 0
AreOnce [] = Unit {0}
AreOnce (w ∷ ws) = (has_id ws w.1 ≡ false) × AreOnce ws

-- The IDs that a core wants are exactly those that it has for some file for which no executable is used, each once.
pub record WantsIs (values : List BuildValue) (ws : List NamedBuild) : Type 0 where
  pub exactly : (id : List ℕ) → has_id ws id ≡ list_any (wants_id id) values
  pub once : AreOnce ws

-- The IDs are exactly those of the two, and each is there once if it was before.
pub record AddsExactly (ws more all : List NamedBuild) : Type 0 where
  pub exactly : (id : List ℕ) → has_id all id ≡ (has_id ws id || has_id more id)
  pub once : AreOnce ws → AreOnce all

-- ---- The text.

-- `NAME ID` for each, and `ok`
abbrev pub wants_reply : List NamedBuild → List ℕ
wants_reply ws = flat_map wants_line ws ++ ok_reply

-- `ID`
abbrev pub id_line : NamedBuild → List ℕ
id_line w = hex_of w.1 ++ 10 ∷ []

-- `ID` for each, and `ok`
abbrev pub ids_reply : List NamedBuild → List ℕ
ids_reply ws = flat_map id_line ws ++ ok_reply

-- ---- By the files that are kept.

-- the build that a file wants, if an executable can be stored by it and no executable is used
abbrev pub wanted_if : List ℕ → Bool → Option (List ℕ) → Option NamedBuild
wanted_if name is_used None = None
wanted_if name is_used (Some id) = if has_name id && not is_used then Some (name, id) else None

abbrev pub wanted_of_file : FileValue → Option NamedBuild
wanted_of_file f = wanted_if f.name f.is_used f.told

-- the builds that the files of a core want, after the others
unfoldable pub with_all : List NamedBuild → List FileValue → List NamedBuild
with_all ws [] = ws
with_all ws (f ∷ fs) = with_all (with_build ws (wanted_of_file f)) fs

-- the builds that these cores want, after the others
unfoldable pub with_each_core : List NamedBuild → List (List FileValue) → List NamedBuild
with_each_core ws [] = ws
with_each_core ws (files ∷ others) = with_each_core (with_all ws files) others

-- The builds that the files of a core want, added to others, are those that the core wants, each ID once.
abbrev pub KeepsWants : Type 0
KeepsWants = (ws : List NamedBuild) (values : Option (List BuildValue)) → with_all ws (files_with values) ≡ with_each ws (wants_with values)

-- ---- The code's table of IDs.

-- whether it is one of these
abbrev pub is_in : BTreeSet (Bor (List ℕ)) → List ℕ → Bool
is_in ids id = contains_by (λ k. slice_cmp nat_cmp id k.now) ids

abbrev pub AreIdsOf : BTreeSet (Bor (List ℕ)) → List NamedBuild → Type 0
AreIdsOf ids ws = (id : List ℕ) → is_in ids id ≡ has_id ws id
