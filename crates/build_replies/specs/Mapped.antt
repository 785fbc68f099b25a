-- The mapped files of a core of which not all bytes are at hand, and the build IDs that it gives for them.
use Rattle.std.specs.Prelude.{◌≡◌, ℕ, List, [], map, Option, None, Some, Vec}
use Rattle.std.specs.Global.{Global}
use Rattle.std.specs.Option.{option_map}
use Rattle.elf_view.specs.Field.{part}
use Rattle.elf_view.specs.ViewWords.{notes_of}
use Rattle.elf_view.specs.declared.faults.Want.TheVariants.{Core}
use Rattle.core_notes.specs.FileList.{FileView, files_of}
use Rattle.core_notes.specs.Typed.{first_desc}
use Rattle.address_space.specs.SpaceWords.{attached_view}
use Rattle.address_space.specs.Whole.{IsFrontOf, space_in}
use Rattle.build_ids.specs.BuildId.{build_id_of}
use Rattle.memory_replies.specs.Memory.{memory_of}
use Rattle.build_replies.specs.Builds.{BuildValue, NamedId, fronts_of, id_named, name_of, once, told_as}
use Rattle.build_replies.specs.ChoosingWords.{chosen_view}
use Rattle.build_replies.specs.PlacesWords.{fronts_in}
use Rattle.build_replies.specs.TableWords.{path_of, table_rows}
use Rattle.build_replies.specs.declared.answers.BuildAnswer.{BuildAnswer}
use Rattle.build_replies.specs.declared.ids.FrontId.{FrontId}
use Rattle.build_replies.specs.declared.mapped.MappedFiles.{MappedFiles}
use Rattle.build_replies.specs.declared.places.FrontPlace.{FrontPlace}

-- the names, each once
abbrev pub names_of : MappedFiles → List (List ℕ)
names_of m = map path_of (table_rows m.names)

-- They are these mapped files of a core, which has the first bytes of an image of that size.
pub record HasFiles (front : List ℕ) (count : ℕ) (files : List FileView) (m : MappedFiles) : Type 0 where
  pub names : names_of m ≡ once (map name_of files)
  pub fronts : (image : List ℕ) → IsFrontOf front count image → fronts_in image m.fronts ≡ fronts_of (space_in image (memory_of front [])) files
  pub size : m.fronts.size ≡ count

-- They are those of the core; or that has no NT_FILE (0x46494c45).
abbrev pub IsFoundOf : List ℕ → ℕ → Option MappedFiles → Type 0
IsFoundOf front size None = first_desc 0x46494c45 (notes_of Core front) ≡ None
IsFoundOf front size (Some m) = (desc : List ℕ) × (first_desc 0x46494c45 (notes_of Core front) ≡ Some desc) × HasFiles front size (files_of desc) m

-- the bytes of an image at this place are the front of that name that counts
abbrev pub IsIdPlace : MappedFiles → FrontPlace → Type 0
IsIdPlace m p = (image : List ℕ) → build_id_of (part image p.start p.count) ≡ id_named (fronts_in image m.fronts) p.path.now

-- a name, and the build ID of its front
abbrev pub id_view : FrontId → NamedId
id_view f = (f.name.now, option_map (λ (v : Vec ℕ Global). v.items) f.id)

-- those of a core, if it has an NT_FILE
abbrev pub told_view : Option (Vec FrontId Global) → Option (List NamedId)
told_view o = option_map (λ (v : Vec FrontId Global). map id_view v.items) o

abbrev pub build_view : BuildAnswer → BuildValue
build_view r = record { name = r.front.name.now; core = option_map (λ (v : Vec ℕ Global). v.items) r.front.id; chosen = chosen_view r.chosen; debug = option_map attached_view r.debug }

-- those of a core, if it has an NT_FILE
abbrev pub answers_view : Option (Vec BuildAnswer Global) → Option (List BuildValue)
answers_view rows = option_map (λ (v : Vec BuildAnswer Global). map build_view v.items) rows

-- the IDs of these names, if the core has that image
abbrev pub AreIdsFor : List ℕ → MappedFiles → List (List ℕ) → List FrontId → Type 0
AreIdsFor image m names ids = map id_view ids ≡ map (told_as (fronts_in image m.fronts)) names

-- of all
abbrev pub AreIdsOf : List ℕ → MappedFiles → List FrontId → Type 0
AreIdsOf image m ids = AreIdsFor image m (names_of m) ids
