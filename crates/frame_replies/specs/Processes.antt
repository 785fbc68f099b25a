-- The process of a core, as its frames are unwound.
use Rattle.std.specs.Prelude.{ℕ, ◌==◌, if◌then◌else◌, Bool, List, find, map, slice_get, Option, None, Some, Result, Err, codes}
use Rattle.std.specs.Option.{option_and_then, option_map}
use Rattle.address_space.specs.Source.{ExecutableView, is_named}
use Rattle.build_replies.specs.Choosing.{Choice}
use Rattle.core_notes.specs.Descriptor.{pairs_of}
use Rattle.core_notes.specs.Typed.{all_descs, first_desc}
use Rattle.core_notes.specs.declared.auxiliary.AuxvPair.{AuxvPair}
use Rattle.elf_view.specs.ViewWords.{notes_of}
use Rattle.elf_view.specs.declared.faults.Want.TheVariants.{Core}
use Rattle.memory_replies.specs.Memory.{is_attached, memory_of}
use Rattle.memory_replies.specs.Naming.{NamedFile, named_files}
use Rattle.unwind.specs.Code.{CodeFile, ProcessView}

-- AT_ENTRY (9), the address where the program begins (getauxval(3))
abbrev pub is_start : AuxvPair → Bool
is_start pair = pair.kind == 9

-- where the program begins, by pairs of an auxiliary vector: the first that tells it
abbrev pub start_among : List AuxvPair → Option ℕ
start_among pairs = option_map (λ (pair : AuxvPair). pair.value) (find is_start pairs)

-- by the descriptor of an NT_AUXV; without one it is not told
abbrev pub start_by : Option (List ℕ) → Option ℕ
start_by None = None
start_by (Some desc) = start_among (pairs_of desc)

-- where the program begins, by the NT_AUXV (6) of a core
abbrev pub start_of : List ℕ → Option ℕ
start_of b = start_by (first_desc 6 (notes_of Core b))

-- its image, if its headers have no fault
abbrev pub sound_image : ExecutableView → Option (List ℕ)
sound_image x = if is_attached x then Some x.image else None

-- an executable with the debug file of its path
abbrev pub with_code : List ExecutableView → ExecutableView → CodeFile
with_code debugs x = record { file = x; debug = option_and_then sound_image (find (is_named x.path) debugs) }

-- The memory of the process, the executables that are attached to it, which are those that are used, each with its debug file, those
-- that aren't, since they are of another build, and where the program begins.
unfoldable pub process_in : List ℕ → Choice → ProcessView
process_in b choice = record {
  space = memory_of b choice.used;
  executables = map (with_code choice.debugs) (memory_of b choice.used).executables;
  others = choice.others;
  start = start_of b;
}

-- the executables that name its frames, each with its debug file
abbrev pub named_among : Choice → List NamedFile
named_among choice = named_files choice.used choice.debugs

-- the state of a thread, by its number among the NT_PRSTATUS (1) of a core
abbrev pub state_of : List ℕ → ℕ → Option (List ℕ)
state_of b t = slice_get (all_descs 1 (notes_of Core b)) t

-- what is answered of a thread's state, if it is there
abbrev pub of_thread : (List ℕ → Result (List ℕ) (List ℕ)) → Option (List ℕ) → Result (List ℕ) (List ℕ)
of_thread answer None = Err (codes "NoThread")
of_thread answer (Some desc) = answer desc
