-- The facts about addresses in the notes (core(5)) and the program headers (System V gABI) of a core.
use Rattle.std.specs.Prelude.{ℕ, ◌==◌, ◌&&◌, Bool, false, List, find, is_some, Option, None, Some}
use Rattle.std.specs.Option.{option_and_then, option_map}
use Rattle.core_notes.specs.Descriptor.{pairs_of}
use Rattle.core_notes.specs.FileList.{FileView, is_mapping}
use Rattle.core_notes.specs.Typed.{first_desc}
use Rattle.core_notes.specs.declared.auxiliary.AuxvPair.{AuxvPair}
use Rattle.crash_signatures.specs.Frames.{FileSaid}
use Rattle.elf_view.specs.Header.{SegmentView, covers, is_load, segments_of}
use Rattle.elf_view.specs.ViewWords.{notes_of}
use Rattle.elf_view.specs.declared.faults.Want.TheVariants.{Core}
use Rattle.memory_replies.specs.Memory.{mapped_files}

-- the first value of a kind among pairs of an auxiliary vector (getauxval(3))
abbrev pub value_among : ℕ → List AuxvPair → Option ℕ
value_among kind pairs = option_map (λ (pair : AuxvPair). pair.value) (find (λ (pair : AuxvPair). pair.kind == kind) pairs)

abbrev pub value_by : ℕ → Option (List ℕ) → Option ℕ
value_by kind None = None
value_by kind (Some desc) = value_among kind (pairs_of desc)

-- by the NT_AUXV (6) of a core
abbrev pub auxiliary_value : ℕ → List ℕ → Option ℕ
auxiliary_value kind b = value_by kind (first_desc 6 (notes_of Core b))

-- a mapped file, as a frame's word has it
abbrev pub mapped_said : FileView → FileSaid
mapped_said f = record { path = f.name; start = f.start; offset = f.offset }

-- the first entry of NT_FILE that has an address
abbrev pub file_at : List ℕ → Option ℕ → Option FileSaid
file_at b None = None
file_at b (Some a) = option_map mapped_said (find (is_mapping a) (mapped_files b))

-- the core has an NT_FILE (0x46494c45)
abbrev pub has_files : List ℕ → Bool
has_files b = is_some (first_desc 0x46494c45 (notes_of Core b))

-- a PT_LOAD that begins at an address
abbrev pub is_load_at : ℕ → SegmentView → Bool
is_load_at start s = is_load s && s.vaddr == start

-- the PT_LOAD that begins at AT_SYSINFO_EHDR (33): the vdso (vdso(7))
abbrev pub vdso_of : List ℕ → Option SegmentView
vdso_of b = option_and_then (λ start. find (is_load_at start) (segments_of b)) (auxiliary_value 33 b)

abbrev pub is_in_vdso : Option SegmentView → Option ℕ → Bool
is_in_vdso (Some s) (Some a) = covers a s
is_in_vdso _ _ = false
