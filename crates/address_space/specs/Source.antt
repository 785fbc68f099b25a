-- The content of an address of a process's memory, by its core file: the bytes of PT_LOAD segments, as far as the file has them (System V gABI,
-- "Program Header"; core(5)), and the files that were mapped (core(5), NT_FILE), as far as executables are attached for them.
use Rattle.std.specs.Prelude.{ℕ, zero, suc, ◌+◌, ◌-◌, ◌*◌, ◌==◌, ◌&&◌, nat_lt, nat_le, if◌then◌else◌, Bool, List, [], ◌∷◌, ◌++◌, length, map, filter, slice_index, Option, None, Some, find}
use Rattle.std.specs.Str.{bytes_eq}
use Rattle.elf_view.specs.Header.{SegmentView}
pub use Rattle.elf_view.specs.Header.{is_load}
use Rattle.core_notes.specs.FileList.{FileView}
pub use Rattle.core_notes.specs.FileList.{is_mapping}

-- an executable that is attached for the mapped file of that path: its bytes
pub record ExecutableView : Type 0 where
  pub path : List ℕ
  pub image : List ℕ

-- the program headers and the mapped files, in table order, and the executables, in the order in which they were attached
pub record Space : Type 0 where
  pub segments : List SegmentView
  pub files : List FileView
  pub executables : List ExecutableView

-- one more executable, attached last
abbrev pub with_executable : Space → List ℕ → List ℕ → Space
with_executable space path image = record space { executables = space.executables ++ (record { path = path; image = image }) ∷ [] }

-- the first item that passes, with its number, if the first of the list has number i
abbrev pub first_from : {A : Type 0} → (A → Bool) → ℕ → List A → Option (ℕ × A)
first_from test i [] = None
first_from test i (x ∷ xs) = if test x then Some (i, x) else first_from test (i + 1) xs

-- how many addresses a program header takes: p_memsz, of a PT_LOAD (1)
abbrev pub span : SegmentView → ℕ
span s = if s.kind == 1 then s.memsz else 0

-- p_vaddr <= a < p_vaddr + p_memsz, of a PT_LOAD
abbrev pub is_covering : ℕ → SegmentView → Bool
is_covering a s = nat_le s.vaddr a && nat_lt a (s.vaddr + span s)

-- The segment that decides an address is the first that covers it, in table order.
unfoldable pub decider : Space → ℕ → Option (ℕ × SegmentView)
decider space a = first_from (is_covering a) 0 space.segments

-- The mapped file at an address is that of the first entry of NT_FILE that maps it.
unfoldable pub entry_at : List FileView → ℕ → Option (ℕ × FileView)
entry_at files a = first_from (is_mapping a) 0 files

-- a place in a file
pub record SpotView : Type 0 where
  pub name : List ℕ
  pub offset : ℕ

-- the place of an address in the file that is mapped there
abbrev pub spot_in : ℕ → FileView → SpotView
spot_in a f = record { name = f.name; offset = f.offset + (a - f.start) }

abbrev pub spot_of : ℕ → Option (ℕ × FileView) → Option SpotView
spot_of a None = None
spot_of a (Some e) = Some (spot_in a e.1)

-- the executable for the file of that name: the first that was attached under it
abbrev pub is_named : List ℕ → ExecutableView → Bool
is_named name x = bytes_eq x.path name

unfoldable pub executable_named : Space → List ℕ → Option ExecutableView
executable_named space name = find (is_named name) space.executables

-- The place of an address, with the number of the segment that decides it.
pub data Place : Type 0 where
  -- no segment covers it
  nowhere : Place
  -- its byte is in the file
  dumped : ℕ → SegmentView → Place
  -- the file ends before its byte
  cut_off : ℕ → Place
  -- the segment has no byte for it; the entry of NT_FILE that maps it
  unwritten : ℕ → Option (ℕ × FileView) → Place
  -- so too, and its byte is in the executable that is attached for the file of that entry
  in_file : ℕ → ℕ × FileView → List ℕ → Place

-- an address that is mapped by that entry, if this is the executable for it
abbrev pub filed : ℕ → ℕ → ℕ × FileView → Option ExecutableView → Place
filed a i e None = unwritten i (Some e)
filed a i e (Some x) = if nat_lt (spot_in a e.1).offset (length x.image) then in_file i e x.image else unwritten i (Some e)

-- an address without a byte in the core
abbrev pub undumped : Space → ℕ → ℕ → Option (ℕ × FileView) → Place
undumped space a i None = unwritten i None
undumped space a i (Some e) = filed a i e (executable_named space e.1.name)

-- an address that segment s, of number i, decides: the first p_filesz bytes of a segment are in the file, from p_offset on,
-- if the file has not been cut before
abbrev pub placed : Space → ℕ → Option (ℕ × SegmentView) → Place
placed space a None = nowhere
placed space a (Some d) =
    if nat_le d.1.filesz (a - d.1.vaddr) then undumped space a d.0 (entry_at space.files a)
    else (if nat_le (length d.1.bytes) (a - d.1.vaddr) then cut_off d.0 else dumped d.0 d.1)

unfoldable pub place_at : Space → ℕ → Place
place_at space a = placed space a (decider space a)

-- the content of addresses of one place: the bytes of one or several of them, or why they have no bytes
pub data Content (A : Type 0) : Type 0 where
  -- in the core
  held : A → Content A
  -- in the executable
  from_file : A → Content A
  -- not dumped; the place of the first of them in the mapped file, if there is one
  not_dumped : Option SpotView → Content A
  cut : Content A
  unmapped : Content A

-- if read takes the bytes from a list at a place
abbrev pub content_by : {A : Type 0} → (List ℕ → ℕ → A) → ℕ → Place → Content A
content_by read a nowhere = unmapped
content_by read a (dumped i s) = held (read s.bytes (a - s.vaddr))
content_by read a (cut_off i) = cut
content_by read a (unwritten i e) = not_dumped (spot_of a e)
content_by read a (in_file i e image) = from_file (read image (spot_in a e.1).offset)

-- the source of an address
abbrev pub source_at : Space → ℕ → Content ℕ
source_at space a = content_by slice_index a (place_at space a)

-- the value of an address that has one: its byte in the core or in the executable
abbrev pub value_of : Content ℕ → Option ℕ
value_of (held x) = Some x
value_of (from_file x) = Some x
value_of (not_dumped e) = None
value_of cut = None
value_of unmapped = None

abbrev pub value_at : Space → ℕ → Option ℕ
value_at space a = value_of (source_at space a)

-- the number in the values of w addresses, the least byte first, if each has one
abbrev pub joined : Option ℕ → Option ℕ → Option ℕ
joined None rest = None
joined (Some x) None = None
joined (Some x) (Some n) = Some (x + 256 * n)

unfoldable pub word_at : Space → ℕ → ℕ → Option ℕ
word_at space a zero = Some 0
word_at space a (suc w) = joined (value_at space a) (word_at space (a + 1) w)

-- a mapping: where a PT_LOAD begins, how many addresses it takes, its flags, how many bytes of it the file is to have, and
-- the place of its first address in the mapped file
pub record MappingView : Type 0 where
  pub start : ℕ
  pub memsz : ℕ
  pub flags : ℕ
  pub filesz : ℕ
  pub spot : Option SpotView

abbrev pub mapping_in : Space → SegmentView → MappingView
mapping_in space s = record { start = s.vaddr; memsz = s.memsz; flags = s.flags; filesz = s.filesz; spot = spot_of s.vaddr (entry_at space.files s.vaddr) }

-- the mappings, in table order
unfoldable pub mappings_of : Space → List MappingView
mappings_of space = map (mapping_in space) (filter is_load space.segments)
