-- A call that led to no code, or to a stub of the procedure linkage table (RISC-V ELF psABI, "Program Linkage Table"), which
-- changes t0 to t3 alone. Nothing but the call was made.
use Rattle.std.specs.Prelude.{ℕ, ◌+◌, ◌%◌, ◌==◌, ◌&&◌, not, nat_lt, nat_le, is_none, if◌then◌else◌, Bool, false, codes, Option, None, Some}
use Rattle.std.specs.Option.{option_map, option_map_or}
use Rattle.elf_view.specs.Header.{SegmentView}
use Rattle.elf_view.specs.SectionNames.{named_section_of}
use Rattle.elf_view.specs.SectionTable.{SectionView}
use Rattle.address_space.specs.Source.{Space, decider, entry_at, spot_of}
use Rattle.unwind.specs.Code.{CodeView}
use Rattle.unwind.specs.Registers.{ra, sp, known, without}
use Rattle.unwind.specs.declared.frame.Callee.{Callee}
use Rattle.unwind.specs.declared.frame.Frame.{Frame}

-- whether a return address may be that of the call: not 0, nor the pc itself
abbrev pub is_return : ℕ → ℕ → Bool
is_return pc a = not (a == 0) && not (a == pc)

abbrev pub if_return : ℕ → Option ℕ → Option ℕ
if_return pc None = None
if_return pc (Some a) = if is_return pc a then Some a else None

-- the address that a call left in ra, if execution was at the pc
unfoldable pub return_of : Frame → Option ℕ
return_of f = if f.exact then if_return f.pc (known f.registers ra) else None

abbrev pub callee_at : ℕ → ℕ → Callee
callee_at pc s = record { cfa = s; pc = pc }

abbrev pub stack_pointer : Frame → Option ℕ
stack_pointer f = known f.registers sp

-- the frame that made the call: it has the same registers, but ra is not known, since the call wrote it
abbrev pub calling : Frame → ℕ → Frame
calling f a = record {
  pc = a;
  registers = without f.registers ra;
  exact = false;
  callee = option_map (callee_at f.pc) (stack_pointer f);
}

abbrev pub caller_of : Frame → Option Frame
caller_of f = option_map (calling f) (return_of f)

-- PF_X (1)
abbrev pub lacks_code : ℕ → Bool
lacks_code flags = flags % 2 == 0

abbrev pub is_unmapped : Space → ℕ → Bool
is_unmapped space a = is_none (spot_of a (entry_at space.files a))

-- the flags of the segment that decides an address
abbrev pub flags_at : Space → ℕ → Option ℕ
flags_at space a = option_map (λ (d : ℕ × SegmentView). d.1.flags) (decider space a)

-- No code is at an address: the segment that decides it can't be executed, or no segment does, and no file is mapped there.
abbrev pub is_without_code : Space → ℕ → Option ℕ → Bool
is_without_code space a None = is_unmapped space a
is_without_code space a (Some flags) = lacks_code flags

unfoldable pub is_no_code : Space → ℕ → Bool
is_no_code space a = is_without_code space a (flags_at space a)

unfoldable pub by_call : Space → Frame → Option Frame
by_call space f = if is_no_code space f.pc then caller_of f else None

-- within a section's addresses
abbrev pub is_within : ℕ → SectionView → Bool
is_within v s = nat_le s.addr v && nat_lt v (s.addr + s.size)

-- within the procedure linkage table
unfoldable pub is_stub : CodeView → Bool
is_stub code = option_map_or (is_within code.address) (named_section_of code.image (codes ".plt")) false

unfoldable pub by_stub : CodeView → Frame → Option Frame
by_stub code f = if is_stub code then caller_of f else None
