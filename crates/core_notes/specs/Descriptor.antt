-- Descriptors of the notes that Linux writes into a core of a RISC-V 64 process: elf_prstatus, elf_prpsinfo, the
-- auxiliary vector and siginfo (core(5); the kernel's elfcore, signal and auxvec headers).
use Rattle.std.specs.Prelude.{ℕ, ◌+◌, ◌*◌, ◌/◌, ◌%◌, ◌==◌, ◌&&◌, ◌||◌, not, nat_lt, if◌then◌else◌, Bool, List, [], ◌∷◌, length, map, slice_index, Option, None, Some, ℤ, pos, negsuc}
use Rattle.std.specs.Int.{cast_signed, w8, w16, w32}
use Rattle.std.specs.List.{range_with_len}
use Rattle.std.specs.Ordering.{int_eq}
use Rattle.elf_view.specs.Field.{field, part, text_before_nul}
use Rattle.core_notes.specs.declared.faults.NoteField.{NoteField}
use Rattle.core_notes.specs.declared.faults.NoteField.TheVariants.{DescSize}
use Rattle.core_notes.specs.declared.auxiliary.AuxvPair.{AuxvPair}

-- signed numbers, as two's complement
abbrev pub i8_field : List ℕ → ℕ → ℤ
i8_field d p = cast_signed w8 (slice_index d p)

abbrev pub i16_field : List ℕ → ℕ → ℤ
i16_field d p = cast_signed w16 (field d p 2)

abbrev pub i32_field : List ℕ → ℕ → ℤ
i32_field d p = cast_signed w32 (field d p 4)

-- NT_PRSTATUS has 376 bytes
abbrev pub status_fault : List ℕ → Option NoteField
status_fault d = if length d == 376 then None else Some DescSize

-- The fields of elf_prstatus at their places in bytes. Between pr_sid and pr_reg are the four times, which nobody reads.
abbrev pub status_signo : List ℕ → ℤ
status_signo d = i32_field d 0

abbrev pub status_code : List ℕ → ℤ
status_code d = i32_field d 4

abbrev pub status_errno : List ℕ → ℤ
status_errno d = i32_field d 8

abbrev pub pr_cursig : List ℕ → ℤ
pr_cursig d = i16_field d 12

abbrev pub pr_sigpend : List ℕ → ℕ
pr_sigpend d = field d 16 8

abbrev pub pr_sighold : List ℕ → ℕ
pr_sighold d = field d 24 8

abbrev pub status_pid : List ℕ → ℤ
status_pid d = i32_field d 32

abbrev pub status_ppid : List ℕ → ℤ
status_ppid d = i32_field d 36

abbrev pub status_pgrp : List ℕ → ℤ
status_pgrp d = i32_field d 40

abbrev pub status_sid : List ℕ → ℤ
status_sid d = i32_field d 44

abbrev pub pr_reg : List ℕ → ℕ → ℕ
pr_reg d i = field d (112 + 8 * i) 8

abbrev pub pr_fpvalid : List ℕ → ℤ
pr_fpvalid d = i32_field d 368

-- NT_PRPSINFO has 136 bytes
abbrev pub psinfo_fault : List ℕ → Option NoteField
psinfo_fault d = if length d == 136 then None else Some DescSize

-- The fields of elf_prpsinfo at their places in bytes. The first three, of one byte each, are the state, its letter and the
-- zombie's mark.
abbrev pub pr_nice : List ℕ → ℤ
pr_nice d = i8_field d 3

abbrev pub pr_flag : List ℕ → ℕ
pr_flag d = field d 8 8

abbrev pub pr_uid : List ℕ → ℕ
pr_uid d = field d 16 4

abbrev pub pr_gid : List ℕ → ℕ
pr_gid d = field d 20 4

abbrev pub process_pid : List ℕ → ℤ
process_pid d = i32_field d 24

abbrev pub process_ppid : List ℕ → ℤ
process_ppid d = i32_field d 28

abbrev pub process_pgrp : List ℕ → ℤ
process_pgrp d = i32_field d 32

abbrev pub process_sid : List ℕ → ℤ
process_sid d = i32_field d 36

abbrev pub pr_fname : List ℕ → List ℕ
pr_fname d = text_before_nul (part d 40 16)

abbrev pub pr_psargs : List ℕ → List ℕ
pr_psargs d = text_before_nul (part d 56 80)

-- NT_AUXV is pairs of a type and a value, 16 bytes each
abbrev pub auxv_fault : List ℕ → Option NoteField
auxv_fault d = if length d % 16 == 0 then None else Some DescSize

abbrev pub pair_at : List ℕ → ℕ → AuxvPair
pair_at d i = record { kind = field d (16 * i) 8; value = field d (16 * i + 8) 8 }

-- the pairs before one of type AT_NULL (0), or all
abbrev pub before_null : List AuxvPair → List AuxvPair
before_null [] = []
before_null (p ∷ ps) = if p.kind == 0 then [] else p ∷ before_null ps

abbrev pub pairs_between : List ℕ → ℕ → ℕ → List AuxvPair
pairs_between d i n = before_null (map (pair_at d) (range_with_len i n))

abbrev pub pairs_of : List ℕ → List AuxvPair
pairs_of d = pairs_between d 0 (length d / 16)

-- NT_SIGINFO has 24 bytes at least
abbrev pub siginfo_fault : List ℕ → Option NoteField
siginfo_fault d = if nat_lt (length d) 24 then Some DescSize else None

-- siginfo: si_signo i32 0, si_errno i32 4, si_code i32 8 (the order of NT_PRSTATUS is another)
abbrev pub si_signo : List ℕ → ℤ
si_signo d = i32_field d 0

abbrev pub si_errno : List ℕ → ℤ
si_errno d = i32_field d 4

abbrev pub si_code : List ℕ → ℤ
si_code d = i32_field d 8

-- Which further fields are shown is this project's own rule: the sender for the codes SI_USER (0), SI_QUEUE (-1) and
-- SI_TKILL (-6); else the address for SIGILL, SIGTRAP, SIGBUS, SIGFPE and SIGSEGV.
abbrev pub has_sender : ℤ → Bool
has_sender code = int_eq code (pos 0) || int_eq code (negsuc 0) || int_eq code (negsuc 5)

abbrev pub is_address_signal : ℤ → Bool
is_address_signal signal =
    int_eq signal (pos 4) || int_eq signal (pos 5) || int_eq signal (pos 7) || int_eq signal (pos 8) || int_eq signal (pos 11)

abbrev pub si_pid : List ℕ → Option ℤ
si_pid d = if has_sender (si_code d) then Some (i32_field d 16) else None

abbrev pub si_uid : List ℕ → Option ℕ
si_uid d = if has_sender (si_code d) then Some (field d 20 4) else None

abbrev pub si_addr : List ℕ → Option ℕ
si_addr d = if not (has_sender (si_code d)) && is_address_signal (si_signo d) then Some (field d 16 8) else None
