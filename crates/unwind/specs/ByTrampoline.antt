-- The code to which a signal handler returns (Linux, arch/riscv: __vdso_rt_sigreturn), and the registers that the signal saved.
use Rattle.std.specs.Prelude.{ℕ, ◌+◌, ◌-◌, ◌*◌, ◌%◌, ◌^◌, ◌==◌, ◌&&◌, ◌||◌, nat_le, if◌then◌else◌, Bool, true, false, map, is_some, Option, None, Some, Result, Ok, Err}
use Rattle.std.specs.List.{range_with_len, list_all}
use Rattle.address_space.specs.Source.{Space}
use Rattle.unwind.specs.Reasons.{checked}
use Rattle.unwind.specs.Registers.{Registers, sp, known}
pub use Rattle.unwind.specs.Values.{word}
use Rattle.unwind.specs.declared.faults.Stop.{Stop}
use Rattle.unwind.specs.declared.faults.Stop.TheVariants.{Undefined, Unreadable}
use Rattle.unwind.specs.declared.frame.Frame.{Frame}

-- `li a7, 139` (rt_sigreturn) and `ecall`
abbrev pub is_instructions : Option ℕ → Bool
is_instructions None = false
is_instructions (Some w) = w == 0x0000007308b00893

-- They are at the pc, or the pc is at the second of them.
unfoldable pub is_trampoline : Space → ℕ → Bool
is_trampoline space pc = is_instructions (word space pc) || (nat_le 4 pc && is_instructions (word space (pc - 4)))

-- The signal's frame begins at sp: a siginfo of 128 bytes, and a ucontext, whose registers begin after 176. Word 0 is pc, word
-- i is x_i.
unfoldable pub saved_word : Space → ℕ → ℕ → Option ℕ
saved_word space s i = word space ((s + (304 + 8 * i)) % 2 ^ 64)

-- a register that was saved; x0 is 0
abbrev pub saved_register : Space → ℕ → ℕ → Option ℕ
saved_register space s c = if c == 0 then Some 0 else saved_word space s c

unfoldable pub saved_registers : Space → ℕ → Registers
saved_registers space s = map (saved_register space s) (range_with_len 0 32)

-- the frame that the signal came to
abbrev pub interrupted : ℕ → Registers → Frame
interrupted pc rs = record { pc = pc; registers = rs; exact = true; callee = None }

-- all words are to be there
abbrev pub if_whole : ℕ → Registers → Result Frame Stop
if_whole pc rs = if list_all is_some rs then Ok (interrupted pc rs) else Err Unreadable

unfoldable pub by_trampoline : Space → Frame → Result Frame Stop
by_trampoline space f =
    checked (known f.registers sp) Undefined (λ s.
    checked (saved_word space s 0) Unreadable (λ pc.
    if_whole pc (saved_registers space s)))
