-- The meaning of the code's registers.
use Rattle.std.specs.Prelude.{ℕ}
use Rattle.thread_regs.specs.declared.registers.Reg.{Reg}

abbrev pub reg_number : Reg → ℕ
reg_number r = r.number
