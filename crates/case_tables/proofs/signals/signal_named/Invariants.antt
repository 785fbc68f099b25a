use Rattle.std.proofs.Common.{◌≡◌, ◌<◌, ℕ, Some}
use Rattle.thread_regs.specs.SignalNames.{numbered_name}
use Rattle.case_tables.proofs.signals.signal_named.Given as goal

-- no signal before it has the name
abbrev pub invariant-loop-signal : goal.invariant-loop-signal
invariant-loop-signal l = (k : ℕ) → k < l.signal → numbered_name k ≡ Some l.name → ⊥
