use Rattle.std.proofs.Common.{◌≡◌, ◌<◌, ℕ, zero, suc, sym, arith, None}
use Rattle.std.proofs.lemmas.Option.{slice_get_past}
use Rattle.thread_regs.specs.SignalNames.{numbered_name, signal_names}
use Rattle.case_tables.proofs.signals.name_of.Goals as goal

past : (n : ℕ) → 31 < n → None ≡ numbered_name n
past zero lt = absurd (omega (arith, lt))
past (suc n) lt = sym (slice_get_past signal_names n (omega (arith, lt)))

pub returns-then-signal-gt-LAST_NAMED : goal.returns-then-signal-gt-LAST_NAMED
returns-then-signal-gt-LAST_NAMED c = past c.args.signal c.if-signal-gt-LAST_NAMED.true
