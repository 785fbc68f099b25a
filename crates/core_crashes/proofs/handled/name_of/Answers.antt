use Rattle.std.proofs.Common.{◌≡◌, ◌<◌, ℕ, zero, suc, None, sym, arith}
use Rattle.std.proofs.lemmas.Option.{slice_get_past}
use Rattle.thread_regs.specs.SignalNames.{numbered_name, signal_names}
use Rattle.core_crashes.proofs.handled.name_of.Goals as goal

-- a number past the last name has none
unnamed : (n : ℕ) → 31 < n → None ≡ numbered_name n
unnamed zero above = absurd (omega (arith, above))
unnamed (suc n) above = sym (slice_get_past signal_names n (omega (arith, above)))

pub returns-then-signal-gt-LAST_NAMED : goal.returns-then-signal-gt-LAST_NAMED
returns-then-signal-gt-LAST_NAMED c = unnamed c.args.signal c.if-signal-gt-LAST_NAMED.true
