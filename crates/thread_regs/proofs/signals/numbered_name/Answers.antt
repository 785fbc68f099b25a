use Rattle.std.proofs.Common.{◌<◌, sym, ap, arith}
use Rattle.thread_regs.specs.SignalNames.{numbered_name}
use Rattle.thread_regs.proofs.NameTables.{named_signal, no_signal}
use Rattle.thread_regs.proofs.signals.numbered_name.Goals as goal
use Rattle.thread_regs.proofs.signals.numbered_name.Goals.{then-number-eq0-via-then-number-eq0, then-number-eq0-via-else-number-eq0+then-number-gt31}

pub returns-then-number-eq0 : goal.returns-then-number-eq0
returns-then-number-eq0 c =
    elim c.then-number-eq0.branch [
      | then-number-eq0-via-then-number-eq0 w ↦ ap numbered_name (sym w.if-number-eq0.true)
      | then-number-eq0-via-else-number-eq0+then-number-gt31 w ↦ no_signal c.args.number w.if-number-gt31.true
    ]

pub returns : goal.returns
returns c =
    let some : 0 < c.args.number = omega arith in named_signal c.args.number _ some c.name_at.ensures
