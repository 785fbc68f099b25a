use Rattle.std.proofs.Common.{◌≡◌, ◌-◌}
use Rattle.disk_model.specs.Places.{part}
use Rattle.journal_layout.specs.Checks.{first_set}
use Rattle.journal_records.proofs.padding.first_set.Given as goal

abbrev pub invariant-loop-index : goal.invariant-loop-index
invariant-loop-index l = first_set l.index (part l.rest l.index (l.end - l.index)) ≡ first_set l.place (part l.rest l.place (l.end - l.place))
