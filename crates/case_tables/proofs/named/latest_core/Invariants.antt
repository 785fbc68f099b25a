use Rattle.std.proofs.Common.{◌≡◌, None, fold, map, option_map, take}
use Rattle.journal_layout.specs.Case.{case_of}
use Rattle.case_tables.specs.Named.{later}
use Rattle.case_tables.proofs.named.latest_core.Given as goal

abbrev pub invariant-loop-case : goal.invariant-loop-case
invariant-loop-case l = option_map (λ e. case_of e.now) l.latest ≡ fold (later l.until) None (map case_of (take l.case-index l.cases))
