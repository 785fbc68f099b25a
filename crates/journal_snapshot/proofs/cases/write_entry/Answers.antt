use Rattle.std.proofs.Common.{ℕ, List, ◌∙◌, [], ap, sym, Ok, Option, Bool}
use Rattle.journal_layout.specs.Case.{case_of}
use Rattle.journal_snapshot.specs.Changing.{label_after}
use Rattle.journal_snapshot.specs.Writing.{written_flag, written_entry}
use Rattle.journal_snapshot.specs.WriteLaws.{writes_nothing, writes_as}
use Rattle.journal_snapshot.proofs.cases.write_entry.Goals as goal

pub returns-in_default-clause-writes : goal.returns-in_default-clause-writes
returns-in_default-clause-writes g c =
    let text : List ℕ = label_after c.args.change.now (case_of c.args.entry.now) in
    writes_as g.D.Disk c.args.disk.now c.args.disk.now c.args.at [] (written_entry c.args.change.now c.args.entry.now) (Ok c.args.at)
    (ap (λ (o : Option Bool). written_flag c.args.entry.now o text) (sym c.in_default.is ∙ c.flag_of.ensures)) (writes_nothing g.D.Disk c.args.disk.now c.args.at (g.met.D.Disk.only_now c.args.disk.now))
