use Rattle.std.proofs.Common.{◌≡◌, [], ℕ, List, length, sym, ap, ◌∙◌, Ok}
use Rattle.std.proofs.lemmas.Bool.{eqb-true}
use Rattle.std.proofs.lemmas.List.{nil_from_length}
use Rattle.journal_snapshot.specs.Writing.{written_label}
use Rattle.journal_snapshot.specs.WriteLaws.{writes_nothing, writes_as}
use Rattle.journal_snapshot.proofs.cases.write_label.Goals as goal

pub returns-then-is_empty-clause-writes : goal.returns-then-is_empty-clause-writes
returns-then-is_empty-clause-writes g c =
    let text = c.args.label.now.items in
    let none : text ≡ [] = nil_from_length text (eqb-true (length text) 0 (sym c.is_empty.ensures ∙ c.if-is_empty.true)) in
    writes_as g.D.Disk c.args.disk.now c.args.disk.now c.args.at [] (written_label c.args.seq text) (Ok c.args.at)
    (ap (λ (l : List ℕ). written_label c.args.seq l) (sym none)) (writes_nothing g.D.Disk c.args.disk.now c.args.at (g.met.D.Disk.only_now c.args.disk.now))
