use Rattle.std.proofs.Common.{◌≡◌, ◌∙◌, List, IsTrue, Some, map, ap, sym, subst}
use Rattle.journal_snapshot.specs.HoldLaws.{on_ok}
use Rattle.journal_layout.specs.Case.{case_of}
use Rattle.journal_layout.specs.Layout.{half_length}
use Rattle.journal_layout.specs.Standing.{fresh}
use Rattle.journal_layout.specs.declared.entry.Entry.{Entry}
use Rattle.journal_layout.specs.declared.shape.Half.TheVariants.{A}
use Rattle.journal_snapshot.specs.Measuring.{IsMeasure}
use Rattle.journal_snapshot.specs.declared.change.Change.TheVariants.{Nothing}
use Rattle.archive_care.specs.Copied.{copy_version}
use Rattle.archive_care.specs.Placing.{placed}
use Rattle.archive_care.specs.Planning.{copied_cases}
use Rattle.archive_care.proofs.PlanLemmas.{holds_copy, holds_fresh, written_as}
use Rattle.archive_care.proofs.copying.put_copy.Goals as goal

pub returns-clause-holds : goal.returns-clause-holds
returns-clause-holds g c honest honest_onto =
    let s = c.args.journal.now.standing in
    let shape = c.args.wanted.shape in
    let version = copy_version c.args.wanted.keeps_labels s.version in
    let t = c.target_of-target in
    let es = c.deref.result.now in
    let still : IsTrue (g.N.Disk.is_honest c.put_images.new.onto) = subst IsTrue (sym c.put_images.ensures.disk.honesty) honest_onto in
    let images = c.in_ok-put_images.ensures.holds honest honest_onto in
    let same : map case_of es ≡ placed 0 s.cases = ap (map case_of) c.deref.ensures.value ∙ c.requires.plan.2 in
    let measure : IsMeasure (half_length shape) Nothing es (Some c.args.plan.now.measure) =
    subst (λ (l : List Entry). IsMeasure (half_length shape) Nothing l (Some c.args.plan.now.measure)) (sym c.deref.ensures.value) c.requires.plan.3 in
    let is =
    written_as c.args.wanted.keeps_labels s shape es t.result c.args.plan.now.measure c.requires.live c.requires.labels c.requires.plan.1 same measure
    t.ensures.start t.ensures.version t.ensures.known t.ensures.generation t.ensures.next in
    on_ok c.write_cases.result _ _
    (λ holds. holds_copy g.N.Disk c.put_images.new.onto c.write_cases.new.onto (g.D.Disk.seen c.args.from.now) s shape version t.result.start c.half_length.result still images c.requires.plan.1
    t.ensures.start c.half_length.ensures c.write_cases.ensures.fills holds)
    (c.write_cases.ensures.taken (fresh shape A 1 1) (copied_cases version s) is still (holds_fresh g.N.Disk c.put_images.new.onto (g.D.Disk.seen c.args.from.now) s shape images))
