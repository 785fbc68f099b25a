use Rattle.std.proofs.Common.{List, IsTrue, map, sym, subst}
use Rattle.journal_snapshot.specs.HoldLaws.{on_ok}
use Rattle.journal_layout.specs.Case.{Case, case_of}
use Rattle.journal_layout.specs.Live.{AreLive}
use Rattle.journal_layout.specs.declared.shape.Shape.{Shape}
use Rattle.archive_care.specs.Images.{AreWithin}
use Rattle.archive_care.proofs.PlanLemmas.{live_within, holds_images}
use Rattle.archive_care.proofs.copying.put_images.Goals as goal

pub copy_images-requires-clause-within : goal.copy_images-requires-clause-within
copy_images-requires-clause-within g c =
    let s = c.args.journal.now.standing in
    subst (λ (x : Shape). AreWithin x.data_blocks c.entries.result.now) (sym c.shape.ensures)
    (live_within s.shape.data_blocks s.next c.entries.result.now (subst (λ (l : List Case). AreLive s.shape.data_blocks l s.next) (sym c.entries.ensures) c.requires.live))

pub returns-clause-holds : goal.returns-clause-holds
returns-clause-holds g c honest honest_onto =
    let still : IsTrue (g.N.Disk.is_honest c.begin_copy.new.onto) = subst IsTrue (sym c.begin_copy.ensures.disk.honesty) honest_onto in
    let later : IsTrue (g.N.Disk.is_honest c.copy_images.new.onto) = subst IsTrue (sym c.copy_images.ensures.copies.fills.honesty) still in
    on_ok c.settle.result _ _
    (λ only. holds_images g.N.Disk c.begin_copy.new.onto c.copy_images.new.onto c.settle.new.onto (g.D.Disk.seen c.args.from.now) c.args.journal.now.standing c.shape.result c.args.shape c.data_start.result
    (map case_of c.entries.result.now) c.data_blocks_keep.ensures c.entries.ensures c.shape.ensures c.data_start.ensures (c.in_ok-begin_copy.ensures.fresh honest_onto)
    (c.copy_images.ensures.copies.fills.others still) (c.in_ok-copy_images.ensures.there honest still) (c.settle.ensures.seen later) only)
    (c.settle.ensures.durable later)
