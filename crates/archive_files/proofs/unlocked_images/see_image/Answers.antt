use Rattle.std.proofs.Common.{◌∙◌}
use Rattle.archive_files.proofs.UnlockedImageLemmas.{bytes_are, is_read, lent_all}
use Rattle.archive_files.proofs.unlocked_images.see_image.Goals as goal

pub returns-clause-read : goal.returns-clause-read
returns-clause-read g c =
    let S = g.S.SharedDisk in
    let s = c.args.looked.now.shared in
    let ranges = c.in_ok-ranges.ranges.items in
    let lent = lent_all c.new-lent.result.items c.deref.result.now c.extend_from_slice.new.self.items ranges c.in_ok-extend_from_slice.ensures.items c.new-lent.ensures.items c.deref.ensures.value in
    is_read S g.D.Disk s c.args.archive.now c.args.seq c.in_ok-entry.entry.now ranges c.unlocked-disk.result c.deref-3.result.now c.verdict_of.result
    c.in_ok-entry.ensures c.in_ok-ranges.ensures c.unlocked-disk.ensures.under (c.unlocked-disk.ensures.ranges ∙ lent)
    (λ honest. bytes_are (S.looked c.unlocked-disk.result.shared.now) c.deref-3.result.now c.in_ok-image.image.items c.deref-2.result.now ranges c.deref-3.ensures.value (c.in_ok-image.ensures.bytes honest) c.deref-2.ensures.value)
    c.verdict_of.ensures
