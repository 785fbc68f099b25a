use Rattle.std.proofs.Common.{◌∙◌, ap, refl, List}
use Rattle.intake.specs.Ranges.{bytes_in}
use Rattle.intake.specs.declared.ranges.ByteRange.{ByteRange}
use Rattle.sha2.specs.Sha256.{sha256}
use Rattle.case_listing.proofs.DigestLemmas.{honest_with, lent_all}
use Rattle.case_listing.proofs.digest_walk.digest_image.Goals as goal

pub returns-in-Ok-digest_ranges-clause-read : goal.returns-in-Ok-digest_ranges-clause-read
returns-in-Ok-digest_ranges-clause-read g c =
    let S = g.S.SharedDisk in
    let s = c.args.looked.now.shared in
    let ranges = c.args.image.now.ranges.items in
    let lent = lent_all c.new-lent.result.items c.deref.result.now c.extend_from_slice.new.self.items ranges c.in-Ok-extend_from_slice.ensures.items c.new-lent.ensures.items c.deref.ensures.value in record {
      bytes = λ honest steady.
          c.in-Ok-digest_ranges.ensures (honest_with S c.unlocked-disk.result s ranges c.unlocked-disk.ensures.under (c.unlocked-disk.ensures.ranges ∙ lent) honest steady)
          ∙ ap (λ (rs : List ByteRange). sha256 (bytes_in (S.looked c.unlocked-disk.result.shared.now) rs)) c.deref-2.ensures.value
          ∙ ap (λ (x : _). sha256 (bytes_in (S.looked x) ranges)) c.unlocked-disk.ensures.under;
      count = refl;
    }
