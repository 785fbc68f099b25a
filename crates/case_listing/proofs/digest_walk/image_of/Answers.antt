use Rattle.std.proofs.lemmas.Result.{err_from_is_err_and}
use Rattle.case_listing.proofs.DigestLemmas.{has_image, no_ranges}
use Rattle.case_listing.proofs.digest_walk.image_of.Goals as goal

pub returns-in_err-entry : goal.returns-in_err-entry
returns-in_err-entry g c =
    let p = err_from_is_err_and c.from_residual.result c.from_residual.ensures.1 in
    rw (p.1, p.2) (no_ranges g.D.Disk c.args.archive.now c.args.seq c.in_err-entry.field-0.0 c.in_err-entry.ensures)

pub returns : goal.returns
returns g c = (c.in_ok-ranges.ensures, has_image g.D.Disk c.args.archive.now c.args.seq c.in_ok-entry.entry.now c.in_ok-ranges.ranges.items c.in_ok-entry.ensures c.in_ok-ranges.ensures)
