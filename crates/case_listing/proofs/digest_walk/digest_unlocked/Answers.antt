use Rattle.std.proofs.Common.{◌∙◌, ap, subst, ℕ, Err}
use Rattle.std.proofs.lemmas.Result.{err_from_is_err_and}
use Rattle.intake.specs.Ranges.{AreWithin}
use Rattle.shared_disk.specs.SteadyLaws.{none_steady}
use Rattle.case_listing.specs.Digests.{LeavesThere, StaysThere}
use Rattle.case_listing.proofs.DigestLemmas.{digested, honest_with, refused_first, refused_last, refused_reading}
use Rattle.case_listing.proofs.digest_walk.digest_unlocked.Goals as goal

pub returns-in_err-image : goal.returns-in_err-image
returns-in_err-image g c =
    let S = g.S.SharedDisk in
    let s = c.args.looked.shared in
    let p = err_from_is_err_and c.from_residual.result c.from_residual.ensures.1 in
    rw (p.1, p.2)
    (refused_first S _ s c.unlocked.result c.unlocked.ensures.under
    (λ honest. honest_with S c.unlocked.result s _ c.unlocked.ensures.under (c.unlocked.ensures.ranges ∙ c.new.ensures.items) honest (none_steady (S.looked s) (S.meanwhile s)))
    (ap S.looked c.unlocked.ensures.under) c.args.seq c.in_err-image.field-0.0 c.in_err-image.ensures)

pub digest_image-requires : goal.digest_image-requires
digest_image-requires g c =
    let S = g.S.SharedDisk in
    let finds = c.in_ok-image.ensures in
    record { within = subst (λ (n : ℕ). AreWithin n c.in_ok-image.image.ranges.items) (finds.1.size ∙ ap S.size c.unlocked.ensures.under) finds.2.0.within }

pub returns-in_err-digest : goal.returns-in_err-digest
returns-in_err-digest g c =
    let p = err_from_is_err_and c.from_residual-in_err-digest.result c.from_residual-in_err-digest.ensures.1 in
    rw (p.1, p.2) (refused_reading g.S.SharedDisk _ c.args.looked.shared c.args.seq c.in_err-digest.field-0.0 c.in_err-digest.ensures.stop)

pub returns-in_err-stays : goal.returns-in_err-stays
returns-in_err-stays g c =
    let S = g.S.SharedDisk in
    let p = err_from_is_err_and c.from_residual-in_err-stays.result c.from_residual-in_err-stays.ensures.1 in
    rw (p.1, p.2)
    (refused_last S _ c.args.looked.shared c.args.seq c.in_err-stays.field-0.0
    (subst (λ (x : _). LeavesThere S _ x c.args.seq (Err c.in_err-stays.field-0.0)) c.into_shared.ensures c.in_err-stays.ensures))

pub returns : goal.returns
returns g c =
    let S = g.S.SharedDisk in
    let s = c.args.looked.shared in
    digested S _ s c.unlocked.result c.unlocked.ensures.under
    (λ honest. honest_with S c.unlocked.result s _ c.unlocked.ensures.under (c.unlocked.ensures.ranges ∙ c.new.ensures.items) honest (none_steady (S.looked s) (S.meanwhile s)))
    (ap S.looked c.unlocked.ensures.under)
    (g.met.S.SharedDisk.whole s) (λ b honest held. g.met.S.SharedDisk.lists s b honest held) c.the_next_number_is_above.ensures c.a_case_is_there_between.ensures
    (ap S.size c.unlocked.ensures.under) c.args.seq c.in_ok-image.image c.in_ok-digest.digest c.in_ok-image.ensures c.in_ok-digest.ensures.read
    (subst (λ (x : _). StaysThere S x c.args.seq) c.into_shared.ensures c.in_ok-stays.ensures)
