use Rattle.std.proofs.Common.{inl, inr, refl}
use Rattle.archive_files.proofs.HoldLemmas.{checks_held}
use Rattle.archive_files.proofs.checks.check_locked.Goals as goal

pub returns-in-Ok : goal.returns-in-Ok
returns-in-Ok g c =
    checks_held c.args.sees_images _ _ _ _ c.take_disk-taken.result c.check_taken-disk.result.0 c.check_taken-disk.result.1 c.new-reply.ensures.taken c.check_taken-disk.ensures (inl refl)

pub returns : goal.returns
returns g c =
    checks_held c.args.sees_images _ _ _ _ c.take_disk-taken.result c.check_taken-disk.result.0 c.check_taken-disk.result.1 c.new-reply.ensures.taken c.check_taken-disk.ensures (inr refl)
