use Rattle.case_listing.proofs.DigestLemmas.{one_gone, one_there}
use Rattle.case_listing.proofs.digest_walk.stays.Goals as goal

pub returns-in-Ok : goal.returns-in-Ok
returns-in-Ok g c = one_there g.S.SharedDisk c.args.shared c.args.seq c.in-Ok.ensures
