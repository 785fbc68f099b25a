use Rattle.std.proofs.Common.{ap}
use Rattle.archive_files.proofs.ExactLemmas.{exact}
use Rattle.archive_files.proofs.unlocked_laws.checks_are_exact.Goals as goal

pub returns : goal.returns
returns g c s taken taken' lost lost' shape x ys honest holds checks = exact g.S.SharedDisk s shape x ys honest holds _ (λ d is. ap g.S.SharedDisk.looked is) taken taken' lost lost' checks
