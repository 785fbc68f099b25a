use Rattle.archive_files.proofs.GoneLemmas.{asked, noticed}
use Rattle.archive_files.proofs.unlocked_laws.gone_cases_are_noticed.Goals as goal

pub returns-clause-noticed : goal.returns-clause-noticed
returns-clause-noticed g c = noticed g.S.SharedDisk

pub returns-clause-never_at_will : goal.returns-clause-never_at_will
returns-clause-never_at_will g c s what taken taken' lost lost' shape x ys honest holds all asks = asked g.S.SharedDisk s shape x ys honest holds all asks.1
