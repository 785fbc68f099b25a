use Rattle.disk_model.proofs.gathering.GatheringDisk.sync.Goals as goal

-- nothing was written since the last sync
pub returns-in-Synced-clause-durable : goal.returns-in-Synced-clause-durable
returns-in-Synced-clause-durable g c = c.args.self.now.settled c.in-Synced.is
