use Rattle.disk_model.proofs.cached_disk.CachedDiskDisk.sync.Goals as goal

pub returns-clause-time : goal.returns-clause-time
returns-clause-time c =
    let time = c.sync.ensures.time in
    rw (← c.reaches_device.ensures.disk) (record { later = time.later; nothing_else = time.nothing_else; keeps = time.keeps; still = time.still })
