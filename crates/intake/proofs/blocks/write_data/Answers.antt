use Rattle.std.proofs.Common.{◌∙◌, ap, length, sym}
use Rattle.intake.specs.Blocks.{block_start}
use Rattle.intake.proofs.RestLemmas.{rests_write}
use Rattle.intake.proofs.blocks.write_data.Goals as goal

pub returns-in_err-write_at-clause-rests : goal.returns-in_err-write_at-clause-rests
returns-in_err-write_at-clause-rests g c j shape none guards =
    rests_write g.D.Disk c.args.disk.now c.write_at.new.self j c.block_start.result (length c.args.bytes.now) c.args.block c.data_blocks_keep.ensures (g.met.D.Disk.only_now c.args.disk.now) (g.met.D.Disk.seen_may_stay c.args.disk.now)
    c.write_at.ensures.size c.write_at.ensures.honesty c.write_at.ensures.crash c.write_at.ensures.others c.write_at.ensures.time
    (c.block_start.ensures ∙ ap (λ s. block_start s c.args.block) (sym shape)) c.requires.bytes none guards

pub returns-clause-rests : goal.returns-clause-rests
returns-clause-rests g c j shape none guards =
    rests_write g.D.Disk c.args.disk.now c.write_at.new.self j c.block_start.result (length c.args.bytes.now) c.args.block c.data_blocks_keep.ensures (g.met.D.Disk.only_now c.args.disk.now) (g.met.D.Disk.seen_may_stay c.args.disk.now)
    c.write_at.ensures.size c.write_at.ensures.honesty c.write_at.ensures.crash c.write_at.ensures.others c.write_at.ensures.time
    (c.block_start.ensures ∙ ap (λ s. block_start s c.args.block) (sym shape)) c.requires.bytes none guards
