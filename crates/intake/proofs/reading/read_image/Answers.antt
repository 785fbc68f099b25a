use Rattle.std.proofs.Common.{◌∙◌, ap, take, arith}
use Rattle.std.proofs.lemmas.List.{with_items_is}
use Rattle.disk_model.specs.PartLaws.{part_is}
use Rattle.disk_model.specs.Places.{part}
use Rattle.extents.specs.Runs.{blocks_of}
use Rattle.intake.specs.Blocks.{joined}
use Rattle.intake.proofs.PartLemmas.{part_fits}
use Rattle.intake.proofs.ReadLemmas.{blocks_back}
use Rattle.intake.proofs.reading.read_image.Goals as goal

pub read_part-requires-clause-room : goal.read_part-requires-clause-room
read_part-requires-clause-room g c =
    let fits = part_fits c.args.shape.data_blocks 0 c.args.entry.now.length c.args.entry.now.length c.runs.result.now c.args.entry.now.runs c.runs.ensures.shortest c.requires.lies (omega arith) in
    omega (arith, fits, c.deref_mut.ensures.len, c.in_ok-image.ensures.len)

pub returns-clause-bytes : goal.returns-clause-bytes
returns-clause-bytes g c honest =
    with_items_is c.in_ok-image.image c.read_part.new.into (c.read_part.auto.into ∙ c.deref_mut.ensures.len)
    ∙ c.in_ok-read_part.ensures.bytes honest
    ∙ ap (part (joined c.args.shape (g.D.Disk.seen c.args.disk.now) (blocks_of c.runs.result.now)) 0) (c.deref_mut.ensures.len ∙ c.in_ok-image.ensures.len)
    ∙ part_is (joined c.args.shape (g.D.Disk.seen c.args.disk.now) (blocks_of c.runs.result.now)) 0 c.args.entry.now.length
    ∙ ap (λ bs. take c.args.entry.now.length (joined c.args.shape (g.D.Disk.seen c.args.disk.now) bs)) (blocks_back c.runs.result.now c.args.entry.now.runs c.runs.ensures.shortest)

pub returns-clause-long : goal.returns-clause-long
returns-clause-long g c =
    let same = c.read_part.auto.into in
    omega (arith, c.deref_mut.ensures.len, c.in_ok-image.ensures.len)
