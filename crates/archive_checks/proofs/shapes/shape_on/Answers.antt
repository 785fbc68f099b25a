use Rattle.std.proofs.Common.{◌≡◌, ◌∙◌, sym, arith, ap, Some}
use Rattle.archive_checks.proofs.FrontLemmas.{said_by, shape_is, unnamed}
use Rattle.archive_checks.proofs.shapes.shape_on.Goals as goal

pub returns-then-length-lt-BLOCK-clause-shape : goal.returns-then-length-lt-BLOCK-clause-shape
returns-then-length-lt-BLOCK-clause-shape g c = λ s honest stands.
    let long = (said_by (g.D.Disk.seen c.args.disk.now) s stands).long in
    let size = g.met.D.Disk.whole c.args.disk.now honest in
    absurd (omega (arith, long, size, c.length.ensures, c.if-length-lt-BLOCK.true))

pub returns-then-not-starts_with-clause-shape : goal.returns-then-not-starts_with-clause-shape
returns-then-not-starts_with-clause-shape g c = λ s honest stands.
    absurd (unnamed (g.D.Disk.seen c.args.disk.now) c.read_at.new.into s c.starts_with.result stands (c.in_ok-read_at.ensures.bytes honest) c.read_at.auto.into c.starts_with.ensures.value
    c.if-not-starts_with.true)

pub returns-clause-shape : goal.returns-clause-shape
returns-clause-shape g c = λ s honest stands.
    ap Some (shape_is (g.D.Disk.seen c.args.disk.now) c.read_at.new.into s c.from_le_bytes.result c.from_le_bytes-2.result stands (c.in_ok-read_at.ensures.bytes honest)
    c.from_le_bytes.ensures c.from_le_bytes-2.ensures)
