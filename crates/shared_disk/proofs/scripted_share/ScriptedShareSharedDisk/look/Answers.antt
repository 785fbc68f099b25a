use Rattle.std.proofs.Common.{ap, ◌∙◌, arith}
use Rattle.shared_disk.specs.ScriptedLaws.{next_seen, row_fits}
use Rattle.shared_disk.proofs.scripted_share.ScriptedShareSharedDisk.look.Goals as goal

pub copy_part-requires : goal.copy_part-requires
copy_part-requires c =
    let d = c.args.self.now in
    let e = c.go_on.new.self in
    let long = row_fits d.count d.size d.bytes.items d.next d.whole d.low e.count e.size e.bytes.items e.seen c.row.result.now
    c.go_on.ensures.count c.go_on.ensures.size (ap (λ v. v.items) c.go_on.ensures.bytes) c.go_on.ensures.seen c.row.ensures in
    omega (arith, long, c.requires)

pub returns-clause-next : goal.returns-clause-next
returns-clause-next c = λ honest.
    let d = c.args.self.now in
    let e = c.go_on.new.self in
    next_seen d.count d.size d.bytes.items d.seen d.next d.order e.count e.size e.bytes.items e.seen
    c.go_on.ensures.count c.go_on.ensures.size (ap (λ v. v.items) c.go_on.ensures.bytes) c.go_on.ensures.seen
