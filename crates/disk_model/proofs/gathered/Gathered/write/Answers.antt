use Rattle.std.proofs.Common.{ℕ, List, subst, arith}
use Rattle.disk_model.specs.Gathering.{laden, IsQuiet}
use Rattle.disk_model.specs.GatheringLaws.{Laws, taken_on, gathered_behind, put_past}
use Rattle.disk_model.proofs.gathered.Gathered.write.Goals as goal

-- gathered at once
pub returns-then-takes-clause-taken : goal.returns-then-takes-clause-taken
returns-then-takes-clause-taken g c =
    let m = g.met.D.Disk in
    let laws : Laws g.D.Disk = record { whole = m.whole; sized = m.sized; seen_bytes = m.seen_bytes; left_bytes = m.left_bytes; seen_may_stay = m.seen_may_stay; counts_now = m.counts_now; only_now = m.only_now } in
    let self = c.args.self.now in
    let new = c.takes.new.self in
    let takes = c.if-takes.ensures in
    gathered_behind g.D.Disk laws c.args.disk.now tt self.at self.bytes.items new.at c.args.at c.args.from.now new.bytes.items takes.taken takes.placed takes.stays c.requires.gathered c.requires.within self.few

-- gathered after a write of the others
pub returns-then-takes-2-clause-taken : goal.returns-then-takes-2-clause-taken
returns-then-takes-2-clause-taken g c =
    let m = g.met.D.Disk in
    let laws : Laws g.D.Disk = record { whole = m.whole; sized = m.sized; seen_bytes = m.seen_bytes; left_bytes = m.left_bytes; seen_may_stay = m.seen_may_stay; counts_now = m.counts_now; only_now = m.only_now } in
    let self = c.args.self.now in
    let disk = c.args.disk.now in
    let kept = c.if-takes.ensures.refused in
    let mid = c.write_out.new.self in
    let below = c.write_out.new.disk in
    let quiet : IsQuiet g.D.Disk (laden disk self.at self.bytes.items) (laden below mid.at mid.bytes.items) =
    subst (λ (b : List ℕ). IsQuiet g.D.Disk (laden disk self.at b) (laden below mid.at mid.bytes.items)) kept.1
    (subst (λ (q : ℕ). IsQuiet g.D.Disk (laden disk q c.takes.new.self.bytes.items) (laden below mid.at mid.bytes.items)) kept.0 c.write_out.ensures.quiet) in
    let new = c.takes-2.new.self in
    let takes = c.if-takes-2.ensures in
    taken_on g.D.Disk laws (laden disk self.at self.bytes.items) (laden below mid.at mid.bytes.items) (laden below new.at new.bytes.items) quiet _ c.args.at c.args.from.now
    (gathered_behind g.D.Disk laws below tt mid.at mid.bytes.items new.at c.args.at c.args.from.now new.bytes.items takes.taken takes.placed takes.stays c.write_out.ensures.within (omega (arith, quiet.size, c.requires.within)) mid.few)

-- written after a write of the others
pub returns-clause-taken : goal.returns-clause-taken
returns-clause-taken g c =
    let m = g.met.D.Disk in
    let laws : Laws g.D.Disk = record { whole = m.whole; sized = m.sized; seen_bytes = m.seen_bytes; left_bytes = m.left_bytes; seen_may_stay = m.seen_may_stay; counts_now = m.counts_now; only_now = m.only_now } in
    let self = c.args.self.now in
    let disk = c.args.disk.now in
    let kept = c.if-takes.ensures.refused in
    let mid = c.write_out.new.self in
    let below = c.write_out.new.disk in
    let quiet : IsQuiet g.D.Disk (laden disk self.at self.bytes.items) (laden below mid.at mid.bytes.items) =
    subst (λ (b : List ℕ). IsQuiet g.D.Disk (laden disk self.at b) (laden below mid.at mid.bytes.items)) kept.1
    (subst (λ (q : ℕ). IsQuiet g.D.Disk (laden disk q c.takes.new.self.bytes.items) (laden below mid.at mid.bytes.items)) kept.0 c.write_out.ensures.quiet) in
    let new = c.takes-2.new.self in
    let again = c.if-takes-2.ensures.refused in
    taken_on g.D.Disk laws (laden disk self.at self.bytes.items) (laden below mid.at mid.bytes.items) (laden c.put.new.self new.at new.bytes.items) quiet c.put.result c.args.at c.args.from.now
    (put_past g.D.Disk laws below c.put.new.self c.put.result mid.at mid.bytes.items new.at new.bytes.items c.args.at c.args.from.now c.write_out.ensures.within c.in_ok-write_out.ensures.none again.0 again.1 c.put.ensures.put)
