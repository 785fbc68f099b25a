use Rattle.std.proofs.Common.{List, ℕ, Ok, subst, sym}
use Rattle.disk_model.specs.Backing.{IsPut}
use Rattle.disk_model.specs.Gathering.{laden, IsQuiet}
use Rattle.disk_model.specs.GatheringLaws.{Laws, refused, written_out}
use Rattle.disk_model.proofs.gathered.Gathered.write_out.Goals as goal

-- what was gathered is kept
pub returns-in_err-put-clause-quiet : goal.returns-in_err-put-clause-quiet
returns-in_err-put-clause-quiet g c =
    let m = g.met.D.Disk in
    let laws : Laws g.D.Disk = record { whole = m.whole; sized = m.sized; seen_bytes = m.seen_bytes; left_bytes = m.left_bytes; seen_may_stay = m.seen_may_stay; counts_now = m.counts_now; only_now = m.only_now } in
    let self = c.args.self.now in
    let old = c.args.disk.now in
    let new = c.put.new.self in
    refused g.D.Disk laws old new c.put.result self.at self.bytes.items self.few
    (subst (λ (b : List ℕ). IsPut g.D.Disk c.put.result self.at b old new) c.as_slice-bytes.ensures.value c.put.ensures.put)

-- the disk has it
pub returns-clause-quiet : goal.returns-clause-quiet
returns-clause-quiet g c =
    let m = g.met.D.Disk in
    let laws : Laws g.D.Disk = record { whole = m.whole; sized = m.sized; seen_bytes = m.seen_bytes; left_bytes = m.left_bytes; seen_may_stay = m.seen_may_stay; counts_now = m.counts_now; only_now = m.only_now } in
    let self = c.args.self.now in
    let old = c.args.disk.now in
    let new = c.put.new.self in
    subst (λ (b : List ℕ). IsQuiet g.D.Disk (laden old self.at self.bytes.items) (laden new self.at b)) (sym c.clear.ensures.items)
    (written_out g.D.Disk laws old new c.in_ok-put.field-0 self.at self.bytes.items c.requires self.few
    (subst (λ (b : List ℕ). IsPut g.D.Disk (Ok c.in_ok-put.field-0) self.at b old new) c.as_slice-bytes.ensures.value c.in_ok-put.ensures.put))
