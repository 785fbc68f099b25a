use Rattle.std.proofs.Common.{◌≡◌, ◌-◌, length}
use Rattle.shared_disk.specs.Rows.{rows}
use Rattle.shared_disk.specs.Scripted.{span}
use Rattle.shared_disk.specs.ScriptedLaws.{AreFirst}
use Rattle.shared_disk.proofs.scripted_share.ScriptedShareSharedDisk.read_between.Given as goal

abbrev pub invariant-loop-k : goal.invariant-loop-k
invariant-loop-k l = record {
  gives : AreFirst (span (rows l.self.count l.self.size l.self.bytes.items) l.self.seen (l.self.next - l.self.seen)) l.at l.into l.k;
  long : length l.into ≡ length l.initial.into;
}
