use Rattle.std.proofs.Common.{◌+◌, ◌∙◌, ap, arith}
use Rattle.std.proofs.lemmas.List.{length-set}
use Rattle.shared_disk.specs.Rows.{rows}
use Rattle.shared_disk.proofs.ScriptLemmas.{one_more, script_byte}
use Rattle.shared_disk.proofs.scripted.ScriptedDiskWatchedDisk.read_at.Goals as goal

pub loop-k-preserved : goal.loop-k-preserved
loop-k-preserved c =
    let i = c.loop-k.invariant in
    let d = c.loop-k.self in
    let first = c.args.self.now in
    let long = i.long in
    let later = i.later in
    let on = c.go_on.ensures.later in
    record {
      gives = one_more (rows first.count first.size first.bytes.items) first.reached d.reached c.go_on.new.self.reached c.args.at c.loop-k.into c.loop-k.k c.byte.result i.gives later on
          (omega (arith, long, c.loop-k-test.true))
          (script_byte d.count first.count d.size first.size d.bytes.items first.bytes.items d.reached (c.args.at + c.loop-k.k) c.byte.result i.count i.size (ap (λ v. v.items) i.bytes) c.byte.ensures);
      bytes = c.go_on.ensures.bytes ∙ i.bytes;
      size = c.go_on.ensures.size ∙ i.size;
      count = c.go_on.ensures.count ∙ i.count;
      later = omega (arith, later, on);
      long = length-set c.loop-k.into c.loop-k.k c.byte.result ∙ i.long;
    }
