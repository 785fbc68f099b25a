use Rattle.std.proofs.Common.{take}
use Rattle.std.specs.List.{flat_map}
use Rattle.archive_replies.specs.Texts.{dropped_line}
use Rattle.script_streams.specs.Printing.{Prints, sink}
use Rattle.inspector_cli.specs.Deleting.{DeletesEach}
use Rattle.inspector_cli.proofs.deleting.delete_each.Given as goal

-- those that went by are gone, and told
abbrev pub invariant-loop-seq : goal.invariant-loop-seq
invariant-loop-seq g l = record {
  gone : DeletesEach g.D.Disk l.initial.archive (take l.seq-index l.numbers) l.archive;
  told : Prints (sink g.O.Output l.initial.reply) (sink g.O.Output l.reply) (flat_map dropped_line (take l.seq-index l.numbers));
}
