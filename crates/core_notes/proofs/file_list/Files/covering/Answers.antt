use Rattle.std.proofs.Common.{◌-◌, Some, None, true, false, ap, ◌∙◌, arith}
use Rattle.core_notes.specs.FileWords.{entry_view}
use Rattle.core_notes.proofs.Covering.{covering_is, find_hit, find_miss, find_past, is_entry_mapping, tested}
use Rattle.core_notes.proofs.file_list.Files.covering.Goals as goal

pub returns-then-maps : goal.returns-then-maps
returns-then-maps c =
    let d = c.args.self.now.desc.now in
    let a = c.args.address in
    let i = c.loop-i.i in
    let hit = tested d a i (entry_view c.entry-entry.result) true c.if-maps.ensures c.entry-entry.ensures in
    ap Some c.entry-entry.ensures
    ∙ covering_is d a c.u64_at-count.result (Some i) c.u64_at-count.ensures (c.loop-i.invariant ∙ find_hit (is_entry_mapping d a) i c.u64_at-count.result c.loop-i-test.true hit)

pub loop-i-preserved : goal.loop-i-preserved
loop-i-preserved c =
    let d = c.args.self.now.desc.now in
    let a = c.args.address in
    let i = c.loop-i.i in
    c.loop-i.invariant
    ∙ find_miss (is_entry_mapping d a) i c.u64_at-count.result c.loop-i-test.true (tested d a i (entry_view c.entry-entry.result) false c.if-maps.ensures c.entry-entry.ensures)

pub returns : goal.returns
returns c =
    let d = c.args.self.now.desc.now in
    let a = c.args.address in
    covering_is d a c.u64_at-count.result None c.u64_at-count.ensures (c.loop-i.invariant ∙ find_past (is_entry_mapping d a) c.loop-i.i (c.u64_at-count.result - c.loop-i.i) (omega arith))
