use Rattle.std.proofs.Common.{◌-◌, arith}
use Rattle.std.proofs.lemmas.Result.{err_from_is_err_and}
use Rattle.script_lines.specs.declared.query.MemoryQuery.TheVariants.{Backtrace}
use Rattle.case_queries.proofs.AgainLemmas.{stay_after}
use Rattle.case_queries.proofs.WindowLemmas.{range_leaves, stack_is_seen, window_refused}
use Rattle.case_queries.proofs.stack.read_stack.Goals as goal

pub returns-in_err-read_range-clause-seen : goal.returns-in_err-read_range-clause-seen
returns-in_err-read_range-clause-seen g c before has seen =
    let p = err_from_is_err_and c.from_residual.result c.from_residual.ensures.1 in
    let reads = rw c.deref.ensures.value at c.in_err-read_range.ensures.reads in
    rw (p.1, p.2)
    (window_refused g.D.Disk before c.args.archive.now c.read_range.new.archive c.args.seq c.args.size 0 0 c.args.range.start (c.args.range.past - c.args.range.start) c.args.front c.read_range.new.bytes.items c.in_err-read_range.field-0.0 has seen reads)

pub returns-then-not-shows_frames-clause-seen : goal.returns-then-not-shows_frames-clause-seen
returns-then-not-shows_frames-clause-seen g c before has seen =
    let reads = rw c.deref.ensures.value at c.in_ok-read_range.ensures.reads in
    c.read_others.ensures.seen before c.args.archive.now (Backtrace c.args.thread) has seen (rw c.in_ok-read_range.ensures.long reads)

pub returns-then-not-shows_frames-clause-kept : goal.returns-then-not-shows_frames-clause-kept
returns-then-not-shows_frames-clause-kept g c before has seen =
    let reads = rw c.deref.ensures.value at c.in_ok-read_range.ensures.reads in
    c.read_others.ensures.kept before c.args.archive.now has seen (rw c.in_ok-read_range.ensures.long reads)

pub returns-clause-seen : goal.returns-clause-seen
returns-clause-seen g c before has seen =
    let reads = rw c.deref.ensures.value at c.in_ok-read_range.ensures.reads in
    let range = c.requires.range in
    stack_is_seen g.D.Disk before c.args.archive.now c.read_range.new.archive c.args.seq c.args.size c.args.thread c.args.range.start (c.args.range.past - c.args.range.start) c.args.front c.read_range.new.bytes has seen (omega (arith, range.0, range.1))
    reads (rw c.deref-2.ensures.value at (c.shows_frames.ensures c.if-not-shows_frames.false))

pub returns-clause-are_kept : goal.returns-clause-are_kept
returns-clause-are_kept g c =
    let leaves = range_leaves g.D.Disk c.args.archive.now c.read_range.new.archive c.args.seq c.args.range.start (c.args.range.past - c.args.range.start) c.deref.result.now c.read_range.new.bytes.items c.in_ok-read_range.ensures.reads in
    stay_after g.D.Disk c.read_range.new.archive (g.met.D.Disk.only_now c.read_range.new.archive.disk) c.args.archive.now c.args.front.executables leaves c.requires.are_kept
