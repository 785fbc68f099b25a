use Rattle.std.proofs.Common.{◌-◌}
use Rattle.std.proofs.lemmas.Result.{err_from_is_err_and}
use Rattle.case_queries.proofs.AgainLemmas.{stay_after}
use Rattle.case_queries.proofs.WindowLemmas.{range_leaves, window_is_seen, window_refused}
use Rattle.case_queries.proofs.window.read_window.Goals as goal

pub returns-in_err-read_range-clause-seen : goal.returns-in_err-read_range-clause-seen
returns-in_err-read_range-clause-seen g c before first n has seen wanted =
    let p = err_from_is_err_and c.from_residual.result c.from_residual.ensures.1 in
    let reads = rw c.deref.ensures.value at c.in_err-read_range.ensures.reads in
    rw (p.1, p.2)
    (window_refused g.D.Disk before c.args.archive.now c.read_range.new.archive c.args.seq c.args.size first n c.args.range.start (c.args.range.past - c.args.range.start) c.args.front c.read_range.new.bytes.items c.in_err-read_range.field-0.0 has seen reads)

pub returns-clause-seen : goal.returns-clause-seen
returns-clause-seen g c before first n has seen wanted =
    let reads = rw c.deref.ensures.value at c.in_ok-read_range.ensures.reads in
    window_is_seen g.D.Disk before c.args.archive.now c.read_range.new.archive c.args.seq c.args.size first n c.args.range.start c.args.range.past c.args.front c.read_range.new.bytes has seen wanted reads

pub returns-clause-are_kept : goal.returns-clause-are_kept
returns-clause-are_kept g c =
    let leaves = range_leaves g.D.Disk c.args.archive.now c.read_range.new.archive c.args.seq c.args.range.start (c.args.range.past - c.args.range.start) c.deref.result.now c.read_range.new.bytes.items c.in_ok-read_range.ensures.reads in
    stay_after g.D.Disk c.read_range.new.archive (g.met.D.Disk.only_now c.read_range.new.archive.disk) c.args.archive.now c.args.front.executables leaves c.requires.are_kept
