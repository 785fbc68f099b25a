use Rattle.std.proofs.Common.{map}
use Rattle.build_replies.specs.BuildsWords.{numbered_view}
use Rattle.image_replies.specs.CoreWords.{core_bytes}
use Rattle.memory_replies.specs.Memory.{attached_view}
use Rattle.script_lines.specs.Queries.{memory_query}
use Rattle.script_lines.specs.declared.query.MemoryQuery.TheVariants.{At, Backtrace}
use Rattle.case_queries.specs.Inspecting.{answer_of}
use Rattle.case_queries.proofs.SymbolLemmas.{as_it_is}
use Rattle.case_queries.proofs.with_builds.print_with_used.Goals as goal

pub returns-in-At : goal.returns-in-At
returns-in-At g c = rw c.in-At.is (rw c.deref.ensures.value at (rw c.deref-in-At.ensures.value at (c.print_at_with_debugs.ensures (core_bytes c.args.core.now) (c.whole_window-window.ensures (At c.in-At.address)).1)))

pub returns-in-Backtrace : goal.returns-in-Backtrace
returns-in-Backtrace g c = rw c.in-Backtrace.is (rw c.deref-in-Backtrace.ensures.value at (rw c.deref-in-Backtrace-2.ensures.value at (c.print_bt_with_debugs.ensures (core_bytes c.args.core.now) (c.whole_window-window.ensures (Backtrace c.in-Backtrace.thread)).1)))

pub returns-in_default : goal.returns-in_default
returns-in_default g c =
    let b = core_bytes c.args.core.now in
    let xs = map attached_view c.args.used.now.lent.attached.items in
    let answer = answer_of c.args.kind (memory_query c.args.query.now) b (map numbered_view c.args.used.now.lent.cases.items) xs in
    rw (as_it_is c.args.query.now c.in_default.not-At c.in_default.not-Backtrace b xs (map attached_view c.args.used.now.debugs.items) answer) (c.print_memory.ensures b (c.whole_window-window.ensures c.args.query.now))
