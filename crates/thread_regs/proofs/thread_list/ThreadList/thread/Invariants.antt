use Rattle.std.proofs.Common.{◌≡◌, ◌-◌}
use Rattle.std.specs.Prelude.{slice_get}
use Rattle.thread_regs.specs.ThreadWords.{threads_left}
use Rattle.thread_regs.proofs.thread_list.ThreadList.thread.Given as goal

-- the thread that is sought among all is as many places further among those that are left as are still to be passed
abbrev pub invariant-loop-index : goal.invariant-loop-index
invariant-loop-index l = slice_get (threads_left l.self) l.i ≡ slice_get (threads_left l.left) (l.i - l._index)
