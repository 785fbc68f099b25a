-- The meaning of the code's threads, and of an iterator over them: the descriptors of their states.
use Rattle.std.specs.Prelude.{ℕ, List}
use Rattle.core_notes.specs.DescriptorWords.{status_bytes}
use Rattle.core_notes.specs.CoreWords.{statuses_left}
use Rattle.thread_regs.specs.declared.thread_list.Thread.{Thread}
use Rattle.thread_regs.specs.declared.thread_list.ThreadList.{ThreadList}

abbrev pub thread_bytes : Thread → List ℕ
thread_bytes t = status_bytes t.status

abbrev pub threads_left : ThreadList → List (List ℕ)
threads_left t = statuses_left t.statuses
