-- How many frames may still come.
use Rattle.std.specs.Prelude.{◌<◌, ⊤, ℕ, suc, zero, Result, Ok, Err}
use Rattle.seen_memory.specs.declared.memory.Unread.{Unread}
use Rattle.unwind.specs.declared.faults.Stop.{Stop}
use Rattle.unwind.specs.declared.frame.Frame.{Frame}

-- a frame comes after another only if one more may
abbrev pub MayCome : ℕ → Result (Result Frame Stop) Unread → Type 0
MayCome more (Ok (Ok f)) = 0 < more
MayCome more (Ok (Err stop)) = ⊤
MayCome more (Err u) = ⊤

-- how many may come, if that is the next, and so many after it
abbrev pub most_by : ℕ → Result Frame Stop → ℕ
most_by more (Ok f) = suc more
most_by more (Err stop) = zero
