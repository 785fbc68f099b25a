-- The facts about a disk that fails by plan: the disk within, its plan, and the calls that were made.
use Rattle.std.specs.Prelude.{ℕ}
use Rattle.disk_model.specs.declared.faulty.Faulty.{Faulty}
use Rattle.disk_model.specs.declared.fuse.Limit.{Limit}
use Rattle.disk_model.specs.declared.one_fault.OneCall.{OneCall}

module _ {D P : Type 0} where
  abbrev pub faulty_inner : Faulty D P → D
  faulty_inner f = f.inner

  abbrev pub faulty_plan : Faulty D P → P
  faulty_plan f = f.plan

  abbrev pub faulty_calls : Faulty D P → ℕ
  faulty_calls f = f.calls

module _ {D : Type 0} where
  -- how many calls a fuse passes
  abbrev pub fuse_limit : Faulty D Limit → ℕ
  fuse_limit f = f.plan.limit

  -- the call that a single fault is at, counted from 1
  abbrev pub fault_at : Faulty D OneCall → ℕ
  fault_at f = f.plan.at
