-- The frames of a stack: a frame, and after each the one that it was called from.
use Rattle.std.specs.Prelude.{◌≡◌, ℕ, zero, suc, ◌-◌, ◌==◌, if◌then◌else◌, true, List, [], ◌∷◌, map, Option, None, Some, Result, Ok, Err}
use Rattle.std.specs.List.{range_with_len}
use Rattle.thread_regs.specs.Register.{register_in}
use Rattle.unwind.specs.ByCall.{by_call}
use Rattle.unwind.specs.ByEntry.{by_entry}
use Rattle.unwind.specs.ByTrampoline.{is_trampoline, by_trampoline}
use Rattle.unwind.specs.Code.{ProcessView}
use Rattle.unwind.specs.Registers.{Registers}
use Rattle.unwind.specs.declared.faults.Stop.{Stop}
use Rattle.unwind.specs.declared.faults.Stop.TheVariants.{Limit}
use Rattle.unwind.specs.declared.frame.Frame.{Frame}

-- a call to no code goes before call frame information
abbrev pub call_or : Option Frame → Result Frame Stop → Result Frame Stop
call_or (Some g) others = Ok g
call_or None others = others

-- and a trampoline before both
unfoldable pub by_rules : ProcessView → Frame → Result Frame Stop
by_rules p f =
    if is_trampoline p.space f.pc then by_trampoline p.space f else call_or (by_call p.space f) (by_entry p f)

-- a frame, if at least one more may come, or that reason
abbrev pub bounded : ℕ → Result Frame Stop → Result Frame Stop
bounded n (Ok g) = if n == 0 then Err Limit else Ok g
bounded n (Err stop) = Err stop

-- The frame after a frame, if n more may come; or the first reason why no frame does.
unfoldable pub next : ProcessView → ℕ → Frame → Result Frame Stop
next p n f = bounded n (by_rules p f)

-- The frames after a frame, if n more may come: the last of all has a reason to be it, and each other is followed by its next.
abbrev pub IsUnwoundFrom : ProcessView → ℕ → Frame → List Frame → Stop → Type 0
IsUnwoundFrom p n f [] stop = next p n f ≡ Err stop
IsUnwoundFrom p n f (g ∷ gs) stop = (next p n f ≡ Ok g) × IsUnwoundFrom p (n - 1) g gs stop

abbrev pub frames_behind : (Frame → List Frame) → Result Frame Stop → List Frame
frames_behind others (Ok g) = others g
frames_behind others (Err stop) = []

abbrev pub stop_behind : (Frame → Stop) → Result Frame Stop → Stop
stop_behind others (Ok g) = others g
stop_behind others (Err stop) = stop

-- a frame and at most n more, and why they end
unfoldable pub frames_from : ProcessView → ℕ → Frame → List Frame
frames_from p zero f = f ∷ []
frames_from p (suc n) f = f ∷ frames_behind (frames_from p n) (by_rules p f)

unfoldable pub stop_from : ProcessView → ℕ → Frame → Stop
stop_from p zero f = stop_behind (λ g. Limit) (by_rules p f)
stop_from p (suc n) f = stop_behind (stop_from p n) (by_rules p f)

-- how many frames may come after the first
abbrev pub most : ℕ
most = 1023

-- the registers of a thread's state, which has all of them
abbrev pub register_of : List ℕ → ℕ → Option ℕ
register_of desc c = Some (register_in desc c)

unfoldable pub registers_of : List ℕ → Registers
registers_of desc = map (register_of desc) (range_with_len 0 32)

-- The first frame has the thread's registers; 32 is the number of pc.
abbrev pub first_frame : List ℕ → Frame
first_frame desc = record { pc = register_in desc 32; registers = registers_of desc; exact = true; callee = None }

-- the frames of a thread, and why they end
unfoldable pub unwound : ProcessView → List ℕ → List Frame
unwound p desc = frames_from p most (first_frame desc)

unfoldable pub stop_of : ProcessView → List ℕ → Stop
stop_of p desc = stop_from p most (first_frame desc)
