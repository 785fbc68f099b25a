-- Chains of frames (RISC-V ELF psABI, "Frame Pointer Convention"): a frame pointer is the stack pointer at the entry of its procedure. The return address is at 8 below
-- it, the caller's frame pointer at 16 below, and the stack grows down.
use Rattle.std.specs.Prelude.{◌≡◌, ℕ, zero, suc, ◌+◌, ◌-◌, ◌%◌, ◌==◌, ◌&&◌, not, nat_lt, nat_le, if◌then◌else◌, Bool, false, List, [], ◌∷◌, Option, None, Some, is_none, Result, Ok, Err}
use Rattle.backtrace.specs.declared.frames.Frame.{Frame}
use Rattle.backtrace.specs.declared.frames.Stop.{Stop}
use Rattle.backtrace.specs.declared.frames.Stop.TheVariants.{NotRising, ZeroLink, Misaligned, Unreadable, Limit}

-- a memory: the word at each address that has one
abbrev pub Memory : Type 0
Memory = ℕ → Option ℕ

-- the words at 8 and at 16 below a frame pointer, if both are there
abbrev pub both : Option ℕ → Option ℕ → Option (ℕ × ℕ)
both None q = None
both (Some x) None = None
both (Some x) (Some y) = Some (x, y)

unfoldable pub link_below : Memory → ℕ → Option (ℕ × ℕ)
link_below m fp = if nat_lt fp 16 then None else both (m (fp - 8)) (m (fp - 16))

-- neither 0 nor above that of the frame before, if there is one
abbrev pub is_not_rising : Option ℕ → ℕ → Bool
is_not_rising None fp = false
is_not_rising (Some before) fp = not (fp == 0) && nat_le fp before

-- the reasons why no frame comes after one, in order, each with whether it holds
abbrev pub reasons : Memory → Option ℕ → Frame → List (Bool × Stop)
reasons m before f =
    (is_not_rising before f.fp, NotRising)
    ∷ (f.fp == 0, ZeroLink)
    ∷ (not (f.fp % 8 == 0), Misaligned)
    ∷ (is_none (link_below m f.fp), Unreadable)
    ∷ (f.index == 1023, Limit)
    ∷ []

abbrev pub first_holding : List (Bool × Stop) → Option Stop
first_holding [] = None
first_holding (r ∷ rs) = if r.0 then Some r.1 else first_holding rs

-- why a frame with that frame pointer before it is the last
abbrev pub stop_at : Memory → Option ℕ → Frame → Option Stop
stop_at m before f = first_holding (reasons m before f)

-- the frame that the words below a frame pointer lead to
abbrev pub led_to : ℕ → Option (ℕ × ℕ) → Option Frame
led_to i None = None
led_to i (Some words) = Some (record { index = i; pc = words.0; fp = words.1 })

abbrev pub caller : Memory → Frame → Option Frame
caller m f = led_to (f.index + 1) (link_below m f.fp)

-- The frames after a frame with that frame pointer before it: the last frame of all has a reason to be it, no other has one, and each other is followed by its caller.
abbrev pub IsChainFrom : Memory → Option ℕ → Frame → List Frame → Stop → Type 0
IsChainFrom m before f [] stop = stop_at m before f ≡ Some stop
IsChainFrom m before f (g ∷ fs) stop = (stop_at m before f ≡ None) × (caller m f ≡ Some g) × IsChainFrom m (Some f.fp) g fs stop

-- the step after a frame: its caller, or the reason why it has no caller
abbrev pub step_by : Option Stop → Option Frame → Result Frame Stop
step_by (Some stop) next = Err stop
step_by None (Some next) = Ok next
step_by None None = Err Unreadable

unfoldable pub step : Memory → Option ℕ → Frame → Result Frame Stop
step m before f = step_by (stop_at m before f) (caller m f)

abbrev pub frames_behind : (Frame → List Frame) → Result Frame Stop → List Frame
frames_behind others (Ok next) = others next
frames_behind others (Err stop) = []

abbrev pub stop_behind : (Frame → Stop) → Result Frame Stop → Stop
stop_behind others (Ok next) = others next
stop_behind others (Err stop) = stop

-- a frame and at most n more, and why they end
unfoldable pub frames_from : Memory → ℕ → Option ℕ → Frame → List Frame
frames_from m zero before f = f ∷ []
frames_from m (suc n) before f = f ∷ frames_behind (frames_from m n (Some f.fp)) (step m before f)

unfoldable pub stop_from : Memory → ℕ → Option ℕ → Frame → Stop
stop_from m zero before f = stop_behind (λ next. Limit) (step m before f)
stop_from m (suc n) before f = stop_behind (stop_from m n (Some f.fp)) (step m before f)

-- the frames from a pc and a frame pointer on, and why they end
abbrev pub first_frame : ℕ → ℕ → Frame
first_frame pc fp = record { index = 0; pc = pc; fp = fp }

unfoldable pub chain : Memory → ℕ → ℕ → List Frame
chain m pc fp = frames_from m 1023 None (first_frame pc fp)

unfoldable pub stop_of : Memory → ℕ → ℕ → Stop
stop_of m pc fp = stop_from m 1023 None (first_frame pc fp)

-- why frames end, if no more of them are to come
abbrev pub told : List Frame → Stop → Option Stop
told [] stop = Some stop
told (f ∷ fs) stop = None
