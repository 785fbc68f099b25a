-- If two memories agree at each frame of a stack, the stack has the same frames in both.
use Rattle.std.proofs.Common.{◌≡◌, ℕ, zero, suc, ◌+◌, [], ◌∷◌, Option, None, Some, Result, Ok, Err, refl, ap, ◌∙◌}
use Rattle.std.specs.Prelude.{◌==◌, ◌%◌, not, is_none}
use Rattle.backtrace.specs.Agreeing.{AgreeAt}
use Rattle.backtrace.specs.Chain.{Memory, link_below, is_not_rising, first_holding, led_to, step_by, step, frames_behind, stop_behind, frames_from, stop_from, first_frame, chain, stop_of}
use Rattle.backtrace.specs.declared.frames.Frame.{Frame}
use Rattle.backtrace.specs.declared.frames.Stop.{Stop}
use Rattle.backtrace.specs.declared.frames.Stop.TheVariants.{NotRising, ZeroLink, Misaligned, Unreadable, Limit}

-- if a frame's words are the same, the step after it is the same
pub step_alike : (m p : Memory) (before : Option ℕ) (f : Frame) → link_below m f.fp ≡ link_below p f.fp → step m before f ≡ step p before f
unfolding step
step_alike m p before f same =
    ap (λ o. step_by (first_holding ((is_not_rising before f.fp, NotRising) ∷ (f.fp == 0, ZeroLink) ∷ (not (f.fp % 8 == 0), Misaligned) ∷ (is_none o, Unreadable) ∷ (f.index == 1023, Limit) ∷ [])) (led_to (f.index + 1) o)) same

rest_alike : (m p : Memory) (n : ℕ) (before : Option ℕ) (r : Result Frame Stop)
    → ((g : Frame) → AgreeAt m p before (frames_from p n before g) → (frames_from m n before g ≡ frames_from p n before g) × (stop_from m n before g ≡ stop_from p n before g))
    → AgreeAt m p before (frames_behind (frames_from p n before) r)
    → (frames_behind (frames_from m n before) r ≡ frames_behind (frames_from p n before) r) × (stop_behind (stop_from m n before) r ≡ stop_behind (stop_from p n before) r)
rest_alike m p n before (Ok g) later agree = later g agree
rest_alike m p n before (Err stop) later agree = (refl, refl)

from_alike : (m p : Memory) (n : ℕ) (before : Option ℕ) (f : Frame) → AgreeAt m p before (frames_from p n before f)
    → (frames_from m n before f ≡ frames_from p n before f) × (stop_from m n before f ≡ stop_from p n before f)
unfolding frames_from stop_from
from_alike m p zero before f agree = (refl, ap (stop_behind (λ next. Limit)) agree.0)
from_alike m p (suc n) before f agree =
    let rest = rest_alike m p n (Some f.fp) (step p before f) (λ g. from_alike m p n (Some f.fp) g) agree.1 in (
      ap (λ r. f ∷ frames_behind (frames_from m n (Some f.fp)) r) agree.0 ∙ ap (λ fs. f ∷ fs) rest.0,
      ap (stop_behind (stop_from m n (Some f.fp))) agree.0 ∙ rest.1,
    )

pub chain_alike : (m p : Memory) (pc fp : ℕ) → AgreeAt m p None (chain p pc fp) → (chain m pc fp ≡ chain p pc fp) × (stop_of m pc fp ≡ stop_of p pc fp)
unfolding chain stop_of
chain_alike m p pc fp agree = from_alike m p 1023 None (first_frame pc fp) agree
