use Rattle.std.proofs.Common.{◌≡◌, ◌-◌, ◌<◌, sym, ap, subst, ◌∙◌, arith}
use Rattle.seen_memory.specs.Seen.{space_by}
use Rattle.unwind.specs.Coming.{most_by}
use Rattle.unwind.specs.FrameWords.{frames_left, most_left, stop_left}
use Rattle.unwind.specs.Unwinding.{frames_behind, frames_from, stop_behind, stop_from}
use Rattle.unwind.specs.Words.{process_with}
use Rattle.unwind.proofs.Steps.{fewer_left, frames_next, stop_next}
use Rattle.unwind.proofs.frames.Frames.next.Goals as goal

pub returns-in-Err-clause-gives : goal.returns-in-Err-clause-gives
unfolding frames_left stop_left
returns-in-Err-clause-gives c p =
    let s = c.args.self.now in
    record { frames = ap (frames_behind (frames_from p s.more)) c.in-Err.is; stop = ap (stop_behind (stop_from p s.more)) c.in-Err.is }

pub returns-clause-gives : goal.returns-clause-gives
unfolding frames_left stop_left
returns-clause-gives c image is =
    let s = c.args.self.now in
    let p = process_with (space_by c.args.memory image) c.args.executables.now c.args.others.now c.args.start in
    let f = c.in-Ok.frame in
    let m = c.saturating_sub-self.result in
    let less : s.more - 1 ≡ m = omega (arith, c.saturating_sub-self.ensures) in
    let r = c.in_ok-self.field-0 in
    let told = c.in_ok-self.ensures.told image is in
    record {
      frames = ap (frames_behind (frames_from p s.more)) c.in-Ok.is ∙ frames_next p s.more m f r less told;
      stop = sym (ap (stop_behind (stop_from p s.more)) c.in-Ok.is ∙ stop_next p s.more m f r less told);
    }

pub returns-clause-fewer : goal.returns-clause-fewer
unfolding most_left
returns-clause-fewer c =
    let s = c.args.self.now in
    let m = c.saturating_sub-self.result in
    let less : m ≡ s.more - 1 = omega (arith, c.saturating_sub-self.ensures) in
    subst (λ n. most_by m c.in_ok-self.field-0 < n) (sym (ap (most_by s.more) c.in-Ok.is)) (fewer_left s.more m c.in_ok-self.field-0 less c.in_ok-self.ensures.few)
