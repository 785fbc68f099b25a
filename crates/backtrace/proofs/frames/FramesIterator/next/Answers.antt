use Rattle.std.proofs.Common.{Some, ◌∷◌, length, refl, sym, ap, ◌∙◌, arith}
use Rattle.backtrace.specs.Chain.{frames_behind, stop_behind}
use Rattle.backtrace.specs.FrameWords.{frames_left, stop_left, rest_from, end_from}
use Rattle.backtrace.specs.MemoryWords.{words_by}
use Rattle.backtrace.proofs.Steps.{frames_step, stop_step}
use Rattle.backtrace.proofs.frames.FramesIterator.next.Goals as goal

pub returns-in_default-clause-steps : goal.returns-in_default-clause-steps
unfolding frames_left
returns-in_default-clause-steps c =
    let s = c.args.self.now in
    let none = ap (frames_behind (rest_from (words_by s.words) s.before)) c.in_default.is in
    record { frames = (none, none); stop = refl }

pub returns-clause-steps : goal.returns-clause-steps
unfolding frames_left stop_left
returns-clause-steps c =
    let s = c.args.self.now in
    let m = words_by s.words in
    let f = c.in-Ok.frame in
    let few = s.few f c.in-Ok.is in
    record {
      frames = ap (frames_behind (rest_from m s.before)) c.in-Ok.is ∙ frames_step m s.before f few ∙ ap (λ r. f ∷ frames_behind (rest_from m (Some f.fp)) r) (sym c.step-next.ensures.step);
      stop = sym
          (ap (stop_behind (end_from m s.before)) c.in-Ok.is ∙ stop_step m s.before f few
          ∙ ap (λ r. stop_behind (end_from m (Some f.fp)) r) (sym c.step-next.ensures.step));
    }

pub returns-clause-goes : goal.returns-clause-goes
returns-clause-goes c =
    let fewer = ap length (returns-clause-steps c).frames in record { on = λ _. (tt, tt, omega (arith, fewer)); keeps = tt; rests = λ _. tt }
