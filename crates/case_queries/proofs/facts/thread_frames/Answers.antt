use Rattle.std.proofs.Common.{◌≡◌, None, sym, subst, ap, take, ◌∙◌}
use Rattle.std.proofs.Math.Seq.{take-nil}
use Rattle.frame_replies.specs.FrameSources.{sources_of}
use Rattle.frame_replies.specs.Processes.{state_of}
use Rattle.frame_replies.specs.Walking.{BeginsAt, IsWalkOf}
use Rattle.case_queries.specs.Facts.{lines_for}
use Rattle.case_queries.proofs.FactLemmas.{frames_missing, sources_missing}
use Rattle.case_queries.proofs.FramesLemmas.{missing_in}
use Rattle.case_queries.proofs.facts.thread_frames.Goals as goal

pub returns-in_default-clause-told : goal.returns-in_default-clause-told
returns-in_default-clause-told g c = λ before told stored walks states sees.
    let image = c.args.image in
    let none = subst (λ b. state_of b c.args.thread ≡ None) c.requires.front c.in_default.ensures in
    let missing = frames_missing sees.0 stored c.args.thread (missing_in c.a_sound_front_is_enough.ensures.notes image c.requires.sound c.args.thread sees.0 sees.2.0 none) in
    let lines = lines_for c.args.lines c.args.thread in
    (sees.0, sees.1.own, sees.2.0, states sees.0 sees.2, missing, ap (take lines) (sources_missing sees.0 stored c.args.thread missing) ∙ take-nil lines)

pub returns-in-Ok-clause-told : goal.returns-in-Ok-clause-told
returns-in-Ok-clause-told g c = λ before told stored walks states sees.
    let begins = subst (λ b. BeginsAt (state_of b c.args.thread) c.in-Some.begun) c.requires.front c.in-Some.ensures in
    let finds = c.in_ok-unwound.ensures.finds before stored c.args.thread sees (λ b has. walks.begins c.args.thread c.in-Some.begun begins b has) in
    let is = subst (λ p. IsWalkOf finds.0 stored c.args.thread p c.in_ok-unwound.unwound.walk) (sym c.in_ok-unwound.ensures.process) finds.3.0 in
    let frames = c.in-Ok.ensures.frames finds.0 stored c.args.thread is finds.3.1 in
    let lines = sym (c.in-Ok.ensures.lines finds.0 stored c.args.thread is finds.3.1 ∙ ap (λ n. take n (sources_of finds.0 stored c.args.thread)) c.lines_for-lines.ensures) in
    (finds.0, finds.1.own, finds.2.0, states finds.0 finds.2, frames, lines)
