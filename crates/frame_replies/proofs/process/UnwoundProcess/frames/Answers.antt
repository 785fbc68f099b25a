use Rattle.std.proofs.Common.{◌≡◌, List, Some, length, map, min, take, sym, ap, ◌∙◌, arith}
use Rattle.std.proofs.lemmas.List.{take-map, take_min}
use Rattle.address_space.specs.SpaceWords.{space_of}
use Rattle.frame_replies.specs.FrameSources.{frame_source}
use Rattle.frame_replies.specs.FrameValues.{FrameValue, frame_view}
use Rattle.frame_replies.specs.ProcessWords.{named_in}
use Rattle.frame_replies.specs.WalkLaws.{walk_sources, walk_values}
use Rattle.frame_replies.specs.Walking.{walked_value}
use Rattle.frame_replies.specs.declared.values.FrameAnswer.{FrameAnswer}
use Rattle.frame_replies.proofs.process.UnwoundProcess.frames.Goals as goal

pub returns-clause-frames : goal.returns-clause-frames
returns-clause-frames c = λ image xs thread is ended.
    let p = c.args.self.now in
    let value = walked_value (space_of p.space).files (named_in p.executables.now.images) in
    let all = c.in_ok-frames.ensures ∙ ap (map value) c.deref.ensures.value in
    sym (ap (λ (vs : List FrameValue). Some (record { frames = vs; stop = c.args.stop })) all ∙ walk_values image xs thread p c.args.walk.now c.args.stop is ended)

pub returns-clause-lines : goal.returns-clause-lines
returns-clause-lines c = λ image xs thread is ended.
    let p = c.args.self.now in
    let value = walked_value (space_of p.space).files (named_in p.executables.now.images) in
    let source = frame_source (space_of p.space).files (named_in p.executables.now.images) in
    let n = c.args.lines in
    let frames = c.in_ok-frames.frames.items in
    let most : c.min.result ≡ min n (length frames) = omega (arith, c.min.ensures, c.len.ensures) in
    let first = c.split_at.ensures.front ∙ ap (λ k. take k c.deref-2.result.now) most ∙ ap (take (min n (length frames))) c.deref-2.ensures.value ∙ take_min n frames in
    let all = c.in_ok-frames.ensures ∙ ap (map value) c.deref.ensures.value in
    c.in_ok-lines.ensures
    ∙ ap (λ (fs : List FrameAnswer). map source (map frame_view fs)) first
    ∙ ap (map source) (sym (take-map frame_view n frames))
    ∙ sym (take-map source n (map frame_view frames))
    ∙ ap (λ (vs : List FrameValue). take n (map source vs)) all
    ∙ ap (take n) (walk_sources image xs thread p c.args.walk.now c.args.stop is ended)
