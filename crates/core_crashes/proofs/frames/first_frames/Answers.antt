use Rattle.std.proofs.Common.{◌≡◌, length, map, min, take, sym, ap, ◌∙◌, arith}
use Rattle.std.proofs.lemmas.List.{take-map, take_min}
use Rattle.frame_replies.specs.FrameValues.{frame_view}
use Rattle.core_crashes.proofs.frames.first_frames.Goals as goal

pub returns-clause-value : goal.returns-clause-value
returns-clause-value c =
    let xs = c.args.frames.now in
    let most : c.min.result ≡ min c.args.most (length xs) = omega (arith, c.min.ensures) in
    ap (λ n. map frame_view (take n xs)) most ∙ ap (map frame_view) (take_min c.args.most xs) ∙ sym (take-map frame_view c.args.most xs)
