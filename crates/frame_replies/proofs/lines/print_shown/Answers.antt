use Rattle.std.proofs.Common.{◌≡◌, ◌∙◌, List, Option, map, ap, sym}
use Rattle.std.specs.Option.{option_map}
use Rattle.address_space.specs.SpaceWords.{space_of}
use Rattle.image_replies.specs.Lines.{numbered_lines}
use Rattle.frame_replies.specs.LineWords.{source_view}
use Rattle.frame_replies.specs.declared.source_line.SourceLine.{SourceLine}
use Rattle.script_streams.specs.PrintLaws.{prints_as}
use Rattle.frame_replies.specs.FrameSources.{frame_source, line_at, shown_line, source_line}
use Rattle.frame_replies.specs.FrameValues.{frame_view}
use Rattle.frame_replies.specs.ProcessWords.{named_in}
use Rattle.frame_replies.specs.SourceWords.{sourced_line}
use Rattle.frame_replies.specs.WalkLaws.{numbered_map}
use Rattle.frame_replies.specs.Walking.{walked_line, walked_value}
use Rattle.frame_replies.specs.declared.values.FrameAnswer.{FrameAnswer}
use Rattle.frame_replies.specs.declared.lines.Shown.TheVariants.{Source}
use Rattle.frame_replies.proofs.SourceLemmas.{lines_by_number}
use Rattle.frame_replies.proofs.lines.print_shown.Goals as goal

pub returns-in_ok-lines-in-Source : goal.returns-in_ok-lines-in-Source
returns-in_ok-lines-in-Source g c =
    let p = c.args.process.now in
    let files = (space_of p.space).files in
    let named = named_in p.executables.now.images in
    let frames = c.args.frames.now in
    let values = c.in_ok-values-in-Source.values.items in
    let lines = map (option_map source_view) c.in_ok-lines-in-Source.lines.items in
    let source = frame_source files named in
    let known : lines ≡ map source (map frame_view values) = c.in_ok-lines-in-Source.ensures ∙ ap (λ (fs : List FrameAnswer). map source (map frame_view fs)) c.deref.ensures.value in
    let same = ap (λ (ls : List (Option SourceLine)). numbered_lines (sourced_line (map (option_map source_view) ls)) 0 c.deref-in-Source.result.now) c.deref-in-Source-2.ensures.value
    ∙ ap (numbered_lines (sourced_line lines) 0) c.deref-in-Source.ensures.value
    ∙ numbered_map (λ k v. source_line k v (line_at lines k)) frame_view 0 values
    ∙ lines_by_number lines source (map frame_view values) known
    ∙ ap (numbered_lines (shown_line Source files named) 0) c.in_ok-values-in-Source.ensures
    ∙ sym (numbered_map (shown_line Source files named) (walked_value files named) 0 frames)
    ∙ ap (λ s. numbered_lines (walked_line s files named) 0 frames) (sym c.in-Source.is) in
    prints_as same c.print_source_lines.ensures
