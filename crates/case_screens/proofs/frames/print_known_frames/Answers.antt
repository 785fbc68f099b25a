use Rattle.std.proofs.Common.{◌≡◌, List, Option, ap, ◌∙◌, length, map, min, option_map, take, arith}
use Rattle.std.proofs.lemmas.List.{take_min}
use Rattle.core_notes.specs.FileWords.{files_bytes}
use Rattle.frame_replies.specs.SourceWords.{lines_view}
use Rattle.image_replies.specs.Lines.{numbered_lines}
use Rattle.frame_replies.specs.LineWords.{source_view}
use Rattle.frame_replies.specs.declared.source_line.SourceLine.{SourceLine}
use Rattle.script_streams.specs.PrintLaws.{prints_then, prints_as}
use Rattle.case_screens.specs.Core.{files_in}
use Rattle.case_screens.specs.Frames.{frame_row, more_text}
use Rattle.case_screens.proofs.frames.print_known_frames.Goals as goal

pub returns : goal.returns
returns g c =
    let row = frame_row (files_in (option_map files_bytes c.args.files)) in
    let frames = c.args.answer.now.frames.items in
    let most : c.min.result ≡ min 20 (length frames) = omega (arith, c.min.ensures, c.len-count.ensures) in
    let all : c.len-count.result ≡ length frames = omega (arith, c.len-count.ensures, c.args.answer.now.frames.ok) in
    let shown = c.split_at.ensures.front ∙ ap (λ n. take n c.deref.result.now) most ∙ ap (take (min 20 (length frames))) c.deref.ensures.value ∙ take_min 20 frames in
    let rows = ap (λ (ls : List (Option SourceLine)). numbered_lines (row (map (option_map source_view) ls)) 0 c.split_at.result.0.now) c.deref-2.ensures.value
    ∙ ap (numbered_lines (row (lines_view c.args.answer.now)) 0) shown in
    prints_then (prints_as rows c.print_rows.ensures)
    (prints_then (prints_as (ap more_text all) c.print_more.ensures)
    (prints_then c.print.ensures c.print_stop.ensures))
