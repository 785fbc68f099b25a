-- What the code's source lines of frames mean.
use Rattle.std.specs.Prelude.{ℕ, List, Option, map}
use Rattle.std.specs.Option.{option_map}
use Rattle.frame_replies.specs.Line.{SourceView}
use Rattle.frame_replies.specs.LineWords.{source_view}
use Rattle.frame_replies.specs.FrameSources.{line_at, source_line}
use Rattle.frame_replies.specs.FrameValues.{frame_view}
use Rattle.frame_replies.specs.declared.values.FrameAnswer.{FrameAnswer}
use Rattle.frame_replies.specs.declared.values.FramesAnswer.{FramesAnswer}

-- the source lines of the first frames
abbrev pub lines_view : FramesAnswer → List (Option SourceView)
lines_view a = map (option_map source_view) a.lines.items

-- the line of a frame with its source line
abbrev pub sourced_line : List (Option SourceView) → ℕ → FrameAnswer → List ℕ
sourced_line lines i f = source_line i (frame_view f) (line_at lines i)
