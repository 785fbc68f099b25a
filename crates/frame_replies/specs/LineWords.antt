-- What the code's source lines mean.
use Rattle.std.specs.Prelude.{Result, Ok, Err}
use Rattle.line_tables.specs.declared.faults.NoLine.{NoLine}
use Rattle.frame_replies.specs.Line.{SourceView}
use Rattle.frame_replies.specs.declared.source_line.SourceLine.{SourceLine}

abbrev pub source_view : SourceLine → SourceView
source_view s = record { file = s.file.items; line = s.line }

abbrev pub source_result : Result SourceLine NoLine → Result SourceView NoLine
source_result (Ok s) = Ok (source_view s)
source_result (Err e) = Err e
