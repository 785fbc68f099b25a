use Rattle.std.proofs.Common.{ap}
use Rattle.script_streams.specs.PrintLaws.{prints_then, prints_as}
use Rattle.image_replies.specs.Header.{header_line, segment_lines}
use Rattle.image_replies.proofs.header.print_headers.Goals as goal

pub returns : goal.returns
returns g c =
    prints_then
    (prints_then (prints_as (ap header_line c.header.ensures) c.print_header_line.ensures) (prints_as (ap segment_lines c.segments.ensures.headers) c.print_segment_lines.ensures))
    c.print_ok.ensures
