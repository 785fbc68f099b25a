use Rattle.script_lines.proofs.QueryLemmas.{query_line}
use Rattle.script_lines.proofs.laws.every_query_can_be_said.Goals as goal

pub returns : goal.returns
returns c = λ seq query some small fits. query_line c.printed_numbers_are_read_again.ensures.in_decimal c.printed_bytes_are_read_again.ensures seq some small query fits
