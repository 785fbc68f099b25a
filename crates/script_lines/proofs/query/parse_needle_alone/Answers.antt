use Rattle.script_lines.proofs.NeedleLemmas.{needle_some}
use Rattle.script_lines.proofs.query.parse_needle_alone.Goals as goal

pub invariant_of-result : goal.invariant_of-result
invariant_of-result c = record { some = needle_some c.in_ok-needle.needle.now c.in_ok-bytes.bytes.items c.in_ok-bytes.ensures }
