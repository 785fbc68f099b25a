use Rattle.script_streams.specs.PrintLaws.{prints_then}
use Rattle.build_replies.specs.Builds.{wants_line}
use Rattle.case_info.proofs.wanted.print_build.Goals as goal

pub returns : goal.returns
unfolding wants_line
returns g c = prints_then c.print_text.ensures (prints_then c.print.ensures (prints_then c.print_hex.ensures c.print-2.ensures))
