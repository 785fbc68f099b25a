use Rattle.script_streams.specs.PrintLaws.{prints_then}
use Rattle.image_replies.proofs.threads.print_thread_list.Goals as goal

pub returns : goal.returns
returns g c = prints_then c.print_thread_lines.ensures c.print_ok.ensures
