use Rattle.script_streams.specs.PrintLaws.{prints_then}
use Rattle.case_unpacking.proofs.gdb_commands.print_lldb.Goals as goal

pub returns : goal.returns
returns g c = prints_then c.print_folders.ensures (prints_then c.print.ensures (prints_then c.print_program.ensures (prints_then c.print_when.ensures c.print-2.ensures)))
