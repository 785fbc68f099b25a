use Rattle.std.proofs.Common.{◌≡◌, ◌++◌}
use Rattle.std.specs.List.{flat_map}
use Rattle.script_words.specs.Printing.{shown_byte}
use Rattle.command_words.specs.RawWords.{bytes_kept}
use Rattle.command_words.proofs.raw_words.push_escaped.Given as goal

abbrev pub invariant-loop-character : goal.invariant-loop-character
invariant-loop-character l = l.line.items ≡ l.fn.line.items ++ flat_map shown_byte (flat_map bytes_kept l.yielded)
