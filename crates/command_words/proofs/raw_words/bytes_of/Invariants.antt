use Rattle.std.proofs.Common.{◌≡◌}
use Rattle.std.specs.List.{flat_map}
use Rattle.command_words.specs.RawWords.{bytes_kept}
use Rattle.command_words.proofs.raw_words.bytes_of.Given as goal

abbrev pub invariant-loop-character : goal.invariant-loop-character
invariant-loop-character l = l.bytes.items ≡ flat_map bytes_kept l.yielded
