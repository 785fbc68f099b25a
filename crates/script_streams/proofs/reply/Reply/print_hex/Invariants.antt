use Rattle.std.proofs.Common.{◌≡◌, ◌++◌, List, ℕ, length}
use Rattle.std.specs.List.{flat_map}
use Rattle.script_words.specs.Hex.{hex_pair}
use Rattle.script_streams.specs.Printing.{Prints, sink}
use Rattle.script_streams.proofs.reply.Reply.print_hex.Given as goal

abbrev pub invariant-loop-rest : goal.invariant-loop-rest
invariant-loop-rest g l = record {
  front : List ℕ;
  split : front ++ l.rest ≡ l.bytes;
  told : Prints (sink g.O.Output l.initial.self) (sink g.O.Output l.self) (flat_map hex_pair front);
}

abbrev pub decreases-loop-rest : goal.decreases-loop-rest
decreases-loop-rest g l = length l.rest
