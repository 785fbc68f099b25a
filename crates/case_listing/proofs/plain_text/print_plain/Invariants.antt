use Rattle.std.proofs.Common.{◌≡◌, ◌++◌, List, ℕ, length}
use Rattle.script_streams.specs.Printing.{Prints, sink}
use Rattle.case_listing.specs.PlainText.{plain_of}
use Rattle.case_listing.proofs.plain_text.print_plain.Given as goal

abbrev pub invariant-loop-rest : goal.invariant-loop-rest
invariant-loop-rest g l = record {
  front : List ℕ;
  split : plain_of l.text ≡ front ++ plain_of l.rest;
  told : Prints (sink g.O.Output l.initial.reply) (sink g.O.Output l.reply) front;
}

abbrev pub decreases-loop-rest : goal.decreases-loop-rest
decreases-loop-rest g l = length l.rest
