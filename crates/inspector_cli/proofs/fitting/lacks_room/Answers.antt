use Rattle.std.proofs.Common.{inl, inr, sym, ◌∙◌}
use Rattle.inspector_cli.proofs.fitting.lacks_room.Goals as goal

pub returns-in-Block-clause-lacks : goal.returns-in-Block-clause-lacks
returns-in-Block-clause-lacks g c = λ lacks. inl (c.lacks_block.ensures.lacks lacks)

pub returns-in-Block-clause-finds : goal.returns-in-Block-clause-finds
returns-in-Block-clause-finds g c = rw c.in-Block.is (λ has. c.lacks_block.ensures.finds has)

pub returns-in-Record-clause-lacks : goal.returns-in-Record-clause-lacks
returns-in-Record-clause-lacks g c = λ lacks. inr (sym c.lacks_record_room.ensures ∙ lacks)

pub returns-in-Record-clause-finds : goal.returns-in-Record-clause-finds
returns-in-Record-clause-finds g c = rw c.in-Record.is (λ has. sym c.lacks_record_room.ensures ∙ has)
