use Rattle.std.proofs.Common.{◌∙◌, ◌-◌, List, sym, subst, arith, slice_index_or}
use Rattle.std.specs.Vec.{vec_len}
use Rattle.journal_layout.specs.Folding.{nothing_yet}
use Rattle.journal_layout.specs.Stands.{AreRead}
use Rattle.journal_records.specs.Said.{SaysFaulty, said_of}
use Rattle.salvage.proofs.AloneLemmas.{faulty_stored, popped_stored}
use Rattle.salvage.proofs.records.stored.Goals as goal

pub returns-in-Ok-replay-clause-stored : goal.returns-in-Ok-replay-clause-stored
returns-in-Ok-replay-clause-stored c =
    let said = c.in-Ok-replay.said in
    popped_stored c.args.blocks c.args.rest.now c.args.length (omega (arith, c.if-blocks-gt-MOST_BLOCKS.false)) c.requires
    c.pop.result said.entries.items c.pop.new.self.items c.in-Ok.record.items said.next said.size
    c.pop.ensures.items (λ e long. (slice_index_or said.entries.items (vec_len said.entries - 1) e, c.pop.ensures.value e (omega (arith, long, said.entries.ok))))
    c.in-Ok.ensures.is
    (subst (λ (bytes : List _). AreRead c.args.blocks bytes (nothing_yet 2) (said_of 2 said) said.size) c.deref.ensures.value c.in-Ok-replay.ensures.read)

pub returns-clause-stored : goal.returns-clause-stored
returns-clause-stored c =
    faulty_stored c.args.blocks c.args.rest.now c.args.length (omega (arith, c.if-blocks-gt-MOST_BLOCKS.false)) c.requires
    c.in-Err.fault c.in_ok-not_found-in-Err.field-0 c.in-Ok.record.items (sym c.not_found.ensures ∙ c.in_ok-not_found-in-Err.was) c.in-Ok.ensures.is
    (subst (λ (bytes : List _). SaysFaulty c.args.blocks 2 0 bytes c.in-Err.fault) c.deref.ensures.value c.in-Err.ensures.fault)
