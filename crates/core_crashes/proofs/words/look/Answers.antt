use Rattle.std.proofs.Common.{map, ap, ◌∙◌}
use Rattle.seen_memory.specs.declared.memory.SeenMemory.{SeenMemory}
use Rattle.core_crashes.specs.CaseReading.{lent_view}
use Rattle.core_crashes.proofs.CaseReadingLemmas.{seen_in}
use Rattle.core_crashes.proofs.words.look.Goals as goal

pub returns : goal.returns
returns c =
    let m : SeenMemory = record { space = c.args.space; front = c.args.front; size = c.args.size; parts = c.deref.result; own = c.requires } in
    seen_in m c.args.pieces.now c.args.address c.word.result (ap (map lent_view) c.deref.ensures.value ∙ c.in_ok-parts.ensures) c.word.ensures
