use Rattle.std.proofs.Common.{take}
use Rattle.elf_view.specs.declared.faults.Want.TheVariants.{Core}
use Rattle.memory_replies.proofs.FrontLemmas.{maps_answered}
use Rattle.memory_replies.proofs.laws.a_sound_front_shows_the_mappings.Goals as goal

pub returns : goal.returns
returns c b n whole sound =
    maps_answered (take n b) b (c.a_sound_front_is_enough.ensures.segments b n whole) (c.a_sound_front_is_enough.ensures.notes Core b n whole sound)
    (c.a_sound_front_answers.ensures.fault b n whole sound)
