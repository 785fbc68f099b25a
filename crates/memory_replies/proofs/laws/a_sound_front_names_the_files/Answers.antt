use Rattle.std.proofs.Common.{ap}
use Rattle.elf_view.specs.declared.faults.Want.TheVariants.{Core}
use Rattle.core_notes.specs.Typed.{first_desc}
use Rattle.memory_replies.specs.Memory.{files_by}
use Rattle.memory_replies.proofs.laws.a_sound_front_names_the_files.Goals as goal

pub returns : goal.returns
returns c b n whole sound = ap (λ ns. files_by (first_desc 0x46494c45 ns)) (c.a_sound_front_is_enough.ensures.notes Core b n whole sound)
