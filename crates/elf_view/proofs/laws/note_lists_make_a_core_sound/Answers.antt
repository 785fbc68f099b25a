use Rattle.elf_view.specs.Header.{segments_of}
use Rattle.elf_view.proofs.Grammar.{each_whole}
use Rattle.elf_view.proofs.Rows.{core_sound}
use Rattle.elf_view.proofs.laws.note_lists_make_a_core_sound.Goals as goal

pub returns : goal.returns
returns c = λ b header segments notes. core_sound b header segments (each_whole (segments_of b) notes)
