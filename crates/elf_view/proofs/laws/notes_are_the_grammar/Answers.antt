use Rattle.elf_view.specs.Header.{segments_of}
use Rattle.elf_view.proofs.FirstFault.{sound_notes}
use Rattle.elf_view.proofs.Grammar.{again, by_segment, each_found}
use Rattle.elf_view.proofs.laws.notes_are_the_grammar.Goals as goal

pub returns-clause-by_segment : goal.returns-clause-by_segment
returns-clause-by_segment c = λ b. by_segment (segments_of b)

pub returns-clause-found : goal.returns-clause-found
returns-clause-found c = λ b sound. each_found (segments_of b) (sound_notes b sound)

pub returns-clause-only : goal.returns-clause-only
returns-clause-only c = again
