use Rattle.elf_view.proofs.FrontHeaders.{header_same, segments_same}
use Rattle.elf_view.proofs.FrontWhole.{notes_same}
use Rattle.elf_view.proofs.FrontSound.{sound_whole}
use Rattle.elf_view.proofs.laws.a_sound_front_is_enough.Goals as goal

pub returns-clause-header : goal.returns-clause-header
returns-clause-header c = λ b n whole. header_same n b whole

pub returns-clause-segments : goal.returns-clause-segments
returns-clause-segments c = λ b n whole. segments_same n b whole

pub returns-clause-notes : goal.returns-clause-notes
returns-clause-notes c = λ want b n whole sound. notes_same want n b whole sound

pub returns-clause-sound : goal.returns-clause-sound
returns-clause-sound c = λ want b n whole sound. sound_whole want n b whole sound
