use Rattle.std.proofs.Common.{sym, subst}
use Rattle.elf_view.specs.NoteList.{all_rests}
use Rattle.elf_view.specs.Sound.{AreNotesWhole, IsSound}
use Rattle.elf_view.proofs.FirstFault.{sound_notes}
use Rattle.elf_view.proofs.view.Elf.notes.Goals as goal

pub new-requires : goal.new-requires
new-requires c =
    let b = c.args.self.now.image.now in
    subst (λ segments. AreNotesWhole (all_rests segments)) (sym c.segments.ensures.headers) (sound_notes b (subst (λ want. IsSound want b) c.in-Core.is c.args.self.now.sound))
