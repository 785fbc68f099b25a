use Rattle.std.proofs.Common.{sym, subst, ◌∙◌}
use Rattle.case_queries.proofs.FindLemmas.{still_sized}
use Rattle.elf_view.specs.declared.faults.Want.TheVariants.{Core}
use Rattle.case_info.specs.Fronts.{IsFront}
use Rattle.case_info.proofs.ScreenLemmas.{bytes_in, front_short, has_still, sound_core}
use Rattle.case_info.proofs.words.answer_of_core.Goals as goal

pub told_of-requires-clause-has : goal.told_of-requires-clause-has
told_of-requires-clause-has g c =
    let seen = c.in_ok-front.ensures in
    has_still g.D.Disk c.args.archive.now c.front_of.new.archive c.args.seq c.in_ok-size.size seen.0 c.in_ok-size.ensures seen.1

pub told_of-requires-clause-short : goal.told_of-requires-clause-short
told_of-requires-clause-short g c =
    let seen = c.in_ok-front.ensures in
    let core = c.in-Ok.core in
    let bytes = bytes_in c.core_in.result.core core c.deref.result.now c.in-Ok.is c.core_in.ensures.bytes ∙ c.deref.ensures.value in
    let own = c.image.ensures ∙ c.elf-elf.ensures.image ∙ bytes in
    front_short g.D.Disk c.args.archive.now c.front_of.new.archive c.args.seq c.in_ok-size.size seen.0 c.in_ok-size.ensures seen.1 c.image.result.now (subst (λ b. IsFront Core b seen.0) (sym own) seen.2)

pub told_of-requires-clause-front : goal.told_of-requires-clause-front
told_of-requires-clause-front g c = sym (c.image.ensures ∙ c.elf-elf.ensures.image)

pub told_of-requires-clause-sound : goal.told_of-requires-clause-sound
told_of-requires-clause-sound g c =
    let elf = c.elf-elf.result in
    sound_core elf.want elf.image.now c.image.result.now c.elf-elf.ensures.want (sym c.image.ensures) elf.whole elf.sound

pub executables_of-requires : goal.executables_of-requires
executables_of-requires g c = c.in_ok-told.ensures.has.1.0

pub debug_files_of-requires : goal.debug_files_of-requires
debug_files_of-requires g c =
    (still_sized g.D.Disk g.met.D.Disk.only_now c.told_of.new.archive c.executables_of.new.archive c.args.seq c.in_ok-size.size _ _ c.in_ok-told.ensures.has c.in_ok-executables.ensures.collects).1.0

pub put_pointers-requires-clause-has : goal.put_pointers-requires-clause-has
put_pointers-requires-clause-has g c =
    let has = still_sized g.D.Disk g.met.D.Disk.only_now c.told_of.new.archive c.executables_of.new.archive c.args.seq c.in_ok-size.size _ _ c.in_ok-told.ensures.has c.in_ok-executables.ensures.collects in
    still_sized g.D.Disk g.met.D.Disk.only_now c.executables_of.new.archive c.debug_files_of.new.archive c.args.seq c.in_ok-size.size _ _ has c.in_ok-debug_files.ensures.collects

pub put_thread-requires-clause-has : goal.put_thread-requires-clause-has
put_thread-requires-clause-has g c =
    let has = still_sized g.D.Disk g.met.D.Disk.only_now c.told_of.new.archive c.executables_of.new.archive c.args.seq c.in_ok-size.size _ _ c.in_ok-told.ensures.has c.in_ok-executables.ensures.collects in
    still_sized g.D.Disk g.met.D.Disk.only_now c.executables_of.new.archive c.debug_files_of.new.archive c.args.seq c.in_ok-size.size _ _ has c.in_ok-debug_files.ensures.collects

pub put_thread-requires-clause-short : goal.put_thread-requires-clause-short
put_thread-requires-clause-short g c =
    let seen = c.in_ok-front.ensures in
    let core = c.in-Ok.core in
    let bytes = bytes_in c.core_in.result.core core c.deref.result.now c.in-Ok.is c.core_in.ensures.bytes ∙ c.deref.ensures.value in
    let own = c.image.ensures ∙ c.elf-elf.ensures.image ∙ bytes in
    front_short g.D.Disk c.args.archive.now c.front_of.new.archive c.args.seq c.in_ok-size.size seen.0 c.in_ok-size.ensures seen.1 c.image.result.now (subst (λ b. IsFront Core b seen.0) (sym own) seen.2)

pub put_thread-requires-clause-front : goal.put_thread-requires-clause-front
put_thread-requires-clause-front g c = sym (c.image.ensures ∙ c.elf-elf.ensures.image)

pub put_thread-requires-clause-sound : goal.put_thread-requires-clause-sound
put_thread-requires-clause-sound g c =
    let elf = c.elf-elf.result in
    sound_core elf.want elf.image.now c.image.result.now c.elf-elf.ensures.want (sym c.image.ensures) elf.whole elf.sound
