use Rattle.std.proofs.Common.{sym, subst, ◌∙◌}
use Rattle.case_queries.proofs.FindLemmas.{still_sized}
use Rattle.elf_view.specs.declared.faults.Want.TheVariants.{Core}
use Rattle.case_info.specs.Fronts.{IsFront}
use Rattle.case_info.proofs.ScreenLemmas.{bytes_in, front_short, has_still, sound_core}
use Rattle.case_info.proofs.report.page_core.Goals as goal

pub read_stack-requires : goal.read_stack-requires
read_stack-requires g c =
    let seen = c.in_ok-front.ensures in
    has_still g.D.Disk c.args.archive.now c.front_of.new.archive c.args.seq c.in_ok-size.size seen.0 c.in_ok-size.ensures seen.1

pub told_of-requires-clause-has : goal.told_of-requires-clause-has
told_of-requires-clause-has g c = c.in_ok-stack.ensures.has

pub told_of-requires-clause-short : goal.told_of-requires-clause-short
told_of-requires-clause-short g c =
    let seen = c.in_ok-front.ensures in
    let core = c.in-Ok.core in
    let bytes = bytes_in c.core_in-said.result.core core c.deref.result.now c.in-Ok.is c.core_in-said.ensures.bytes ∙ c.deref.ensures.value in
    let own = c.image.ensures ∙ c.elf-elf.ensures.image ∙ bytes in
    front_short g.D.Disk c.args.archive.now c.front_of.new.archive c.args.seq c.in_ok-size.size seen.0 c.in_ok-size.ensures seen.1 c.image.result.now (subst (λ b. IsFront Core b seen.0) (sym own) seen.2)

pub told_of-requires-clause-front : goal.told_of-requires-clause-front
told_of-requires-clause-front g c = sym (c.image.ensures ∙ c.elf-elf.ensures.image)

pub told_of-requires-clause-sound : goal.told_of-requires-clause-sound
told_of-requires-clause-sound g c =
    let elf = c.elf-elf.result in
    sound_core elf.want elf.image.now c.image.result.now c.elf-elf.ensures.want (sym c.image.ensures) elf.whole elf.sound

pub executables_of-requires : goal.executables_of-requires
executables_of-requires g c = c.in_ok-told.ensures.has.1.0

pub debug_files_of-requires : goal.debug_files_of-requires
debug_files_of-requires g c =
    (still_sized g.D.Disk g.met.D.Disk.only_now c.told_of.new.archive c.executables_of.new.archive c.args.seq c.in_ok-size.size _ _ c.in_ok-told.ensures.has c.in_ok-executables.ensures.collects).1.0

pub facts_of-requires-clause-has : goal.facts_of-requires-clause-has
facts_of-requires-clause-has g c =
    let has = still_sized g.D.Disk g.met.D.Disk.only_now c.told_of.new.archive c.executables_of.new.archive c.args.seq c.in_ok-size.size _ _ c.in_ok-told.ensures.has c.in_ok-executables.ensures.collects in
    still_sized g.D.Disk g.met.D.Disk.only_now c.executables_of.new.archive c.debug_files_of.new.archive c.args.seq c.in_ok-size.size _ _ has c.in_ok-debug_files.ensures.collects

pub facts_of-requires-clause-short : goal.facts_of-requires-clause-short
facts_of-requires-clause-short g c =
    let seen = c.in_ok-front.ensures in
    let core = c.in-Ok.core in
    let bytes = bytes_in c.core_in-said.result.core core c.deref.result.now c.in-Ok.is c.core_in-said.ensures.bytes ∙ c.deref.ensures.value in
    let own = c.image.ensures ∙ c.elf-elf.ensures.image ∙ bytes in
    front_short g.D.Disk c.args.archive.now c.front_of.new.archive c.args.seq c.in_ok-size.size seen.0 c.in_ok-size.ensures seen.1 c.image.result.now (subst (λ b. IsFront Core b seen.0) (sym own) seen.2)

pub facts_of-requires-clause-front : goal.facts_of-requires-clause-front
facts_of-requires-clause-front g c = sym (c.image.ensures ∙ c.elf-elf.ensures.image)

pub facts_of-requires-clause-sound : goal.facts_of-requires-clause-sound
facts_of-requires-clause-sound g c =
    let elf = c.elf-elf.result in
    sound_core elf.want elf.image.now c.image.result.now c.elf-elf.ensures.want (sym c.image.ensures) elf.whole elf.sound
