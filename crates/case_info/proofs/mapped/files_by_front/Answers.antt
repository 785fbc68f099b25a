use Rattle.std.proofs.Common.{List, ℕ, length, ◌≤◌, map, Ok, None, refl, ap, sym, subst, ◌∙◌}
use Rattle.build_replies.specs.Mapped.{told_view}
use Rattle.build_replies.specs.Builds.{builds_of}
use Rattle.case_queries.specs.CollectingWords.{executable_view}
use Rattle.case_queries.specs.declared.walk.CaseImage.{CaseImage}
use Rattle.case_queries.proofs.FindLemmas.{still_pieces, still_sized}
use Rattle.case_queries.proofs.WindowLemmas.{seen_reads, sized}
use Rattle.elf_view.specs.declared.faults.Want.TheVariants.{Core}
use Rattle.case_info.specs.Fronts.{IsFront}
use Rattle.case_info.specs.Gathering.{files_with}
use Rattle.case_info.proofs.ScreenLemmas.{bytes_in, front_again, sound_core}
use Rattle.case_info.proofs.GatherLemmas.{asks_fault, asks_builds, files_by, passes_core, passes_ok}
use Rattle.case_info.proofs.mapped.files_by_front.Goals as goal

pub told_of-requires-clause-short : goal.told_of-requires-clause-short
told_of-requires-clause-short g c =
    let bytes = bytes_in c.core_in.result.core c.in-Ok.core c.args.image.front.now c.in-Ok.is c.core_in.ensures.bytes in
    subst (λ (b : List ℕ). length b ≤ c.args.image.size) (sym (c.image.ensures ∙ c.elf-elf.ensures.image ∙ bytes)) c.requires.short

pub told_of-requires-clause-front : goal.told_of-requires-clause-front
told_of-requires-clause-front g c = sym (c.image.ensures ∙ c.elf-elf.ensures.image)

pub told_of-requires-clause-sound : goal.told_of-requires-clause-sound
told_of-requires-clause-sound g c =
    let elf = c.elf-elf.result in
    sound_core elf.want elf.image.now c.image.result.now c.elf-elf.ensures.want (sym c.image.ensures) elf.whole elf.sound

pub executables_of-requires : goal.executables_of-requires
executables_of-requires g c = c.in_ok-told.ensures.has.1.0

pub builds_of-requires-clause-has : goal.builds_of-requires-clause-has
builds_of-requires-clause-has g c =
    still_sized g.D.Disk g.met.D.Disk.only_now c.told_of.new.archive c.executables_of.new.archive c.args.image.seq c.args.image.size _ _ c.in_ok-told.ensures.has c.in_ok-executables.ensures.collects

pub builds_of-requires-clause-short : goal.builds_of-requires-clause-short
builds_of-requires-clause-short g c =
    let bytes = bytes_in c.core_in.result.core c.in-Ok.core c.args.image.front.now c.in-Ok.is c.core_in.ensures.bytes in
    subst (λ (b : List ℕ). length b ≤ c.args.image.size) (sym (c.image.ensures ∙ c.elf-elf.ensures.image ∙ bytes)) c.requires.short

pub builds_of-requires-clause-front : goal.builds_of-requires-clause-front
builds_of-requires-clause-front g c = sym (c.image.ensures ∙ c.elf-elf.ensures.image)

pub builds_of-requires-clause-sound : goal.builds_of-requires-clause-sound
builds_of-requires-clause-sound g c =
    let elf = c.elf-elf.result in
    sound_core elf.want elf.image.now c.image.result.now c.elf-elf.ensures.want (sym c.image.ensures) elf.whole elf.sound

pub returns-in_default-clause-sees : goal.returns-in_default-clause-sees
returns-in_default-clause-sees g c = λ old has seen.
    let mid = c.args.archive.now in
    let says = c.core_in.ensures.says seen.0 seen.2 in
    (None, (seen.0, mid, seen.1, asks_fault g.D.Disk old mid c.args.image.seq seen.0 c.core_in.result.core _ says.notes_are c.in_default.is), ap (map _) c.new-none.ensures.items)

pub returns-in_default-clause-passes : goal.returns-in_default-clause-passes
returns-in_default-clause-passes g c = λ whole is. passes_ok _ (Ok c.new-none.result) c.new-none.result refl

pub returns-in_err-told-clause-passes : goal.returns-in_err-told-clause-passes
returns-in_err-told-clause-passes g c = λ whole is. passes_core _ c.core_in.result.core c.in-Ok.core _ (c.core_in.ensures.says whole is).notes_are c.in-Ok.is

pub returns-in_err-executables-clause-passes : goal.returns-in_err-executables-clause-passes
returns-in_err-executables-clause-passes g c = λ whole is. passes_core _ c.core_in.result.core c.in-Ok.core _ (c.core_in.ensures.says whole is).notes_are c.in-Ok.is

pub returns-in_err-facts-clause-passes : goal.returns-in_err-facts-clause-passes
returns-in_err-facts-clause-passes g c = λ whole is. passes_core _ c.core_in.result.core c.in-Ok.core _ (c.core_in.ensures.says whole is).notes_are c.in-Ok.is

pub returns-in_err-kept_files-clause-passes : goal.returns-in_err-kept_files-clause-passes
returns-in_err-kept_files-clause-passes g c = λ whole is. passes_core _ c.core_in.result.core c.in-Ok.core _ (c.core_in.ensures.says whole is).notes_are c.in-Ok.is

pub returns-clause-passes : goal.returns-clause-passes
returns-clause-passes g c = λ whole is. passes_core _ c.core_in.result.core c.in-Ok.core _ (c.core_in.ensures.says whole is).notes_are c.in-Ok.is

pub returns-clause-sees : goal.returns-clause-sees
returns-clause-sees g c = λ old has seen.
    let seq = c.args.image.seq in
    let size = c.args.image.size in
    let first = c.args.archive.now in
    let mid = c.told_of.new.archive in
    let read = c.executables_of.new.archive in
    let new = c.builds_of.new.archive in
    let core = c.in-Ok.core in
    let o : CaseImage = record { seq = seq; size = size; front = c.image.result } in
    let own = c.image.ensures ∙ c.elf-elf.ensures.image ∙ bytes_in c.core_in.result.core core c.args.image.front.now c.in-Ok.is c.core_in.ensures.bytes in
    let begins = subst (λ b. IsFront Core b seen.0) (sym own) seen.2 in
    let told = c.in_ok-told.told in
    let sees = c.in_ok-told.ensures.sees old (seen_reads g.D.Disk old first seq seen.0 o.front.now seen.1 begins.begins) in
    let image = sees.0 in
    let is = front_again Core o.front.now seen.0 image size (sized g.D.Disk old first seq size seen.0 has seen.1) sees.2.0 begins in
    let says = c.core_in.ensures.says image (subst (λ b. IsFront Core b image) own is) in
    let xs = map executable_view c.in_ok-executables.executables.items in
    let facts = c.in_ok-facts.facts in
    let found = c.in_ok-facts.ensures old (still_pieces g.D.Disk g.met.D.Disk.only_now old mid read o told.pieces.items _ xs sees c.in_ok-executables.ensures.collects) in
    let views = ap (map executable_view) c.deref.ensures.value in (
      builds_of found.image xs,
      (
        image,
        mid,
        sees.1,
        asks_builds g.D.Disk old mid seq image new _ c.core_in.result.core core says.notes_are c.in-Ok.is
            record {
              told = told_view told.files;
              states = c.in_ok-told.ensures.told.told image sees.2;
              executables = xs;
              read = read;
              collects = c.in_ok-executables.ensures.collects;
              again = found.image;
              seen = found.seen;
              still = found.states;
              values_are = refl;
            },
      ),
      c.in_ok-kept_files.ensures ∙ files_by c.builds_in.result facts.builds c.builds_in.ensures ∙ ap files_with (sym found.builds) ∙ ap (λ ys. files_with (builds_of found.image ys)) views,
    )
