use Rattle.std.proofs.Common.{ℕ, List, Ok, length, refl, ◌++◌, ◌≤◌, map, ap, sym, subst, ◌∙◌}
use Rattle.address_space.specs.Source.{ExecutableView}
use Rattle.build_replies.specs.Builds.{builds_of, told_or_none}
use Rattle.build_replies.specs.Mapped.{told_view}
use Rattle.case_queries.specs.Collecting.{CollectsAll, debugs_by}
use Rattle.case_queries.specs.CollectingWords.{executable_view}
use Rattle.case_queries.specs.declared.walk.CaseImage.{CaseImage}
use Rattle.case_queries.proofs.FindLemmas.{still_pieces, still_sized}
use Rattle.case_queries.proofs.WindowLemmas.{seen_reads, sized}
use Rattle.elf_view.specs.declared.faults.Want.TheVariants.{Core}
use Rattle.intake.specs.Parts.{state_of}
use Rattle.case_info.specs.Fronts.{IsFront}
use Rattle.case_info.specs.Unpacking.{unpacked_with}
use Rattle.case_info.proofs.ScreenLemmas.{bytes_in, front_again, sound_core}
use Rattle.case_info.proofs.UnpackLemmas.{asks_faulty, asks_unpacked, unpacked_by}
use Rattle.case_info.proofs.unpacking.unpacking_by_front.Goals as goal

pub told_of-requires-clause-short : goal.told_of-requires-clause-short
told_of-requires-clause-short g c =
    let bytes = bytes_in c.core_in.result.core c.in-Ok.core c.args.image.front.now c.in-Ok.is c.core_in.ensures.bytes in
    subst (λ (b : List ℕ). length b ≤ c.args.image.size) (sym (c.image.ensures ∙ c.elf-elf.ensures.image ∙ bytes)) c.requires.short

pub told_of-requires-clause-front : goal.told_of-requires-clause-front
told_of-requires-clause-front g c = sym (c.image.ensures ∙ c.elf-elf.ensures.image)

pub told_of-requires-clause-sound : goal.told_of-requires-clause-sound
told_of-requires-clause-sound g c =
    let elf = c.elf-elf.result in
    sound_core elf.want elf.image.now c.image.result.now c.elf-elf.ensures.want (sym c.image.ensures) elf.whole elf.sound

pub executables_of-requires : goal.executables_of-requires
executables_of-requires g c = c.in_ok-told.ensures.has.1.0

pub debug_files_of-requires : goal.debug_files_of-requires
debug_files_of-requires g c =
    (still_sized g.D.Disk g.met.D.Disk.only_now c.told_of.new.archive c.executables_of.new.archive c.args.image.seq c.args.image.size _ _ c.in_ok-told.ensures.has c.in_ok-executables.ensures.collects).1.0

pub stored_facts-requires-clause-has : goal.stored_facts-requires-clause-has
stored_facts-requires-clause-has g c =
    let o = c.args.image in
    let has = still_sized g.D.Disk g.met.D.Disk.only_now c.told_of.new.archive c.executables_of.new.archive o.seq o.size _ _ c.in_ok-told.ensures.has c.in_ok-executables.ensures.collects in
    still_sized g.D.Disk g.met.D.Disk.only_now c.executables_of.new.archive c.debug_files_of.new.archive o.seq o.size _ _ has c.in_ok-debug_files.ensures.collects

pub stored_facts-requires-clause-short : goal.stored_facts-requires-clause-short
stored_facts-requires-clause-short g c =
    let bytes = bytes_in c.core_in.result.core c.in-Ok.core c.args.image.front.now c.in-Ok.is c.core_in.ensures.bytes in
    subst (λ (b : List ℕ). length b ≤ c.args.image.size) (sym (c.image.ensures ∙ c.elf-elf.ensures.image ∙ bytes)) c.requires.short

pub stored_facts-requires-clause-front : goal.stored_facts-requires-clause-front
stored_facts-requires-clause-front g c = sym (c.image.ensures ∙ c.elf-elf.ensures.image)

pub stored_facts-requires-clause-sound : goal.stored_facts-requires-clause-sound
stored_facts-requires-clause-sound g c =
    let elf = c.elf-elf.result in
    sound_core elf.want elf.image.now c.image.result.now c.elf-elf.ensures.want (sym c.image.ensures) elf.whole elf.sound

pub returns-in-Err : goal.returns-in-Err
returns-in-Err g c = λ old has seen.
    let mid = c.args.archive.now in
    let says = c.core_in.ensures.says seen.0 seen.2 in
    (seen.0, mid, seen.1, asks_faulty g.D.Disk old mid c.args.image.seq seen.0 c.without_files.result c.core_in.result.core says.notes_are c.in-Err.fault c.in-Err.is c.without_files.ensures)

pub returns : goal.returns
returns g c = λ old has seen.
    let seq = c.args.image.seq in
    let size = c.args.image.size in
    let first = c.args.archive.now in
    let mid = c.told_of.new.archive in
    let read = c.executables_of.new.archive in
    let last = c.debug_files_of.new.archive in
    let new = c.stored_facts.new.archive in
    let core = c.in-Ok.core in
    let o : CaseImage = record { seq = seq; size = size; front = c.image.result } in
    let own = c.image.ensures ∙ c.elf-elf.ensures.image ∙ bytes_in c.core_in.result.core core c.args.image.front.now c.in-Ok.is c.core_in.ensures.bytes in
    let begins = subst (λ b. IsFront Core b seen.0) (sym own) seen.2 in
    let told = c.in_ok-told.told in
    let sees = c.in_ok-told.ensures.sees old (seen_reads g.D.Disk old first seq seen.0 o.front.now seen.1 begins.begins) in
    let image = sees.0 in
    let is = front_again Core o.front.now seen.0 image size (sized g.D.Disk old first seq size seen.0 has seen.1) sees.2.0 begins in
    let says = c.core_in.ensures.says image (subst (λ b. IsFront Core b image) own is) in
    let xs = map executable_view c.in_ok-executables.executables.items in
    let collects = c.in_ok-executables.ensures.collects in
    let ds = map executable_view c.in_ok-debug_files.debug_files.items in
    let debugs = c.in_ok-debug_files.ensures.collects in
    let facts = c.in_ok-facts.facts in
    let still = still_pieces g.D.Disk g.met.D.Disk.only_now old mid read o told.pieces.items _ xs sees collects in
    let found = c.in_ok-facts.ensures old (still_pieces g.D.Disk g.met.D.Disk.only_now old read last o told.pieces.items _ ds still debugs) in
    let both = ap (λ ys. map executable_view ys ++ map executable_view c.deref-3.result.now) c.deref-2.ensures.value ∙ ap (λ zs. xs ++ map executable_view zs) c.deref-3.ensures.value in
    let files = unpacked_with (state_of new).cases (builds_of found.image (xs ++ ds)) in (
      image,
      mid,
      sees.1,
      asks_unpacked g.D.Disk old mid seq image _ c.core_in.result.core says.notes_are new core files c.in-Ok.is
          record {
            told = told_view told.files;
            states = c.in_ok-told.ensures.told.told image sees.2;
            executables = xs;
            read = read;
            collects = collects;
            debug_files = ds;
            all = last;
            debugs = subst (λ (ys : List ExecutableView). CollectsAll g.D.Disk read (debugs_by (told_or_none (told_view told.files)) ys (state_of read).cases) (Ok ds) last) (ap (map executable_view) c.deref.ensures.value) debugs;
            again = found.image;
            seen = found.seen;
            still = found.states;
            files_are = refl;
          }
          record {
            case = refl;
            kind = refl;
            files_are = c.in_ok-files.ensures ∙ unpacked_by (state_of new).cases c.builds_in.result facts.builds c.builds_in.ensures
                ∙ ap (unpacked_with (state_of new).cases) (sym found.builds) ∙ ap (λ ys. unpacked_with (state_of new).cases (builds_of found.image ys)) both;
            program = c.in_ok-kept_name.ensures ∙ c.program_of.ensures;
            sound = refl;
          },
    )
