use Rattle.std.proofs.Common.{List, None, Ok, ◌++◌, map, ap, sym, subst, ◌∙◌}
use Rattle.address_space.specs.Source.{ExecutableView}
use Rattle.build_replies.specs.Builds.{told_or_none}
use Rattle.build_replies.specs.Mapped.{told_view}
use Rattle.case_queries.specs.Collecting.{CollectsAll, debugs_by}
use Rattle.case_queries.specs.CollectingWords.{executable_view}
use Rattle.case_queries.specs.declared.walk.CaseImage.{CaseImage}
use Rattle.case_queries.proofs.FindLemmas.{still_pieces, still_sized}
use Rattle.case_queries.proofs.WindowLemmas.{seen_reads, sized}
use Rattle.case_screens.specs.Core.{notes_read}
use Rattle.case_screens.specs.declared.answer.CoreAnswers.{CoreAnswers}
use Rattle.image_replies.specs.CoreWords.{core_bytes}
use Rattle.intake.specs.Parts.{state_of}
use Rattle.elf_view.specs.declared.faults.Want.TheVariants.{Core}
use Rattle.case_info.specs.Fronts.{IsFront}
use Rattle.case_info.specs.Screens.{screen_lines, shown_count}
use Rattle.case_info.proofs.ScreenLemmas.{asks_none, asks_some, bytes_in, front_again, front_short, has_still, says_same, sound_core}
use Rattle.case_info.proofs.case.core_screen.Goals as goal

pub told_of-requires-clause-has : goal.told_of-requires-clause-has
told_of-requires-clause-has g c =
    let seen = c.in_ok-front.ensures in
    has_still g.D.Disk c.args.archive.now c.front_of.new.archive c.args.seq c.in_ok-size.size seen.0 c.in_ok-size.ensures seen.1

pub told_of-requires-clause-short : goal.told_of-requires-clause-short
told_of-requires-clause-short g c =
    let seen = c.in_ok-front.ensures in
    let core = c.in-Ok.core in
    let bytes = bytes_in c.core_in-said.result.core core c.deref.result.now c.in-Ok.is c.core_in-said.ensures.bytes ∙ c.deref.ensures.value in
    let own = c.image.ensures ∙ c.elf-elf.ensures.image ∙ bytes in
    front_short g.D.Disk c.args.archive.now c.front_of.new.archive c.args.seq c.in_ok-size.size seen.0 c.in_ok-size.ensures seen.1 c.image.result.now (subst (λ b. IsFront Core b seen.0) (sym own) seen.2)

pub told_of-requires-clause-front : goal.told_of-requires-clause-front
told_of-requires-clause-front g c = sym (c.image.ensures ∙ c.elf-elf.ensures.image)

pub told_of-requires-clause-sound : goal.told_of-requires-clause-sound
told_of-requires-clause-sound g c =
    let elf = c.elf-elf.result in
    sound_core elf.want elf.image.now c.image.result.now c.elf-elf.ensures.want (sym c.image.ensures) elf.whole elf.sound

pub executables_of-requires : goal.executables_of-requires
executables_of-requires g c = c.in_ok-told.ensures.has.1.0

pub debug_files_of-requires : goal.debug_files_of-requires
debug_files_of-requires g c =
    (still_sized g.D.Disk g.met.D.Disk.only_now c.told_of.new.archive c.executables_of.new.archive c.args.seq c.in_ok-size.size _ _ c.in_ok-told.ensures.has c.in_ok-executables.ensures.collects).1.0

pub facts_of-requires-clause-has : goal.facts_of-requires-clause-has
facts_of-requires-clause-has g c =
    let has = still_sized g.D.Disk g.met.D.Disk.only_now c.told_of.new.archive c.executables_of.new.archive c.args.seq c.in_ok-size.size _ _ c.in_ok-told.ensures.has c.in_ok-executables.ensures.collects in
    still_sized g.D.Disk g.met.D.Disk.only_now c.executables_of.new.archive c.debug_files_of.new.archive c.args.seq c.in_ok-size.size _ _ has c.in_ok-debug_files.ensures.collects

pub facts_of-requires-clause-short : goal.facts_of-requires-clause-short
facts_of-requires-clause-short g c =
    let seen = c.in_ok-front.ensures in
    let core = c.in-Ok.core in
    let bytes = bytes_in c.core_in-said.result.core core c.deref.result.now c.in-Ok.is c.core_in-said.ensures.bytes ∙ c.deref.ensures.value in
    let own = c.image.ensures ∙ c.elf-elf.ensures.image ∙ bytes in
    front_short g.D.Disk c.args.archive.now c.front_of.new.archive c.args.seq c.in_ok-size.size seen.0 c.in_ok-size.ensures seen.1 c.image.result.now (subst (λ b. IsFront Core b seen.0) (sym own) seen.2)

pub facts_of-requires-clause-front : goal.facts_of-requires-clause-front
facts_of-requires-clause-front g c = sym (c.image.ensures ∙ c.elf-elf.ensures.image)

pub facts_of-requires-clause-sound : goal.facts_of-requires-clause-sound
facts_of-requires-clause-sound g c =
    let elf = c.elf-elf.result in
    sound_core elf.want elf.image.now c.image.result.now c.elf-elf.ensures.want (sym c.image.ensures) elf.whole elf.sound

pub returns-in_default : goal.returns-in_default
returns-in_default g c = λ plain.
    let seen = c.in_ok-front.ensures in
    let mid = c.front_of.new.archive in
    let says = (rw c.deref.ensures.value at c.core_in-said.ensures.says) seen.0 seen.2 in
    let said = c.core_in-said.result in
    let a : CoreAnswers = record { core = said.core; unwound = c.no_frames.result; builds = None; whole = said.whole; unread = said.unread } in
    (seen.0, mid, seen.1, a, says, asks_none g.D.Disk c.args.archive.now mid c.args.seq seen.0 c.args.words a said.core _ c.in_default.is, c.in_ok-put_core.ensures plain)

pub returns : goal.returns
returns g c = λ plain.
    let old = c.args.archive.now in
    let seq = c.args.seq in
    let all = c.args.words in
    let size = c.in_ok-size.size in
    let has = c.in_ok-size.ensures in
    let seen = c.in_ok-front.ensures in
    let first = c.front_of.new.archive in
    let mid = c.told_of.new.archive in
    let read = c.executables_of.new.archive in
    let last = c.debug_files_of.new.archive in
    let new = c.facts_of.new.archive in
    let said = c.core_in-said.result in
    let core = c.in-Ok.core in
    let o : CaseImage = record { seq = seq; size = size; front = c.image.result } in
    let lent = c.image.ensures ∙ c.elf-elf.ensures.image in
    let own = lent ∙ bytes_in said.core core c.deref.result.now c.in-Ok.is c.core_in-said.ensures.bytes ∙ c.deref.ensures.value in
    let begins = subst (λ b. IsFront Core b seen.0) (sym own) seen.2 in
    let told = c.in_ok-told.told in
    let sees = c.in_ok-told.ensures.sees old (seen_reads g.D.Disk old first seq seen.0 o.front.now seen.1 begins.begins) in
    let image = sees.0 in
    let is = front_again Core o.front.now seen.0 image size (sized g.D.Disk old first seq size seen.0 has seen.1) sees.2.0 begins in
    let says = (rw c.deref.ensures.value at c.core_in-said.ensures.says) image (subst (λ b. IsFront Core b image) own is) in
    let xs = map executable_view c.in_ok-executables.executables.items in
    let collects = c.in_ok-executables.ensures.collects in
    let facts = c.in_ok-facts.facts in
    let ds = map executable_view c.in_ok-debug_files.debug_files.items in
    let debugs = c.in_ok-debug_files.ensures.collects in
    let still = still_pieces g.D.Disk g.met.D.Disk.only_now old mid read o told.pieces.items _ xs sees collects in
    let found = c.in_ok-facts.ensures old (still_pieces g.D.Disk g.met.D.Disk.only_now old read last o told.pieces.items _ ds still debugs) in
    let a : CoreAnswers = record { core = said.core; unwound = c.deref-5.result; builds = c.builds_in.result; whole = said.whole; unread = said.unread } in
    let count = ap (shown_count all) (sym (ap notes_read c.in-Ok.is) ∙ says.notes_are) in
    let both = ap (λ ys. map executable_view ys ++ map executable_view c.deref-4.result.now) c.deref-3.ensures.value ∙ ap (λ zs. xs ++ map executable_view zs) c.deref-4.ensures.value in (
      image,
      mid,
      sees.1,
      a,
      says,
      asks_some g.D.Disk old mid seq image all a said.core core new c.in-Ok.is
          record {
            told = told_view told.files;
            states = c.in_ok-told.ensures.told.told image sees.2;
            executables = xs;
            read = read;
            collects = collects;
            debug_files = ds;
            all = last;
            debugs = subst (λ (ys : List ExecutableView). CollectsAll g.D.Disk read (debugs_by (told_or_none (told_view told.files)) ys (state_of read).cases) (Ok ds) last) (ap (map executable_view) c.deref-2.ensures.value) debugs;
            facts = facts;
            says = says_same g.D.Disk old new seq o.front.now (core_bytes core) size _ (told_view told.files) _ (xs ++ ds) _ _ screen_lines facts lent (sym sees.2.0.0) both count found;
            are = record { unwound = c.deref-5.ensures.value; builds = c.builds_in.ensures };
          },
      c.in_ok-put_core-2.ensures plain,
    )
