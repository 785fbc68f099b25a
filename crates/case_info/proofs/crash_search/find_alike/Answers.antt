use Rattle.std.proofs.Common.{List, Ok, ◌++◌, map, ap, refl, sym, subst, ◌∙◌, arith}
use Rattle.address_space.specs.Source.{ExecutableView}
use Rattle.build_replies.specs.Builds.{told_or_none}
use Rattle.build_replies.specs.Mapped.{told_view}
use Rattle.case_queries.specs.Collecting.{CollectsAll, debugs_by}
use Rattle.case_queries.specs.CollectingWords.{executable_view}
use Rattle.case_queries.specs.ExecutableWords.{AreOf}
use Rattle.case_queries.specs.LeaveLaws.{all_leaves, leaves_as}
use Rattle.case_queries.specs.declared.collect_executables.StoredExecutable.{StoredExecutable}
use Rattle.case_queries.specs.declared.walk.CaseImage.{CaseImage}
use Rattle.case_queries.proofs.FindLemmas.{still_pieces, still_sized}
use Rattle.case_queries.proofs.WindowLemmas.{seen_reads, sized}
use Rattle.case_screens.specs.Core.{notes_read}
use Rattle.core_crashes.specs.Views.{crashed_said}
use Rattle.elf_view.specs.declared.faults.Want.TheVariants.{Core}
use Rattle.intake.specs.Parts.{state_of}
use Rattle.intake.specs.State.{ArchiveState}
use Rattle.case_info.specs.Crashes.{SeesCrash, first_thread}
use Rattle.case_info.specs.CrashWords.{StayRead}
use Rattle.case_info.specs.Fronts.{IsFront}
use Rattle.case_info.specs.Screens.{shown_count}
use Rattle.case_info.proofs.CrashLemmas.{asks_crash, asks_fault}
use Rattle.case_info.proofs.ScreenLemmas.{bytes_in, front_again, front_short, has_still, sound_core}
use Rattle.case_info.proofs.SearchLemmas.{added_longer, finds_by, goes_more, goes_then, pieces_again, sees_only, stay_read}
use Rattle.case_info.proofs.crash_search.find_alike.Goals as goal

pub told_of-requires-clause-has : goal.told_of-requires-clause-has
told_of-requires-clause-has g c =
    let seen = c.in_ok-front.ensures in
    has_still g.D.Disk c.args.archive.now c.front_of.new.archive c.args.seq c.in_ok-size.size seen.0 c.in_ok-size.ensures seen.1

pub told_of-requires-clause-short : goal.told_of-requires-clause-short
told_of-requires-clause-short g c =
    let seen = c.in_ok-front.ensures in
    let core = c.in-Ok.core in
    let bytes = bytes_in c.core_in.result.core core c.deref.result.now c.in-Ok.is c.core_in.ensures.bytes ∙ c.deref.ensures.value in
    let own = c.image.ensures ∙ c.elf-elf.ensures.image ∙ bytes in
    front_short g.D.Disk c.args.archive.now c.front_of.new.archive c.args.seq c.in_ok-size.size seen.0 c.in_ok-size.ensures seen.1 c.image.result.now (subst (λ b. IsFront Core b seen.0) (sym own) seen.2)

pub told_of-requires-clause-front : goal.told_of-requires-clause-front
told_of-requires-clause-front g c = sym (c.image.ensures ∙ c.elf-elf.ensures.image)

pub told_of-requires-clause-sound : goal.told_of-requires-clause-sound
told_of-requires-clause-sound g c =
    let elf = c.elf-elf.result in
    sound_core elf.want elf.image.now c.image.result.now c.elf-elf.ensures.want (sym c.image.ensures) elf.whole elf.sound

pub executables_of-requires : goal.executables_of-requires
executables_of-requires g c = c.in_ok-told.ensures.has.1.0

pub debug_files_of-requires : goal.debug_files_of-requires
debug_files_of-requires g c =
    (still_sized g.D.Disk g.met.D.Disk.only_now c.told_of.new.archive c.executables_of.new.archive c.args.seq c.in_ok-size.size _ _ c.in_ok-told.ensures.has c.in_ok-executables.ensures.collects).1.0

pub find_by-requires-clause-has : goal.find_by-requires-clause-has
find_by-requires-clause-has g c =
    let has = still_sized g.D.Disk g.met.D.Disk.only_now c.told_of.new.archive c.executables_of.new.archive c.args.seq c.in_ok-size.size _ _ c.in_ok-told.ensures.has c.in_ok-executables.ensures.collects in
    still_sized g.D.Disk g.met.D.Disk.only_now c.executables_of.new.archive c.debug_files_of.new.archive c.args.seq c.in_ok-size.size _ _ has c.in_ok-debug_files.ensures.collects

pub find_by-requires-clause-short : goal.find_by-requires-clause-short
find_by-requires-clause-short g c =
    let seen = c.in_ok-front.ensures in
    let core = c.in-Ok.core in
    let bytes = bytes_in c.core_in.result.core core c.deref.result.now c.in-Ok.is c.core_in.ensures.bytes ∙ c.deref.ensures.value in
    let own = c.image.ensures ∙ c.elf-elf.ensures.image ∙ bytes in
    front_short g.D.Disk c.args.archive.now c.front_of.new.archive c.args.seq c.in_ok-size.size seen.0 c.in_ok-size.ensures seen.1 c.image.result.now (subst (λ b. IsFront Core b seen.0) (sym own) seen.2)

pub find_by-requires-clause-front : goal.find_by-requires-clause-front
find_by-requires-clause-front g c = sym (c.image.ensures ∙ c.elf-elf.ensures.image)

pub find_by-requires-clause-sound : goal.find_by-requires-clause-sound
find_by-requires-clause-sound g c =
    let elf = c.elf-elf.result in
    sound_core elf.want elf.image.now c.image.result.now c.elf-elf.ensures.want (sym c.image.ensures) elf.whole elf.sound

pub find_by-requires-clause-seen : goal.find_by-requires-clause-seen
find_by-requires-clause-seen g c =
    let old = c.args.archive.now in
    let seq = c.args.seq in
    let size = c.in_ok-size.size in
    let seen = c.in_ok-front.ensures in
    let first = c.front_of.new.archive in
    let mid = c.told_of.new.archive in
    let core = c.in-Ok.core in
    let o : CaseImage = record { seq = seq; size = size; front = c.image.result } in
    let own = c.image.ensures ∙ c.elf-elf.ensures.image ∙ bytes_in c.core_in.result.core core c.deref.result.now c.in-Ok.is c.core_in.ensures.bytes ∙ c.deref.ensures.value in
    let begins = subst (λ b. IsFront Core b seen.0) (sym own) seen.2 in
    let told = c.in_ok-told.told in
    let sees = c.in_ok-told.ensures.sees old (seen_reads g.D.Disk old first seq seen.0 o.front.now seen.1 begins.begins) in
    let read = c.executables_of.new.archive in
    let last = c.debug_files_of.new.archive in
    let xs = map executable_view c.in_ok-executables.executables.items in
    let ds = map executable_view c.in_ok-debug_files.debug_files.items in
    let collects = c.in_ok-executables.ensures.collects in
    let debugs = c.in_ok-debug_files.ensures.collects in
    let still = still_pieces g.D.Disk g.met.D.Disk.only_now old mid read o told.pieces.items _ xs sees collects in
    let all = still_pieces g.D.Disk g.met.D.Disk.only_now old read last o told.pieces.items _ ds still debugs in
    pieces_again g.D.Disk g.met.D.Disk.only_now old last o told.pieces.items all

pub find_by-requires-clause-stored : goal.find_by-requires-clause-stored
find_by-requires-clause-stored g c =
    let old = c.args.archive.now in
    let seq = c.args.seq in
    let size = c.in_ok-size.size in
    let seen = c.in_ok-front.ensures in
    let first = c.front_of.new.archive in
    let mid = c.told_of.new.archive in
    let core = c.in-Ok.core in
    let o : CaseImage = record { seq = seq; size = size; front = c.image.result } in
    let own = c.image.ensures ∙ c.elf-elf.ensures.image ∙ bytes_in c.core_in.result.core core c.deref.result.now c.in-Ok.is c.core_in.ensures.bytes ∙ c.deref.ensures.value in
    let begins = subst (λ b. IsFront Core b seen.0) (sym own) seen.2 in
    let told = c.in_ok-told.told in
    let sees = c.in_ok-told.ensures.sees old (seen_reads g.D.Disk old first seq seen.0 o.front.now seen.1 begins.begins) in
    let read = c.executables_of.new.archive in
    let last = c.debug_files_of.new.archive in
    let xs = map executable_view c.in_ok-executables.executables.items in
    let ds = map executable_view c.in_ok-debug_files.debug_files.items in
    let collects = c.in_ok-executables.ensures.collects in
    let debugs = c.in_ok-debug_files.ensures.collects in
    let still = still_pieces g.D.Disk g.met.D.Disk.only_now old mid read o told.pieces.items _ xs sees collects in
    let all = still_pieces g.D.Disk g.met.D.Disk.only_now old read last o told.pieces.items _ ds still debugs in
    subst (λ cases. AreOf cases c.args.search.now.stored) (sym (ap (λ (s : ArchiveState). s.cases) all.1.state)) c.requires.stored

pub find_by-requires-clause-executables : goal.find_by-requires-clause-executables
find_by-requires-clause-executables g c =
    let mid = c.told_of.new.archive in
    let read = c.executables_of.new.archive in
    let last = c.debug_files_of.new.archive in
    let leaves = all_leaves g.D.Disk read last _ _ c.in_ok-debug_files.ensures.collects in
    subst (λ (xs : List StoredExecutable). StayRead g.D.Disk last xs) (sym c.deref-3.ensures.value)
    (stay_read g.D.Disk g.met.D.Disk.only_now mid read last _ c.in_ok-executables.executables.items leaves c.in_ok-executables.ensures.are c.in_ok-executables.ensures.collects)

pub find_by-requires-clause-debugs : goal.find_by-requires-clause-debugs
find_by-requires-clause-debugs g c =
    let read = c.executables_of.new.archive in
    let last = c.debug_files_of.new.archive in
    subst (λ (xs : List StoredExecutable). StayRead g.D.Disk last xs) (sym c.deref-4.ensures.value)
    (stay_read g.D.Disk g.met.D.Disk.only_now read last last _ c.in_ok-debug_files.debug_files.items (leaves_as g.D.Disk last last refl) c.in_ok-debug_files.ensures.are c.in_ok-debug_files.ensures.collects)

pub returns-in-Err : goal.returns-in-Err
returns-in-Err g c =
    let old = c.args.archive.now in
    let seq = c.args.seq in
    let seen = c.in_ok-front.ensures in
    let mid = c.front_of.new.archive in
    let core = c.core_in.result.core in
    let says = (rw c.deref.ensures.value at c.core_in.ensures.says) seen.0 seen.2 in
    let crash = crashed_said c.in_ok-crash-in-Err.crash in
    let sees : SeesCrash g.D.Disk old seq crash mid = (
      seen.0,
      mid,
      seen.1,
      core,
      says.notes_are,
      asks_fault g.D.Disk old mid seq seen.0 crash core c.in-Err.fault c.in-Err.is c.in_ok-crash-in-Err.ensures,
    ) in
    let s = c.args.search.now in
    let t = c.add_crash.new.search in
    let adds = c.in_ok-add_crash-in-Err.ensures in
    (goes_more g.D.Disk g.met.D.Disk.only_now old mid s t seq crash c.requires.next sees adds, added_longer s t crash adds)

pub returns : goal.returns
returns g c =
    let old = c.args.archive.now in
    let seq = c.args.seq in
    let size = c.in_ok-size.size in
    let seen = c.in_ok-front.ensures in
    let first = c.front_of.new.archive in
    let mid = c.told_of.new.archive in
    let core = c.in-Ok.core in
    let o : CaseImage = record { seq = seq; size = size; front = c.image.result } in
    let own = c.image.ensures ∙ c.elf-elf.ensures.image ∙ bytes_in c.core_in.result.core core c.deref.result.now c.in-Ok.is c.core_in.ensures.bytes ∙ c.deref.ensures.value in
    let begins = subst (λ b. IsFront Core b seen.0) (sym own) seen.2 in
    let told = c.in_ok-told.told in
    let sees = c.in_ok-told.ensures.sees old (seen_reads g.D.Disk old first seq seen.0 o.front.now seen.1 begins.begins) in
    let read = c.executables_of.new.archive in
    let last = c.debug_files_of.new.archive in
    let xs = map executable_view c.in_ok-executables.executables.items in
    let ds = map executable_view c.in_ok-debug_files.debug_files.items in
    let collects = c.in_ok-executables.ensures.collects in
    let debugs = c.in_ok-debug_files.ensures.collects in
    let still = still_pieces g.D.Disk g.met.D.Disk.only_now old mid read o told.pieces.items _ xs sees collects in
    let all = still_pieces g.D.Disk g.met.D.Disk.only_now old read last o told.pieces.items _ ds still debugs in
    let image = sees.0 in
    let long = sized g.D.Disk old first seq size seen.0 c.in_ok-size.ensures seen.1 in
    let is = front_again Core o.front.now seen.0 image size long sees.2.0 begins in
    let says = (rw c.deref.ensures.value at c.core_in.ensures.says) image (subst (λ b. IsFront Core b image) own is) in
    let count = ap (shown_count first_thread) (sym (ap notes_read c.in-Ok.is) ∙ says.notes_are) in
    let both = ap (λ ys. map executable_view ys ++ map executable_view c.deref-4.result.now) c.deref-3.ensures.value ∙ ap (λ zs. xs ++ map executable_view zs) c.deref-4.ensures.value in
    let now = state_of read in
    let again = subst (λ (ys : List ExecutableView). CollectsAll g.D.Disk read (debugs_by (told_or_none (told_view told.files)) ys now.cases) (Ok ds) last) (ap (map executable_view) c.deref-2.ensures.value) debugs in
    let x = c.in_ok-find_by.ensures in
    let found : SeesCrash g.D.Disk old seq x.crash x.mid = (
      image,
      mid,
      sees.1,
      c.core_in.result.core,
      says.notes_are,
      asks_crash g.D.Disk old mid seq image x.crash c.core_in.result.core core x.mid c.in-Ok.is
          (finds_by g.D.Disk old mid read last x.mid seq size _ image o.front.now (told_view told.files) xs ds _ core x.crash
          (c.in_ok-told.ensures.told.told image sees.2) (c.image.ensures ∙ c.elf-elf.ensures.image) (sym sees.2.0.0) both count
          collects again (sees_only g.D.Disk old last seq all.0 all.1) x.by),
    ) in
    let s = c.args.search.now in
    let t = c.find_by.new.search in
    let one = goes_more g.D.Disk g.met.D.Disk.only_now old x.mid s x.next seq x.crash c.requires.next found x.adds in
    let longer = added_longer s x.next x.crash x.adds in
    let more = x.on.more in
    (goes_then g.D.Disk g.met.D.Disk.only_now old x.mid c.find_by.new.archive s x.next t one x.on, omega (arith, longer, more))
