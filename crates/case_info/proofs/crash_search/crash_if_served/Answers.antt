use Rattle.std.proofs.Common.{map, ap, sym, subst, ◌∙◌}
use Rattle.build_replies.specs.Builds.{told_or_none}
use Rattle.build_replies.specs.Mapped.{told_view}
use Rattle.case_queries.specs.CollectingWords.{executable_view}
use Rattle.case_queries.specs.ExecutableWords.{AreOf}
use Rattle.case_queries.specs.Preparing.{Serves}
use Rattle.case_queries.specs.declared.walk.CaseImage.{CaseImage}
use Rattle.case_queries.proofs.WindowLemmas.{seen_reads, sized}
use Rattle.case_screens.specs.Core.{notes_read}
use Rattle.core_crashes.specs.Views.{crashed_said}
use Rattle.elf_view.specs.declared.faults.Want.TheVariants.{Core}
use Rattle.intake.specs.Parts.{state_of}
use Rattle.intake.specs.State.{ArchiveState}
use Rattle.case_info.specs.Crashes.{first_thread}
use Rattle.case_info.specs.Fronts.{IsFront}
use Rattle.case_info.specs.Screens.{shown_count}
use Rattle.case_info.proofs.CrashLemmas.{asks_crash, asks_fault}
use Rattle.case_info.proofs.ScreenLemmas.{bytes_in, front_again, front_short, has_still, sound_core}
use Rattle.case_info.proofs.SearchLemmas.{finds_by, only_leaves, pieces_again, sees_only, served_debugs, served_executables, stay_prepared}
use Rattle.case_info.proofs.crash_search.crash_if_served.Goals as goal

pub told_of-requires-clause-has : goal.told_of-requires-clause-has
told_of-requires-clause-has g c =
    let seen = c.in_ok-front.ensures in
    has_still g.D.Disk c.args.archive.now c.front_of.new.archive c.args.seq c.in_ok-size.size seen.0 c.in_ok-size.ensures seen.1

pub told_of-requires-clause-short : goal.told_of-requires-clause-short
told_of-requires-clause-short g c =
    let seen = c.in_ok-front.ensures in
    let core = c.in-Ok.core in
    let bytes = bytes_in c.core_in.result.core core c.deref.result.now c.in-Ok.is c.core_in.ensures.bytes ∙ c.deref.ensures.value in
    let own = c.image.ensures ∙ c.elf-elf.ensures.image ∙ bytes in
    front_short g.D.Disk c.args.archive.now c.front_of.new.archive c.args.seq c.in_ok-size.size seen.0 c.in_ok-size.ensures seen.1 c.image.result.now (subst (λ b. IsFront Core b seen.0) (sym own) seen.2)

pub told_of-requires-clause-front : goal.told_of-requires-clause-front
told_of-requires-clause-front g c = sym (c.image.ensures ∙ c.elf-elf.ensures.image)

pub told_of-requires-clause-sound : goal.told_of-requires-clause-sound
told_of-requires-clause-sound g c =
    let elf = c.elf-elf.result in
    sound_core elf.want elf.image.now c.image.result.now c.elf-elf.ensures.want (sym c.image.ensures) elf.whole elf.sound

pub returns-in-Err : goal.returns-in-Err
returns-in-Err g c =
    let seen = c.in_ok-front.ensures in
    let mid = c.front_of.new.archive in
    let core = c.core_in.result.core in
    let says = (rw c.deref.ensures.value at c.core_in.ensures.says) seen.0 seen.2 in (
      seen.0,
      mid,
      seen.1,
      core,
      says.notes_are,
      asks_fault g.D.Disk c.args.archive.now mid c.args.seq seen.0 (crashed_said c.in_ok-refused_in-in-Err.field-0) core c.in-Err.fault c.in-Err.is c.in_ok-refused_in-in-Err.ensures,
    )

pub returns-then-not-serves : goal.returns-then-not-serves
returns-then-not-serves g c =
    let old = c.args.archive.now in
    let seq = c.args.seq in
    let size = c.in_ok-size.size in
    let seen = c.in_ok-front.ensures in
    let first = c.front_of.new.archive in
    let mid = c.told_of.new.archive in
    let core = c.in-Ok.core in
    let o : CaseImage = record { seq = seq; size = size; front = c.image.result } in
    let own = c.image.ensures ∙ c.elf-elf.ensures.image ∙ bytes_in c.core_in.result.core core c.deref.result.now c.in-Ok.is c.core_in.ensures.bytes ∙ c.deref.ensures.value in
    let begins = subst (λ b. IsFront Core b seen.0) (sym own) seen.2 in
    let told = c.in_ok-told.told in
    let sees = c.in_ok-told.ensures.sees old (seen_reads g.D.Disk old first seq seen.0 o.front.now seen.1 begins.begins) in
    sees_only g.D.Disk old mid seq sees.0 sees.1

pub crash_with-requires-clause-serve : goal.crash_with-requires-clause-serve
crash_with-requires-clause-serve g c =
    let old = c.args.archive.now in
    let seq = c.args.seq in
    let seen = c.in_ok-front.ensures in
    let own = c.image.ensures ∙ c.elf-elf.ensures.image ∙ bytes_in c.core_in.result.core c.in-Ok.core c.deref.result.now c.in-Ok.is c.core_in.ensures.bytes ∙ c.deref.ensures.value in
    let begins = subst (λ b. IsFront Core b seen.0) (sym own) seen.2 in
    let sees = c.in_ok-told.ensures.sees old (seen_reads g.D.Disk old c.front_of.new.archive seq seen.0 c.image.result.now seen.1 begins.begins) in
    let now = c.told_of.new.archive in
    let are = subst (λ cases. AreOf cases c.args.stored.now) (sym (ap (λ (s : ArchiveState). s.cases) sees.1.state)) c.requires.stored in
    (c.in_ok-serves.ensures c.if-not-serves.false (state_of now).cases are).chosen

pub crash_with-requires-clause-has : goal.crash_with-requires-clause-has
crash_with-requires-clause-has g c = c.in_ok-told.ensures.has

pub crash_with-requires-clause-short : goal.crash_with-requires-clause-short
crash_with-requires-clause-short g c =
    let seen = c.in_ok-front.ensures in
    let core = c.in-Ok.core in
    let bytes = bytes_in c.core_in.result.core core c.deref.result.now c.in-Ok.is c.core_in.ensures.bytes ∙ c.deref.ensures.value in
    let own = c.image.ensures ∙ c.elf-elf.ensures.image ∙ bytes in
    front_short g.D.Disk c.args.archive.now c.front_of.new.archive c.args.seq c.in_ok-size.size seen.0 c.in_ok-size.ensures seen.1 c.image.result.now (subst (λ b. IsFront Core b seen.0) (sym own) seen.2)

pub crash_with-requires-clause-front : goal.crash_with-requires-clause-front
crash_with-requires-clause-front g c = sym (c.image.ensures ∙ c.elf-elf.ensures.image)

pub crash_with-requires-clause-sound : goal.crash_with-requires-clause-sound
crash_with-requires-clause-sound g c =
    let elf = c.elf-elf.result in
    sound_core elf.want elf.image.now c.image.result.now c.elf-elf.ensures.want (sym c.image.ensures) elf.whole elf.sound

pub crash_with-requires-clause-seen : goal.crash_with-requires-clause-seen
crash_with-requires-clause-seen g c =
    let old = c.args.archive.now in
    let seq = c.args.seq in
    let size = c.in_ok-size.size in
    let seen = c.in_ok-front.ensures in
    let first = c.front_of.new.archive in
    let mid = c.told_of.new.archive in
    let core = c.in-Ok.core in
    let o : CaseImage = record { seq = seq; size = size; front = c.image.result } in
    let own = c.image.ensures ∙ c.elf-elf.ensures.image ∙ bytes_in c.core_in.result.core core c.deref.result.now c.in-Ok.is c.core_in.ensures.bytes ∙ c.deref.ensures.value in
    let begins = subst (λ b. IsFront Core b seen.0) (sym own) seen.2 in
    let told = c.in_ok-told.told in
    let sees = c.in_ok-told.ensures.sees old (seen_reads g.D.Disk old first seq seen.0 o.front.now seen.1 begins.begins) in
    pieces_again g.D.Disk g.met.D.Disk.only_now old mid o told.pieces.items sees

pub returns : goal.returns
returns g c =
    let old = c.args.archive.now in
    let seq = c.args.seq in
    let size = c.in_ok-size.size in
    let seen = c.in_ok-front.ensures in
    let first = c.front_of.new.archive in
    let mid = c.told_of.new.archive in
    let core = c.in-Ok.core in
    let o : CaseImage = record { seq = seq; size = size; front = c.image.result } in
    let own = c.image.ensures ∙ c.elf-elf.ensures.image ∙ bytes_in c.core_in.result.core core c.deref.result.now c.in-Ok.is c.core_in.ensures.bytes ∙ c.deref.ensures.value in
    let begins = subst (λ b. IsFront Core b seen.0) (sym own) seen.2 in
    let told = c.in_ok-told.told in
    let sees = c.in_ok-told.ensures.sees old (seen_reads g.D.Disk old first seq seen.0 o.front.now seen.1 begins.begins) in
    let new = c.crash_with.new.archive in
    let image = sees.0 in
    let long = sized g.D.Disk old first seq size seen.0 c.in_ok-size.ensures seen.1 in
    let is = front_again Core o.front.now seen.0 image size long sees.2.0 begins in
    let says = (rw c.deref.ensures.value at c.core_in.ensures.says) image (subst (λ b. IsFront Core b image) own is) in
    let p = c.args.prepared.now in
    let told_is = told_or_none (told_view told.files) in
    let are = subst (λ cases. AreOf cases c.args.stored.now) (sym (ap (λ (s : ArchiveState). s.cases) sees.1.state)) c.requires.stored in
    let serves : Serves p told_is (state_of mid).cases = c.in_ok-serves.ensures c.if-not-serves.false (state_of mid).cases are in
    let stay = stay_prepared g.D.Disk g.met.D.Disk.only_now old mid p (only_leaves g.D.Disk old mid (sees_only g.D.Disk old mid seq image sees.1)) c.requires.stay in
    let crash = crashed_said c.in_ok-crash_with.field-0 in
    let count = ap (shown_count first_thread) (sym (ap notes_read c.in-Ok.is) ∙ says.notes_are) in (
      image,
      mid,
      sees.1,
      c.core_in.result.core,
      says.notes_are,
      asks_crash g.D.Disk old mid seq image crash c.core_in.result.core core new c.in-Ok.is
          (finds_by g.D.Disk old mid mid mid new seq size _ image o.front.now (told_view told.files) (map executable_view p.stored.now) (map executable_view p.debug_files.now) _ core crash
          (c.in_ok-told.ensures.told.told image sees.2) (c.image.ensures ∙ c.elf-elf.ensures.image) (sym sees.2.0.0) p.views count
          (served_executables g.D.Disk mid p told_is (state_of mid).cases stay serves) (served_debugs g.D.Disk mid p told_is (state_of mid).cases stay serves)
          (sees_only g.D.Disk old mid seq image sees.1) c.in_ok-crash_with.ensures),
    )
