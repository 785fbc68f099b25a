use Rattle.std.specs.Result.{is_ok}
use Rattle.std.proofs.Common.{◌≡◌, true, ◌++◌, length, Ok, Err, List, ℕ, map, refl, ap, subst, ◌∙◌, arith}
use Rattle.archive_replies.specs.Reasons.{reason_of}
use Rattle.windowed_search.specs.ScanWords.{aim_of}
use Rattle.case_queries.specs.Asking.{for_aim}
use Rattle.case_queries.specs.Fronts.{ReadsUpTo}
use Rattle.memory_replies.specs.Memory.{attached_view}
use Rattle.case_queries.proofs.FindLemmas.{front_kept, memory_outcome, none_shown, still_clean, whole_found, whole_unread}
use Rattle.case_queries.proofs.find.find_in_whole.Goals as goal

pub returns-in_default : goal.returns-in_default
returns-in_default g c before reads =
    let image = c.args.image in
    (_, none_shown g.D.Disk before image c.args.archive.now _ (for_aim (aim_of c.args.sought)) c.requires.has c.requires.short reads, memory_outcome _ c.print_no_memory.ensures.done, c.print_no_memory.ensures.states)

pub find_in_bytes-requires-clause-clean : goal.find_in_bytes-requires-clause-clean
find_in_bytes-requires-clause-clean g c =
    let front = c.args.image.front.now in
    let fine : is_ok c.extend_from_slice.result ≡ true = rw c.unwrap.ensures refl in
    let items = rw fine at c.extend_from_slice.ensures.items in
    let first : c.extend_from_slice.new.self.items ≡ front = items ∙ ap (λ (x : List ℕ). x ++ front) c.in-Ok.ensures.items in
    let up = c.in-Ok-read_up_to.ensures.read in
    let all : c.deref.result.now ≡ front ++ up.0 = c.deref.ensures.value ∙ up.2 ∙ ap (λ (x : List ℕ). x ++ up.0) first in
    still_clean front c.deref.result.now c.a_sound_front_answers.ensures.fault (front_kept front up.0 c.deref.result.now all) c.requires.sound c.requires.clean

pub returns-in-Ok-read_up_to : goal.returns-in-Ok-read_up_to
returns-in-Ok-read_up_to g c before reads =
    let image = c.args.image in
    let front = image.front.now in
    let fine : is_ok c.extend_from_slice.result ≡ true = rw c.unwrap.ensures refl in
    let items = rw fine at c.extend_from_slice.ensures.items in
    let first : c.extend_from_slice.new.self.items ≡ front = items ∙ ap (λ (x : List ℕ). x ++ front) c.in-Ok.ensures.items in
    let bytes = c.read_up_to.new.image.items in
    let up = subst (λ f. ReadsUpTo g.D.Disk c.args.archive.now image.seq f image.size (Ok tt) bytes c.read_up_to.new.archive) first c.in-Ok-read_up_to.ensures.read in
    let long : length bytes ≡ image.size = omega (arith, c.in-Ok-read_up_to.ensures.long) in
    whole_found g.D.Disk before c.args.archive.now c.read_up_to.new.archive image (map attached_view c.args.attached.now) (for_aim (aim_of c.args.sought)) c.requires.has reads bytes c.find_in_bytes.result _ up long (rw c.deref.ensures.value at c.find_in_bytes.ensures)

pub returns : goal.returns
returns g c before reads =
    let image = c.args.image in
    let front = image.front.now in
    let fine : is_ok c.extend_from_slice.result ≡ true = rw c.unwrap.ensures refl in
    let items = rw fine at c.extend_from_slice.ensures.items in
    let first : c.extend_from_slice.new.self.items ≡ front = items ∙ ap (λ (x : List ℕ). x ++ front) c.in-Ok.ensures.items in
    let bytes = c.read_up_to.new.image.items in
    let up = subst (λ f. ReadsUpTo g.D.Disk c.args.archive.now image.seq f image.size (Err c.in-Err.fault) bytes c.read_up_to.new.archive) first c.in-Err.ensures.read in
    (_, whole_unread g.D.Disk before c.args.archive.now c.read_up_to.new.archive image (map attached_view c.args.attached.now) (for_aim (aim_of c.args.sought)) c.requires.has reads bytes c.in-Err.fault up, (reason_of c.in-Err.fault, refl), rw c.reason.ensures at c.print_no.ensures)
