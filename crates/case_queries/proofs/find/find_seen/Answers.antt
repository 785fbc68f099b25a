use Rattle.std.proofs.Common.{◌≡◌, Ok, List, ℕ, length, take, refl, sym, subst, ◌∙◌, arith}
use Rattle.elf_view.specs.declared.faults.Want.TheVariants.{Core}
use Rattle.intake.specs.State.{ArchiveState}
use Rattle.script_lines.specs.Queries.{QuerySaid, memory_query}
use Rattle.case_queries.specs.Fronts.{HasSize, IsSoundFront, ReadsFront}
use Rattle.case_queries.specs.Seeing.{SeesImage}
use Rattle.case_queries.specs.Steps.{Asks}
use Rattle.case_queries.proofs.AskLemmas.{kept_still}
use Rattle.case_queries.proofs.FindAskLemmas.{enough_short, enough_sound, enough_whole, whole_seen}
use Rattle.case_queries.proofs.WindowLemmas.{enough_cut, kept_after, seen_by, seen_reads, sized}
use Rattle.case_queries.proofs.find.find_seen.Goals as goal

pub returns-then-len-size-clause-answers : goal.returns-then-len-size-clause-answers
returns-then-len-size-clause-answers g c before seen =
    let k = c.args.kept.now.image.items in
    let seq = c.args.kept.now.seq in
    let size = c.args.size in
    let now = c.args.archive.now in
    let long : length k ≡ size = omega (arith, c.len.ensures, c.if-len-size.true) in
    let has = subst (λ (s : ArchiveState). HasSize s seq size) seen.1.state c.requires.has in
    let is = enough_whole k seen.0 seen.2 (long ∙ sym (sized g.D.Disk before now seq size seen.0 has seen.1)) in
    let sees = subst (λ b. SeesImage g.D.Disk before seq b now) (sym is) seen.1 in
    let by = seen_by c.args.query.now k c.deref-then-len-size.result.now (length k) size 0 0 k c.deref.result.now k c.deref-then-len-size.ensures.value (sym long) refl c.deref.ensures.value (whole_seen c.args.query.now k) in
    let told = c.answer_memory.ensures.answers k by in
    (told.0, (Ok k, now, sees, told.1), told.2, told.3)

pub returns-then-len-size-clause-kept : goal.returns-then-len-size-clause-kept
returns-then-len-size-clause-kept g c =
    let k = c.args.kept.now.image.items in
    let long : length k ≡ c.args.size = omega (arith, c.len.ensures, c.if-len-size.true) in
    let by = seen_by c.args.query.now k c.deref-then-len-size.result.now (length k) c.args.size 0 0 k c.deref.result.now k c.deref-then-len-size.ensures.value (sym long) refl c.deref.ensures.value (whole_seen c.args.query.now k) in
    let told = c.answer_memory.ensures.answers k by in
    kept_still g.D.Disk c.args.archive.now c.answer_memory.new.archive c.args.kind (memory_query c.args.query.now) k told.0 c.args.kept.now told.1 c.requires.kept

pub returns-then-len-size-clause-are_kept : goal.returns-then-len-size-clause-are_kept
returns-then-len-size-clause-are_kept g c = c.answer_memory.ensures.kept

pub returns-clause-answers : goal.returns-clause-answers
returns-clause-answers g c before seen =
    let k = c.args.kept.now.image.items in
    let seq = c.args.kept.now.seq in
    let now = c.args.archive.now in
    let reads = seen_reads g.D.Disk before now seq seen.0 k seen.1 (enough_cut Core k seen.0 seen.2) in
    let told = c.find_front.ensures.answers before c.args.kind (subst (λ b. ReadsFront g.D.Disk before seq b now) (sym c.deref-2.ensures.value) reads) in
    (told.0, subst (λ (q : QuerySaid). Asks g.D.Disk before seq q (Ok c.args.kind) told.0 c.find_front.new.archive) (sym c.requires.says) told.1, told.2, told.3)

pub returns-clause-kept : goal.returns-clause-kept
returns-clause-kept g c = kept_after g.D.Disk c.args.archive.now c.find_front.new.archive c.args.kept.now c.find_front.ensures.leaves c.requires.kept

pub returns-clause-are_kept : goal.returns-clause-are_kept
returns-clause-are_kept g c = c.find_front.ensures.kept

pub answer_memory-requires-clause-runs : goal.answer_memory-requires-clause-runs
answer_memory-requires-clause-runs g c = c.requires.runs

pub answer_memory-requires-clause-kept : goal.answer_memory-requires-clause-kept
answer_memory-requires-clause-kept g c = c.requires.are_kept

pub find_front-requires-clause-runs : goal.find_front-requires-clause-runs
find_front-requires-clause-runs g c = c.requires.runs

pub find_front-requires-clause-has : goal.find_front-requires-clause-has
find_front-requires-clause-has g c = c.requires.has

pub find_front-requires-clause-some : goal.find_front-requires-clause-some
find_front-requires-clause-some g c = c.requires.some

pub find_front-requires-clause-short : goal.find_front-requires-clause-short
find_front-requires-clause-short g c =
    let e = c.requires.enough in
    let short = enough_short c.args.kept.now.image.items e.0 c.args.size e.1 e.2 in
    omega (arith, short, c.deref-2.ensures.len, c.len.ensures)

pub find_front-requires-clause-sound : goal.find_front-requires-clause-sound
find_front-requires-clause-sound g c =
    let e = c.requires.enough in
    subst (IsSoundFront Core) (sym c.deref-2.ensures.value)
    (enough_sound c.args.kept.now.image.items e.0 c.args.size e.1 e.2 (λ is. omega (arith, is, c.len.ensures, c.if-len-size.false)))

pub find_front-requires-clause-own : goal.find_front-requires-clause-own
find_front-requires-clause-own g c =
    let kept = c.requires.kept in
    (kept.0, kept.1, subst (λ (b : List ℕ). b ≡ take (length b) kept.0) (sym c.deref-2.ensures.value) kept.2)

pub find_front-requires-clause-kept : goal.find_front-requires-clause-kept
find_front-requires-clause-kept g c = c.requires.are_kept
