use Rattle.std.proofs.Common.{◌∷◌, map, drop, length, ap, ◌∙◌, sym, arith}
use Rattle.elf_view.specs.NoteList.{note_at, note_len, rests_left}
use Rattle.elf_view.specs.NoteWords.{note_view, notes_left}
use Rattle.elf_view.specs.SegmentWords.{segments_left}
use Rattle.elf_view.proofs.NotePlaces.{left_head, left_behind, left_step}
use Rattle.elf_view.proofs.note_lists.NotesIterator.next.Goals as goal

pub returns-in_err-bytes-clause-steps : goal.returns-in_err-bytes-clause-steps
unfolding notes_left
returns-in_err-bytes-clause-steps c =
    let none = c.in_err-bytes.ensures in rw c.from_residual.ensures (ap (map note_at) none.0, ap (map note_at) none.1)

pub behind_first-self-requires : goal.behind_first-self-requires
behind_first-self-requires c =
    left_head c.in_ok-bytes.bytes.now (segments_left c.bytes_from_next.new.segments) _ c.in_ok-bytes.ensures.1 c.in_ok-bytes.ensures.0 c.args.self.now.whole

pub first-requires : goal.first-requires
first-requires c =
    left_head c.in_ok-bytes.bytes.now (segments_left c.bytes_from_next.new.segments) _ c.in_ok-bytes.ensures.1 c.in_ok-bytes.ensures.0 c.args.self.now.whole

pub invariant_of-self-2 : goal.invariant_of-self-2
invariant_of-self-2 c = record {
  whole = rw c.behind_first-self.ensures (left_behind c.in_ok-bytes.bytes.now (segments_left c.bytes_from_next.new.segments) _ c.in_ok-bytes.ensures.1 c.in_ok-bytes.ensures.0 c.args.self.now.whole);
}

pub returns-clause-steps : goal.returns-clause-steps
unfolding notes_left
returns-clause-steps c =
    let bytes = c.in_ok-bytes.bytes.now in
    let segments = segments_left c.bytes_from_next.new.segments in
    let step = left_step bytes segments c.in_ok-bytes.ensures.0 in
    ap (map note_at) (c.in_ok-bytes.ensures.1 ∙ step)
    ∙ ap (λ note. note ∷ map note_at (rests_left (drop (note_len bytes) bytes) segments)) (sym c.first.ensures)
    ∙ ap (λ rest. note_view c.first.result ∷ map note_at (rests_left rest segments)) (sym c.behind_first-self.ensures)

pub returns-clause-goes : goal.returns-clause-goes
returns-clause-goes c =
    let fewer = ap length (returns-clause-steps c) in record { on = λ _. (tt, tt, omega (arith, fewer)); keeps = tt; rests = λ _. tt }
