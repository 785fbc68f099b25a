use Rattle.std.proofs.Common.{Some, sym, ap, ◌∙◌, length, arith}
use Rattle.std.proofs.lemmas.List.{length-drop}
use Rattle.build_ids.specs.BuildId as spec
use Rattle.build_ids.specs.Notes.{note_at, note_len, notes_in}
use Rattle.build_ids.proofs.NotePlaces.{whole_len, note_len_above, notes_step, notes_end, id_on, id_here}
use Rattle.build_ids.proofs.ids.id_in.Goals as goal

pub returns-then-is_build_id : goal.returns-then-is_build_id
returns-then-is_build_id c =
    let p = c.args.padding in
    let rest = c.loop-note.rest.now in
    let note = c.in-Some.ensures in
    sym (c.loop-note.invariant ∙ ap spec.id_among (notes_step p rest note.0)
    ∙ id_here (note_at p rest) _ (ap spec.is_build_id (sym note.1) ∙ sym c.is_build_id.ensures ∙ c.if-is_build_id.true) ∙ ap (λ n. Some n.desc) (sym note.1))

pub behind_first-rest-requires : goal.behind_first-rest-requires
behind_first-rest-requires c = whole_len c.args.padding c.loop-note.rest.now c.in-Some.ensures.0

pub loop-note-smaller : goal.loop-note-smaller
loop-note-smaller c =
    let p = c.args.padding in
    let rest = c.loop-note.rest.now in
    let some = whole_len p rest c.in-Some.ensures.0 in
    let above = note_len_above p rest in
    let shorter = ap length c.behind_first-rest.ensures ∙ length-drop (note_len p rest) rest in omega (arith, some, above, shorter)

pub loop-note-preserved : goal.loop-note-preserved
loop-note-preserved c =
    let p = c.args.padding in
    let rest = c.loop-note.rest.now in
    let note = c.in-Some.ensures in
    c.loop-note.invariant ∙ ap spec.id_among (notes_step p rest note.0)
    ∙ id_on (note_at p rest) _ (ap spec.is_build_id (sym note.1) ∙ sym c.is_build_id.ensures ∙ c.if-is_build_id.false)
    ∙ ap (λ bytes. spec.id_among (notes_in p bytes)) (sym c.behind_first-rest.ensures)

pub returns : goal.returns
returns c = sym (c.loop-note.invariant ∙ ap spec.id_among (notes_end c.args.padding c.loop-note.rest.now c.in_default.ensures))
