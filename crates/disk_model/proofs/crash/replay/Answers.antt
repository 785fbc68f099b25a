use Rattle.std.proofs.Common.{List, length, subst, sym, ◌∙◌, ap, ℕ}
use Rattle.disk_model.specs.Notes.{Fits}
use Rattle.disk_model.specs.Crash.{struck}
use Rattle.disk_model.proofs.Replays.{fit_at, replayed_more}
use Rattle.disk_model.proofs.crash.replay.Goals as goal

pub strike-requires : goal.strike-requires
strike-requires c =
    let item = c.note-item.result in
    let fits : Fits (length c.args.bytes.now) item = subst (Fits (length c.args.bytes.now)) (sym c.note-item.is) (fit_at (length c.args.bytes.now) c.args.notes.now c.loop-note.note-index item c.requires c.loop-note-test.true) in
    subst (λ (n : ℕ). Fits n item) (sym c.loop-note.auto.bytes) fits

pub loop-note-preserved : goal.loop-note-preserved
loop-note-preserved c =
    let item = c.note-item.result in
    c.strike.ensures
    ∙ ap (λ (b : List ℕ). struck c.args.pick b item) c.loop-note.invariant
    ∙ sym (replayed_more c.args.pick c.args.bytes.now c.args.notes.now c.loop-note.note-index item c.loop-note-test.true c.note-item.is)
