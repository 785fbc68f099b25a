use Rattle.std.proofs.Common.{length, drop, ap, sym, ◌∙◌, arith}
use Rattle.call_frames.specs.Walk.{is_end}
use Rattle.call_frames.specs.WalkWords.{spots_left}
use Rattle.call_frames.proofs.SpotPlaces.{spots_end, spots_next, some_left}
use Rattle.call_frames.proofs.spots.SpotsIterator.next.Goals as goal

pub returns-then-is_end-clause-steps : goal.returns-then-is_end-clause-steps
unfolding spots_left
returns-then-is_end-clause-steps c =
    let s = c.args.self.now in
    let none = spots_end s.index s.place (drop s.place s.bytes.now) (ap is_end (sym c.rest_at-rest.ensures) ∙ sym c.if-is_end.ensures) in (none, none)

pub entry_len-requires : goal.entry_len-requires
entry_len-requires c = some_left c.rest_at-rest.result.now (sym c.if-is_end.ensures)

pub returns-clause-steps : goal.returns-clause-steps
unfolding spots_left
returns-clause-steps c =
    let s = c.args.self.now in
    spots_next s.bytes.now c.rest_at-rest.result.now s.index s.place c.entry_len.result c.rest_at-rest.ensures (sym c.if-is_end.ensures) c.entry_len.ensures.size

pub returns-clause-goes : goal.returns-clause-goes
returns-clause-goes c =
    let fewer = ap length (returns-clause-steps c) in record { on = λ _. (tt, tt, omega (arith, fewer)); keeps = tt; rests = λ _. tt }
