use Rattle.std.proofs.Common.{◌++◌}
use Rattle.std.proofs.lemmas.Result.{err_from_is_err_and}
use Rattle.script_streams.proofs.ReadingLemmas.{went_on, used_up, nothing, something}
use Rattle.script_streams.proofs.reader.ScriptBuffer.go_on.Goals as goal

pub returns-in_err-refill-clause-gives : goal.returns-in_err-refill-clause-gives
returns-in_err-refill-clause-gives g c = λ front keeps.
    let p = err_from_is_err_and c.from_residual.result c.from_residual.ensures.1 in
    let w = went_on front _ _ _ _ c.refill.new.self _ (c.if-take_line.ensures.gives front keeps) c.refill.ensures.gives in
    rw p.1 (w.piece, w.line, w.gives, c.in_err-refill.ensures.err)

pub returns-then-not-is_empty-clause-gives : goal.returns-then-not-is_empty-clause-gives
returns-then-not-is_empty-clause-gives g c = λ front keeps.
    let w = went_on front _ _ _ _ c.refill.new.self _ (c.if-take_line.ensures.gives front keeps) c.refill.ensures.gives in
    (w.piece, w.line, w.keeps, w.gives)

pub returns-then-is_empty-clause-gives : goal.returns-then-is_empty-clause-gives
returns-then-is_empty-clause-gives g c = λ front keeps.
    let w = went_on front _ _ _ _ c.refill.new.self _ (c.if-take_line.ensures.gives front keeps) c.refill.ensures.gives in
    let ended = used_up _ c.refill.new.self c.held.result.now c.held.ensures c.if-not-is_empty.ensures c.in_ok-refill.ensures.end in
    (w.piece, nothing (front ++ w.piece) (c.if-is_empty.ensures (front ++ w.piece) w.keeps), w.gives, ended)

pub returns-else-is_empty-clause-gives : goal.returns-else-is_empty-clause-gives
returns-else-is_empty-clause-gives g c = λ front keeps.
    let w = went_on front _ _ _ _ c.refill.new.self _ (c.if-take_line.ensures.gives front keeps) c.refill.ensures.gives in
    let ended = used_up _ c.refill.new.self c.held.result.now c.held.ensures c.if-not-is_empty.ensures c.in_ok-refill.ensures.end in
    (w.piece, w.line, w.keeps, something (front ++ w.piece) (c.if-is_empty.ensures (front ++ w.piece) w.keeps), w.gives, ended)
