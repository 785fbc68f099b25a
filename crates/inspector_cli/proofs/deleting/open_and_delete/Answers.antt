use Rattle.inspector_cli.proofs.deleting.open_and_delete.Goals as goal

pub returns-clause-headline : goal.returns-clause-headline
returns-clause-headline g c = λ naming line lines.
    let life = c.open_then_delete.ensures.lines naming line lines in
    (life.0, life.1, life.2, c.a_session_is_crash_safe.ensures _ naming _ _ _ _ life.3)
