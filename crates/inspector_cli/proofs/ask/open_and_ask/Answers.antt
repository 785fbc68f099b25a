use Rattle.inspector_cli.proofs.ask.open_and_ask.Goals as goal

pub returns-clause-headline : goal.returns-clause-headline
returns-clause-headline g c = λ naming line by_path one is.
    c.a_session_is_crash_safe.ensures _ naming _ _ _ _ (c.open_then_ask.ensures.crash_safe naming line by_path one is)
