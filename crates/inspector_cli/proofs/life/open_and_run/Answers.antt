use Rattle.inspector_cli.proofs.life.open_and_run.Goals as goal

pub returns-clause-headline : goal.returns-clause-headline
returns-clause-headline g c = c.a_session_is_crash_safe.ensures _ c.args.naming.now _ _ _ _ c.open_then_run.ensures.crash_safe
