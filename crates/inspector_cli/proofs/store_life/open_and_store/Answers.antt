use Rattle.inspector_cli.proofs.StoreHeadLemmas.{found_empty}
use Rattle.inspector_cli.proofs.store_life.open_and_store.Goals as goal

pub returns-clause-headline : goal.returns-clause-headline
returns-clause-headline g c = c.a_store_is_crash_safe.ensures _ _ _ _ _ _ _ _ (found_empty c.args.found) c.open_then_store.ensures.crash_safe
