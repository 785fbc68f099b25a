use Rattle.inspector_cli.proofs.KeepingLemmas.{stop_taken_up, reopening_taken_up, lines_store, lines_label, sessions_keep, stores_store, stores_label, stores_pin, stores_keep}
use Rattle.inspector_cli.proofs.stored.a_stored_case_is_kept.Goals as goal

pub returns-clause-stop : goal.returns-clause-stop
returns-clause-stop g c = stop_taken_up g.D.Disk

pub returns-clause-reopening : goal.returns-clause-reopening
returns-clause-reopening g c = reopening_taken_up g.D.Disk g.met.D.Disk.seen_may_stay g.met.D.Disk.counts_now

pub returns-clause-line : goal.returns-clause-line
returns-clause-line g c = lines_store g.D.Disk c.the_next_number_is_above.ensures

pub returns-clause-line_label : goal.returns-clause-line_label
returns-clause-line_label g c = lines_label g.D.Disk c.the_next_number_is_above.ensures

pub returns-clause-session : goal.returns-clause-session
returns-clause-session g c = sessions_keep g.D.Disk c.the_next_number_is_above.ensures

pub returns-clause-store : goal.returns-clause-store
returns-clause-store g c = stores_store g.D.Disk c.the_next_number_is_above.ensures

pub returns-clause-store_label : goal.returns-clause-store_label
returns-clause-store_label g c = stores_label g.D.Disk c.the_next_number_is_above.ensures

pub returns-clause-store_pin : goal.returns-clause-store_pin
returns-clause-store_pin g c = stores_pin g.D.Disk c.the_next_number_is_above.ensures

pub returns-clause-kept : goal.returns-clause-kept
returns-clause-kept g c = stores_keep g.D.Disk c.the_next_number_is_above.ensures
