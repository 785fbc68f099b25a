use Rattle.case_queries.proofs.by_front.print_image.Goals as goal

pub returns-in-Maps-clause-states : goal.returns-in-Maps-clause-states
returns-in-Maps-clause-states g c = rw c.in-Maps.is (c.print_mappings.ensures.states c.args.kind)

pub returns-in-Maps-clause-done : goal.returns-in-Maps-clause-done
returns-in-Maps-clause-done g c = rw c.in-Maps.is (c.print_mappings.ensures.done c.args.kind)
