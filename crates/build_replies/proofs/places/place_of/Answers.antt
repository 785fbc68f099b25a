use Rattle.build_replies.proofs.places.place_of.Goals as goal

pub returns-in-FromFile-clause-within : goal.returns-in-FromFile-clause-within
returns-in-FromFile-clause-within c size within = c.no_front.ensures.within size

pub returns-in-NotDumped-clause-within : goal.returns-in-NotDumped-clause-within
returns-in-NotDumped-clause-within c size within = c.no_front-in-NotDumped.ensures.within size

pub returns-in-Cut-clause-within : goal.returns-in-Cut-clause-within
returns-in-Cut-clause-within c size within = c.no_front-in-Cut.ensures.within size

pub returns-in-Unmapped-clause-within : goal.returns-in-Unmapped-clause-within
returns-in-Unmapped-clause-within c size within = c.no_front-in-Unmapped.ensures.within size
