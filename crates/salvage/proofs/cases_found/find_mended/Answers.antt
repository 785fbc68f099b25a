use Rattle.salvage.proofs.cases_found.find_mended.Goals as goal

pub returns-clause-finds : goal.returns-clause-finds
returns-clause-finds g c = λ honest.
    let s = c.in_ok-found.ensures.finds honest in
    record { sees = s.sees; first = s.first; more = s.more; drops = s.drops; shut = s.shut; refused = s.refused; sound = s.sound; reads = s.reads; indexed = s.indexed; from = s.from; bound = s.bound; behind = s.behind }
