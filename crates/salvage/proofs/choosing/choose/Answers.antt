use Rattle.salvage.proofs.ReadsLemmas.{sorted_from, sorted_stays}
use Rattle.salvage.proofs.choosing.choose.Goals as goal

pub returns-in_err-choose_of-clause-stay : goal.returns-in_err-choose_of-clause-stay
returns-in_err-choose_of-clause-stay c = λ place k among.
    c.choose_of.ensures.stay place k (sorted_stays c.args.scan.now.reads.items c.sort_unstable_by_key.new.self.items c.sort_unstable_by_key.ensures.permutation place k among)

pub returns-in_err-choose_of-2-clause-stay : goal.returns-in_err-choose_of-2-clause-stay
returns-in_err-choose_of-2-clause-stay c = λ place k among.
    c.choose_of-2.ensures.stay place k
    (c.choose_of.ensures.stay place k (sorted_stays c.args.scan.now.reads.items c.sort_unstable_by_key.new.self.items c.sort_unstable_by_key.ensures.permutation place k among))

pub returns-clause-stay : goal.returns-clause-stay
returns-clause-stay c = λ place k among.
    c.choose_of-3.ensures.stay place k
    (c.choose_of-2.ensures.stay place k
    (c.choose_of.ensures.stay place k (sorted_stays c.args.scan.now.reads.items c.sort_unstable_by_key.new.self.items c.sort_unstable_by_key.ensures.permutation place k among)))

pub returns-in_err-choose_of-clause-from : goal.returns-in_err-choose_of-clause-from
returns-in_err-choose_of-clause-from c = λ blocks bytes are. c.choose_of.ensures.from blocks bytes (sorted_from c.args.scan.now.reads.items c.sort_unstable_by_key.new.self.items c.sort_unstable_by_key.ensures.permutation blocks bytes are)

pub returns-in_err-choose_of-2-clause-from : goal.returns-in_err-choose_of-2-clause-from
returns-in_err-choose_of-2-clause-from c = λ blocks bytes are. c.choose_of-2.ensures.from blocks bytes (c.choose_of.ensures.from blocks bytes (sorted_from c.args.scan.now.reads.items c.sort_unstable_by_key.new.self.items c.sort_unstable_by_key.ensures.permutation blocks bytes are))

pub returns-clause-from : goal.returns-clause-from
returns-clause-from c = λ blocks bytes are.
    c.choose_of-3.ensures.from blocks bytes (c.choose_of-2.ensures.from blocks bytes (c.choose_of.ensures.from blocks bytes (sorted_from c.args.scan.now.reads.items c.sort_unstable_by_key.new.self.items c.sort_unstable_by_key.ensures.permutation blocks bytes are)))
