use Rattle.std.proofs.Common.{None, subst, sym}
use Rattle.salvage.specs.Reads.{AreFrom}
use Rattle.salvage.specs.declared.records.Fate.TheVariants.{Same}
use Rattle.salvage.proofs.ReadsLemmas.{push_from}
use Rattle.salvage.proofs.records.Scan.take_store.Goals as goal

pub returns-clause-from : goal.returns-clause-from
returns-clause-from c = λ blocks bytes is are.
    subst (AreFrom blocks bytes) (sym c.in_ok-push.ensures.items)
    (push_from blocks bytes c.args.self.now.reads.items (record { place = c.args.place; entry = c.args.entry; label = None; fate = Same }) is are)
