use Rattle.std.proofs.Common.{◌≡◌, Bool, true, false, cond, ap, ◌∙◌, subst, refl}
use Rattle.std.specs.BTreeSet.{contains_by}
use Rattle.extents.specs.RunLaws.{blocks_of_runs}
use Rattle.extents.specs.Runs.{blocks_of}
use Rattle.journal_records.specs.Named.{key_of, key_cmp}
use Rattle.salvage.specs.Contests.{AreUsed}
use Rattle.salvage.proofs.doubts.Doubts.take.Goals as goal

still_true : (x : Bool) {y : Bool} → y ≡ true → cond x true y ≡ true
still_true true was = refl
still_true false was = was

pub returns-clause-knows : goal.returns-clause-knows
returns-clause-knows c = record {
  number = c.in_ok-insert.ensures.updates.1;
  name = subst (λ k. contains_by (key_cmp k) c.insert-2.new.self ≡ true) c.name_key.ensures c.in_ok-insert-2.ensures.updates.1;
  blocks = subst (AreUsed c.take.new.self.used.items true) (ap blocks_of c.runs.ensures.shortest ∙ blocks_of_runs c.args.entry.now.runs) c.take.ensures.used;
}

pub returns-clause-stay : goal.returns-clause-stay
returns-clause-stay c = λ one knows. record {
  number = c.in_ok-insert.ensures.updates.0 one.seq ∙ still_true _ knows.number;
  name = c.in_ok-insert-2.ensures.updates.0 (key_of one.origin.name) ∙ still_true _ knows.name;
  blocks = λ block has. c.take.ensures.stay block (knows.blocks block has);
}
