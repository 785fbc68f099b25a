use Rattle.std.proofs.Common.{◌≡◌, ℕ, Bool, false, not, Option, None, Some, Bor, sym, arith, nat_cmp}
use Rattle.std.specs.BTreeMap.{get, is_at}
use Rattle.std.specs.Option.{is_some, option_copied}
use Rattle.std.proofs.lemmas.Grind.{common_steps}
use Rattle.salvage.proofs.DropLemmas.{index_more, index_stays}
use Rattle.salvage.proofs.records.Scan.keep_number.Goals as goal

apart : (seq q : ℕ) → (q ≡ seq → ⊥) → is_at (nat_cmp seq) q ≡ false
apart seq q other = grind (arith, common_steps)

some_copied : (o : Option (Bor ℕ)) (r : Option ℕ) (none : Bool) → option_copied o ≡ r → is_some o ≡ not none → none ≡ false → (i : ℕ) × (r ≡ Some i)
some_copied None r none e is named = absurd (cc)
some_copied (Some x) r none e is named = (x.now, sym e)

pub returns-in_ok-insert-clause-indexed : goal.returns-in_ok-insert-clause-indexed
returns-in_ok-insert-clause-indexed c = λ place are.
    let h = c.in_ok-insert.ensures.updates in
    let drops = c.args.self.now.drops in
    index_more drops.items c.args.seq place c.args.self.now.dropped are c.insert.new.self c.len.result (omega (arith, c.len.ensures, drops.ok)) h.1
    (λ q other. h.2 q (apart c.args.seq q other))

pub returns-else-is_none-clause-indexed : goal.returns-else-is_none-clause-indexed
returns-else-is_none-clause-indexed c = λ place are.
    let has = some_copied c.get.result (get nat_cmp c.args.self.now.dropped c.args.seq) c.is_none.result c.get.ensures.value c.is_none.ensures c.if-is_none.false in
    index_stays c.args.self.now.drops.items c.args.seq place c.args.self.now.dropped are has.0 has.1
