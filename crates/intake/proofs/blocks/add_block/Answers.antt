use Rattle.extents.specs.FreeSet.{free_count}
use Rattle.std.proofs.Common.{◌∙◌, ap, sym, arith, subst, List, ℕ, ◌++◌}
use Rattle.intake.specs.Balance.{Balances}
use Rattle.intake.proofs.CountLemmas.{none_free, some_free, taken_in_use, returned, taken_one, one_block, first_free}
use Rattle.intake.proofs.BlockLemmas.{block_reply, on_ok, block_written}
use Rattle.intake.proofs.CloseLemmas.{always}
use Rattle.intake.proofs.RestLemmas.{rests_still}
use Rattle.intake.proofs.blocks.add_block.Goals as goal

pub returns-in_default-clause-reply : goal.returns-in_default-clause-reply
returns-in_default-clause-reply g c = none_free c.args.free.now c.in_default.ensures.0

pub give_back-requires : goal.give_back-requires
give_back-requires g c = taken_in_use c.args.free.now c.take.new.self c.in-Some.run' c.in-Some.ensures

pub returns-in_default-append-clause-reply : goal.returns-in_default-append-clause-reply
returns-in_default-append-clause-reply g c = some_free c.args.free.now c.take.new.self c.in-Some.run' c.in-Some.ensures

pub returns-in_default-append-clause-balance : goal.returns-in_default-append-clause-balance
returns-in_default-append-clause-balance g c =
    subst (λ (x : List ℕ). Balances c.args.free.now c.args.runs.now c.give_back.new.self x) (sym c.in_default-append.ensures.err)
    (returned c.args.free.now c.take.new.self c.give_back.new.self c.in-Some.run' c.args.runs.now c.in-Some.ensures c.give_back.ensures)

pub returns-clause-balance : goal.returns-clause-balance
returns-clause-balance g c =
    subst (λ (x : List ℕ). Balances c.args.free.now c.args.runs.now c.take.new.self x) (sym c.in-Ok.ensures.ok)
    (taken_one c.args.free.now c.take.new.self c.in-Some.run' c.args.runs.now c.in-Some.ensures)

pub returns-clause-lowest : goal.returns-clause-lowest
returns-clause-lowest g c =
    let t = c.in-Some.ensures in
    always c.write_data.result _ (
      c.in-Some.run'.start,
      (first_free c.args.free.now c.take.new.self c.in-Some.run' t, t.lowest),
      c.in-Ok.ensures.ok ∙ ap (λ (x : List ℕ). c.args.runs.now ++ x) (one_block c.args.free.now c.take.new.self c.in-Some.run' t),
    )

pub returns-clause-added : goal.returns-clause-added
returns-clause-added g c honest =
    let t = c.in-Some.ensures in
    let long = g.met.D.Disk.whole c.args.disk.now honest ∙ c.requires.disk in
    on_ok c.write_data.result _ _ (c.write_data.ensures.written honest)
    (λ written. record {
      block = c.in-Some.run'.start;
      free = first_free c.args.free.now c.take.new.self c.in-Some.run' t;
      blocks = c.in-Ok.ensures.ok ∙ ap (λ (x : List ℕ). c.args.runs.now ++ x) (one_block c.args.free.now c.take.new.self c.in-Some.run' t);
      others = c.write_data.ensures.others honest;
      written = block_written c.args.shape c.in-Some.run'.start _ _ c.args.bytes.now
          (let w = t.within in let m = c.requires.map in let s = t.some in omega (arith, long)) c.requires.bytes written;
    })

pub returns-clause-reply : goal.returns-clause-reply
returns-clause-reply g c = block_reply (free_count c.args.free.now) c.write_data.result (some_free c.args.free.now c.take.new.self c.in-Some.run' c.in-Some.ensures) c.write_data.ensures.reply

pub returns-in_default-append-clause-rests : goal.returns-in_default-append-clause-rests
returns-in_default-append-clause-rests g c j shape none guards = rests_still g.D.Disk c.args.disk.now j (g.met.D.Disk.only_now c.args.disk.now) guards
