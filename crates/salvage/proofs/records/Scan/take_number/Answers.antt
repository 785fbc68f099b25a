use Rattle.std.proofs.Common.{Vec, List, subst, sym}
use Rattle.std.specs.Global.{Global}
use Rattle.salvage.specs.Records.{AreDrops, IsDeleted}
use Rattle.salvage.specs.declared.records.Dropped.{Dropped}
use Rattle.salvage.proofs.DropLemmas.{deleted_last, deleted_old, drops_more}
use Rattle.salvage.proofs.records.Scan.take_number.Goals as goal

pub returns-clause-drops : goal.returns-clause-drops
returns-clause-drops c = λ are.
    let front = c.args.front.now in
    let new = c.keep_number.new.self.drops in
    let d : Dropped = record { seq = c.number_at-seq.result; place = c.args.place } in
    let kept = subst (λ (v : Vec Dropped Global). AreDrops front v.items) (sym c.in_ok-keep_number.ensures.drops) are in
    subst (AreDrops front) (sym c.in_ok-push.ensures.items)
    (drops_more front new.items d kept (record { kind = c.requires.kind; index = c.args.index; number = c.number_at-seq.ensures }))

pub returns-clause-kept : goal.returns-clause-kept
returns-clause-kept c = λ k old.
    let d : Dropped = record { seq = c.number_at-seq.result; place = c.args.place } in
    subst (λ (ds : List Dropped). IsDeleted ds k) (sym c.in_ok-push.ensures.items)
    (deleted_old c.keep_number.new.self.drops.items d k (subst (λ (v : Vec Dropped Global). IsDeleted v.items k) (sym c.in_ok-keep_number.ensures.drops) old))

pub returns-clause-named : goal.returns-clause-named
returns-clause-named c =
    let d : Dropped = record { seq = c.number_at-seq.result; place = c.args.place } in
    subst (IsDeleted c.push.new.self.items) c.number_at-seq.ensures
    (subst (λ (ds : List Dropped). IsDeleted ds d.seq) (sym c.in_ok-push.ensures.items) (deleted_last c.keep_number.new.self.drops.items d))
