use Rattle.std.proofs.Common.{◌∙◌, ℕ, List, Vec, ap, subst, sym, arith}
use Rattle.disk_model.specs.Places.{part}
use Rattle.journal_layout.specs.Layout.{data_start}
use Rattle.journal_layout.specs.declared.shape.Shape.{Shape}
use Rattle.std.specs.Global.{Global}
use Rattle.salvage.specs.Contests.{IsBehind, Knows, OfEachBehind}
use Rattle.salvage.specs.Doubting.{IsBound}
use Rattle.salvage.specs.Reads.{AreFrom}
use Rattle.salvage.specs.Records.{IsDeleted}
use Rattle.std.specs.List.{Contains}
use Rattle.journal_layout.specs.Case.{case_of}
use Rattle.salvage.specs.declared.records.Dropped.{Dropped}
use Rattle.salvage.specs.declared.records.Read.{Read}
use Rattle.salvage.proofs.ContestLemmas.{known_behind}
use Rattle.salvage.proofs.ReadsLemmas.{halves_still}
use Rattle.salvage.proofs.cases_found.look_on.Goals as goal

pub returns-clause-all : goal.returns-clause-all
returns-clause-all g c = λ honest.
    let shape = c.shape-shape.result in
    let bytes = g.S.Source.seen c.args.source.now in
    halves_still shape c.args.first.now.standing.shape c.deref.result.now (part bytes 0 (data_start c.args.first.now.standing.shape)) c.in_ok-scan.scan.reads.items c.choose_front.new.scan.reads.items c.in_ok-scan.scan.drops.items c.choose_front.new.scan.drops.items
    c.shape-shape.ensures
    (c.deref.ensures.value ∙ c.in_ok-front.ensures.bytes honest ∙ ap (λ (s : Shape). part bytes 0 (data_start s)) c.shape-shape.ensures)
    c.in-Ok.ensures.stay (λ k named. subst (λ (v : Vec Dropped Global). IsDeleted v.items k) (sym c.choose_front.ensures.drops) named)
    (c.in_ok-scan.ensures.all (omega (arith, c.deref.ensures.len, c.in_ok-front.ensures.long, c.in_ok-front.front.ok)))

pub returns-clause-from : goal.returns-clause-from
returns-clause-from g c = λ honest.
    let shape = c.shape-shape.result in
    let bytes = g.S.Source.seen c.args.source.now in
    subst (λ (s : Shape). AreFrom s.data_blocks (part bytes 0 (data_start s)) c.choose_front.new.scan.reads.items) c.shape-shape.ensures
    (subst (λ (l : List ℕ). AreFrom shape.data_blocks l c.choose_front.new.scan.reads.items) (c.deref.ensures.value ∙ c.in_ok-front.ensures.bytes honest)
    (c.in-Ok.ensures.from shape.data_blocks c.deref.result.now c.in_ok-scan.ensures.from))

pub returns-clause-bound : goal.returns-clause-bound
returns-clause-bound g c = λ honest.
    let shape = c.shape-shape.result in
    let bytes = g.S.Source.seen c.args.source.now in
    subst (λ (s : Shape). IsBound s (part bytes 0 (data_start s)) c.args.trouble c.in_ok-doubts.doubts.bound) c.shape-shape.ensures
    (subst (λ (l : List ℕ). IsBound shape l c.args.trouble c.in_ok-doubts.doubts.bound) (c.deref-2.ensures.value ∙ c.in_ok-front.ensures.bytes honest) c.in_ok-doubts.ensures.bound)

pub returns-clause-behind : goal.returns-clause-behind
returns-clause-behind g c = λ honest.
    let shape = c.shape-shape.result in
    let bytes = g.S.Source.seen c.args.source.now in
    let d = c.in_ok-doubts.doubts in
    let gate = c.args.trouble.gate in
    subst (λ (s : Shape). OfEachBehind s (part bytes 0 (data_start s)) gate (Knows d)) c.shape-shape.ensures
    (subst (λ (l : List ℕ). OfEachBehind shape l gate (Knows d)) (c.deref.ensures.value ∙ c.in_ok-front.ensures.bytes honest)
    (known_behind shape c.deref.result.now gate d c.in_ok-scan.scan.reads.items c.in_ok-scan.scan.drops.items
    (subst (λ (rs : List Read). (r : Read) → Contains rs r → IsBehind shape gate r.place.start → Knows d (case_of r.entry)) c.deref-3.ensures.value c.in_ok-doubts.ensures.known)
    (c.in_ok-scan.ensures.all (omega (arith, c.deref.ensures.len, c.in_ok-front.ensures.long, c.in_ok-front.front.ok)))))
