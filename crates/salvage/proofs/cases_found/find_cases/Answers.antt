use Rattle.std.proofs.Common.{inl, refl, ap, ◌∙◌, subst, sym, arith, None}
use Rattle.std.proofs.lemmas.Option.{none-some, same_Some}
use Rattle.std.proofs.lemmas.Result.{err_from_is_err_and}
use Rattle.disk_model.specs.Places.{part}
use Rattle.journal_layout.specs.Layout.{data_start}
use Rattle.salvage.specs.Readings.{fault_by}
use Rattle.salvage.specs.Reads.{AreFrom}
use Rattle.salvage.specs.Records.{AreDrops}
use Rattle.salvage.proofs.SightLemmas.{gate_sound, opens_short, same_ok, shut_found}
use Rattle.salvage.specs.Contests.{Knows, OfEachBehind}
use Rattle.salvage.specs.Doubting.{IsBound}
use Rattle.salvage.specs.declared.doubts.Doubts.{Doubts}
use Rattle.salvage.specs.declared.doubts.Trouble.{Trouble}
use Rattle.salvage.proofs.cases_found.find_cases.Goals as goal

pub returns-in_err-first-clause-finds : goal.returns-in_err-first-clause-finds
returns-in_err-first-clause-finds g c = λ honest.
    let p = err_from_is_err_and c.from_residual-in_err-first.result c.from_residual-in_err-first.ensures.1 in
    rw (p.1, p.2)
    (inl (opens_short (g.S.Source.seen c.args.source.now) c.in_ok-sight.sight.patch (c.in_ok-sight.ensures.finds honest).opens c.in_err-first.field-0.0 (c.in_err-first.ensures.gives honest)))

pub returns-in_default-clause-finds : goal.returns-in_default-clause-finds
returns-in_default-clause-finds g c = λ honest. record {
  sees = c.in_ok-sight.ensures.finds honest;
  first = c.in_ok-first.ensures.gives honest;
  more = λ m is. absurd (cc);
  drops = subst (AreDrops (part (g.S.Source.seen c.args.source.now) 0 (data_start c.in_ok-first.first.standing.shape))) (sym c.new.ensures.drops) tt;
  from = subst (AreFrom c.in_ok-first.first.standing.shape.data_blocks (part (g.S.Source.seen c.args.source.now) 0 (data_start c.in_ok-first.first.standing.shape))) (sym c.new.ensures.reads) (λ r has. absurd (omega (arith, has.1)));
  indexed = c.new.ensures.indexed;
  reads = λ some. absurd (some (ap (fault_by c.in_ok-sight.sight.fault) (c.trouble_in.ensures.trouble c.in_default.is).1 ∙ (c.trouble_in.ensures.trouble c.in_default.is).0));
  shut =
      shut_found (g.S.Source.seen c.args.source.now) c.in_ok-sight.sight c.in_ok-first.first.standing (c.in_ok-sight.ensures.finds honest) (c.in_ok-first.ensures.gives honest)
      c.in_ok-shut.shut (c.in_ok-shut.ensures.finds honest);
  refused = λ some. same_ok c.in_ok-shut.shut None (c.in_ok-shut.ensures.refused some);
  sound = λ none. refl;
  bound = λ t some. absurd (none-some t (sym c.in_default.is ∙ c.trouble_in.ensures.said ∙ some));
  behind = λ t some. absurd (none-some t (sym c.in_default.is ∙ c.trouble_in.ensures.said ∙ some));
}

pub returns-clause-finds : goal.returns-clause-finds
returns-clause-finds g c = λ honest. record {
  sees = c.in_ok-sight.ensures.finds honest;
  first = c.in_ok-first.ensures.gives honest;
  more = λ m is. (c.in_ok-scan.doubts, refl, c.in_ok-scan.ensures.more honest m is);
  drops = c.in_ok-scan.ensures.drops honest;
  from = c.in_ok-scan.ensures.from honest;
  indexed = c.in_ok-scan.ensures.indexed;
  reads = λ some. c.in_ok-scan.ensures.all honest;
  shut =
      shut_found (g.S.Source.seen c.args.source.now) c.in_ok-sight.sight c.in_ok-first.first.standing (c.in_ok-sight.ensures.finds honest) (c.in_ok-first.ensures.gives honest)
      c.in_ok-shut.shut (c.in_ok-shut.ensures.finds honest);
  refused = λ some. same_ok c.in_ok-shut.shut None (c.in_ok-shut.ensures.refused some);
  sound = λ none. absurd (gate_sound c.in_ok-sight.sight.fault c.in_ok-shut.shut c.trouble_in.result c.in-Some.trouble c.trouble_in.ensures.sound c.in-Some.is none);
  bound = λ t some.
      subst (λ (t : Trouble). IsBound c.in_ok-first.first.standing.shape (part (g.S.Source.seen c.args.source.now) 0 (data_start c.in_ok-first.first.standing.shape)) t c.in_ok-scan.doubts.bound)
      (same_Some c.in-Some.trouble t (sym c.in-Some.is ∙ c.trouble_in.ensures.said ∙ some)) (c.in_ok-scan.ensures.bound honest);
  behind = λ t some d is.
      subst (λ (x : Doubts). OfEachBehind c.in_ok-first.first.standing.shape (part (g.S.Source.seen c.args.source.now) 0 (data_start c.in_ok-first.first.standing.shape)) t.gate (Knows x)) (same_Some c.in_ok-scan.doubts d is)
      (subst (λ (t : Trouble). OfEachBehind c.in_ok-first.first.standing.shape (part (g.S.Source.seen c.args.source.now) 0 (data_start c.in_ok-first.first.standing.shape)) t.gate (Knows c.in_ok-scan.doubts))
      (same_Some c.in-Some.trouble t (sym c.in-Some.is ∙ c.trouble_in.ensures.said ∙ some)) (c.in_ok-scan.ensures.behind honest));
}
