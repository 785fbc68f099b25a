use Rattle.std.proofs.Common.{List, map, sym, ap, ◌∙◌, arith}
use Rattle.std.proofs.lemmas.List.{take_all}
use Rattle.build_replies.specs.Builds.{id_in, wants_of}
use Rattle.build_replies.specs.BuildsWords.{wanted_view}
use Rattle.build_replies.specs.Mapped.{build_view}
use Rattle.build_replies.specs.TableWords.{path_of, table_rows}
use Rattle.build_replies.specs.declared.answers.BuildAnswer.{BuildAnswer}
use Rattle.build_replies.specs.declared.wanted.WantedBuild.{WantedBuild}
use Rattle.build_replies.proofs.WantLemmas.{next_wanted, wants_none}
use Rattle.build_replies.proofs.wanted.wanted_builds.Goals as goal

pub loop-row-init : goal.loop-row-init
loop-row-init c = record {
  ids = ap (map path_of) c.new-ids.ensures ∙ sym (ap (λ (bs : List WantedBuild). map id_in (map wanted_view bs)) c.new-builds.ensures.items);
  builds = ap (map wanted_view) c.new-builds.ensures.items ∙ wants_none;
}

pub loop-row-preserved : goal.loop-row-preserved
loop-row-preserved c =
    let next = next_wanted c.args.rows.now c.loop-row.row-index c.row-item.result (map path_of (table_rows c.loop-row.ids)) (map path_of (table_rows c.add.new.ids)) (map wanted_view c.loop-row.builds.items) (map wanted_view c.add.new.builds.items) _
    c.loop-row-test.true c.row-item.is c.loop-row.invariant.ids c.loop-row.invariant.builds c.wanted_of.ensures c.in_ok-add.ensures in
    record { ids = next.0; builds = next.1 }

pub returns : goal.returns
returns c =
    c.loop-row.invariant.builds
    ∙ ap (λ (rows : List BuildAnswer). wants_of (map build_view rows)) (take_all c.loop-row.row-index c.args.rows.now (omega (arith, c.loop-row-test.false)))
