use Rattle.std.proofs.Common.{List, Option, map, sym, ap, ◌∙◌}
use Rattle.std.specs.Option.{option_map}
use Rattle.address_space.specs.Source.{ExecutableView}
use Rattle.build_replies.specs.Builds.{NamedId, values_of}
use Rattle.build_replies.specs.Choosing.{choice_of}
use Rattle.build_replies.specs.Mapped.{told_view}
use Rattle.memory_replies.specs.Memory.{attached_view}
use Rattle.case_queries.specs.Preparing.{prepared_views}
use Rattle.case_queries.specs.ToldWords.{files_told}
use Rattle.case_queries.proofs.facts.core_facts_with.Goals as goal

pub unwind_threads-requires-clause-chosen : goal.unwind_threads-requires-clause-chosen
unwind_threads-requires-clause-chosen g c =
    c.in-Ok.ensures
    ∙ ap (λ (ts : List NamedId). choice_of ts (map attached_view c.deref.result.now)) c.listed.ensures
    ∙ ap (λ ys. choice_of (files_told c.args.told) (map attached_view ys)) c.deref.ensures.value

pub returns-in-Ok-unwind_threads : goal.returns-in-Ok-unwind_threads
returns-in-Ok-unwind_threads g c = λ before sees.
    let o = c.args.image in
    let told = told_view c.args.told.files in
    let views = prepared_views c.args.prepared.now in
    let found = c.in-Ok-unwind_threads.ensures in
    let seen = found.sees before sees in
    let states = c.requires.told.told seen.0 seen.2 in
    let second = ap (map attached_view) c.deref-2.ensures.value in
    record {
      count = found.count;
      frames = found.told before sees;
      image = seen.0;
      seen = seen.1;
      begins = seen.2.0;
      states = states;
      builds = ap (λ (t : Option (List NamedId)). option_map (values_of views) t) states ∙ ap (λ (ys : List ExecutableView). option_map (values_of ys) told) (sym second) ∙ sym c.in-Ok-build_answers.ensures;
    }
