use Rattle.std.proofs.Common.{ap, subst, ◌∙◌, List, Bool}
use Rattle.extents.specs.FreeSet.{IsStretch, is_free, without}
use Rattle.extents.specs.FreeLaws.{run_of}
use Rattle.extents.proofs.RunLemmas.{stretch_within, stretch_taken}
use Rattle.extents.proofs.free_map.FreeMap.take.Goals as goal

pub use_run-requires-clause-within : goal.use_run-requires-clause-within
use_run-requires-clause-within c =
    let mid = c.lowest.new.self in
    let same = c.in_ok-start.ensures.same in
    let start = c.in_ok-start.start in
    stretch_within mid start c.args.want c.stretch-count.result
    (ap (λ f. is_free f start) same ∙ c.in_ok-start.ensures.lowest.0) c.stretch-count.ensures c.requires

pub returns : goal.returns
returns c =
    let old = c.args.self.now in
    let mid = c.lowest.new.self in
    let same = c.in_ok-start.ensures.same in
    let start = c.in_ok-start.start in
    let count = c.stretch-count.result in
    let P : List Bool → Type 0 = λ f. IsStretch f start c.args.want count in
    stretch_taken old start c.args.want count c.in_ok-start.ensures.lowest.0 (subst P same c.stretch-count.ensures) c.requires
    c.use_run.new.self c.in_ok-start.ensures.lowest.1 (c.use_run.ensures ∙ ap (λ f. without f (run_of start count)) same)
