use Rattle.std.proofs.Common.{rules, tests, ℕ, List}
use Rattle.std.proofs.lemmas.Iterator.{YieldsList-from_zip}
use Rattle.std.proofs.lemmas.Iterator.Consumers.{YieldsList-at}
use Rattle.std.proofs.lemmas.Iterator.Search.{all_from_yields_List}
use Rattle.std.proofs.lemmas.Iterator.Splits.{YieldsList-from_slice_split}
use Rattle.std.specs.Str.{bytes_eq}
use Rattle.case_unpacking.proofs.places.meet.Goals as goal

pub returns : goal.returns
returns c =
    all_from_yields_List (λ (p : List ℕ × List ℕ). bytes_eq p.0 p.1) c.all.new.self _ _ c.all.ensures.ran
    (YieldsList-from_zip {s = c.zip.result}
    (YieldsList-at c.zip.ensures.first (YieldsList-from_slice_split {s = c.split.result} _ _ c.args.path.now c.split.ensures.rest c.split.ensures.done c.split.ensures.closure (λ x r q k. search (rules, tests))))
    (YieldsList-at c.zip.ensures.second (YieldsList-from_slice_split {s = c.split-2.result} _ _ c.args.other.now c.split-2.ensures.rest c.split-2.ensures.done c.split-2.ensures.closure (λ x r q k. search (rules, tests)))))
    (λ x b q k. search (rules, tests))
