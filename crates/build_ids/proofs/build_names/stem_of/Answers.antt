use Rattle.std.proofs.Common.{◌≡◌, inr, ℕ, List, MatchOption, Option, Bor, ◌++◌, codes, subst}
use Rattle.std.proofs.lemmas.Slice.Eq.{strip_suffix_is}
use Rattle.std.proofs.lemmas.Bool.Decides.{Decides-eqb}
use Rattle.build_ids.proofs.build_names.stem_of.Goals as goal

pub returns-in-Some-clause-either : goal.returns-in-Some-clause-either
returns-in-Some-clause-either c =
    let name = c.args.name.now in
    let found = strip_suffix_is Decides-eqb name (codes ".debug") c.strip_suffix.result c.strip_suffix.ensures.cases in
    inr (subst (λ (o : Option (Bor (List ℕ))). MatchOption o ((front : List ℕ) → name ≡ front ++ codes ".debug" → ⊥) (λ x. name ≡ x.now ++ codes ".debug")) c.in-Some.is found)
