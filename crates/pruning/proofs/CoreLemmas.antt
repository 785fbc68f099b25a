-- The cores among the cases, as the retention rule sees them.
use Rattle.std.proofs.Common.{◌≡◌, List, [], ◌∷◌, map, refl, ap, sym, subst}
use Rattle.std.specs.List.{filter}
use Rattle.std.specs.List.Sorted.{IsStrictlyIncreasing}
use Rattle.retention.specs.Rule.{seq_of}
use Rattle.pruning.specs.Cases.{brief_of, core_briefs, is_core, number}
use Rattle.pruning.specs.declared.cases.LiveCase.{LiveCase}
use Rattle.pruning.proofs.NumberLemmas.{increasing, kept_rises, rises}

pub seqs_are : (cases : List LiveCase) → map seq_of (map brief_of cases) ≡ map number cases
seqs_are [] = refl
seqs_are (c ∷ cs) = ap (λ ns. number c ∷ ns) (seqs_are cs)

pub cores_in_order : (cases : List LiveCase) → IsStrictlyIncreasing (map number cases) → IsStrictlyIncreasing (map seq_of (core_briefs cases))
cores_in_order cases order =
    subst IsStrictlyIncreasing (sym (seqs_are (filter is_core cases))) (increasing (map number (filter is_core cases)) (kept_rises number is_core cases (rises (map number cases) order)))
