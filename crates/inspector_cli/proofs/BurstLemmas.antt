-- Cases that are counted as entries.
use Rattle.std.proofs.Common.{◌≡◌, suc, Bool, true, false, cond, List, [], ◌∷◌, length, map, refl, ap}
use Rattle.std.specs.List.{filter}
use Rattle.journal_layout.specs.Case.{Case, case_of}
use Rattle.journal_layout.specs.declared.entry.Entry.{Entry}

pub count_mapped : (p : Case → Bool) (es : List Entry) → length (filter (λ (e : Entry). p (case_of e)) es) ≡ length (filter p (map case_of es))
count_mapped p [] = refl
count_mapped p (e ∷ es) =
    let rest = count_mapped p es in
    elim (p (case_of e)) as (λ t. length (cond t (e ∷ filter (λ (x : Entry). p (case_of x)) es) (filter (λ (x : Entry). p (case_of x)) es)) ≡ length (cond t (case_of e ∷ filter p (map case_of es)) (filter p (map case_of es))))
    [ true ↦ ap suc rest | false ↦ rest ]
