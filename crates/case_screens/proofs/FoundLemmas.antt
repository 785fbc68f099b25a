-- What is found among entries is what is found among their cases.
use Rattle.std.proofs.Common.{◌≡◌, Bool, true, false, List, [], ◌∷◌, map, find, Option, Some, None, option_map, refl, ap, ◌∙◌, if◌then◌else◌}
use Rattle.std.specs.Borrow.{Bor}
use Rattle.journal_layout.specs.declared.entry.Entry.{Entry}
use Rattle.journal_layout.specs.Case.{Case, case_of}

found_here : (p : Case → Bool) (e : Entry) (b : Bool) (r : Option Entry) (q : Option Case) → option_map case_of r ≡ q
    → option_map case_of (if b then Some e else r) ≡ (if b then Some (case_of e) else q)
found_here p e true r q is = refl
found_here p e false r q is = is

found_among : (p : Case → Bool) (es : List Entry) → option_map case_of (find (λ e. p (case_of e)) es) ≡ find p (map case_of es)
found_among p [] = refl
found_among p (e ∷ es) = found_here p e (p (case_of e)) _ _ (found_among p es)

case_lent : (r : Option (Bor Entry)) → option_map (λ (e : Bor Entry). case_of e.now) r ≡ option_map case_of (option_map (λ (e : Bor Entry). e.now) r)
case_lent None = refl
case_lent (Some e) = refl

pub found_is : (p : Case → Bool) (es : List Entry) (r : Option (Bor Entry)) → option_map (λ (e : Bor Entry). e.now) r ≡ find (λ e. p (case_of e)) es
    → option_map (λ (e : Bor Entry). case_of e.now) r ≡ find p (map case_of es)
found_is p es r is = case_lent r ∙ ap (option_map case_of) is ∙ found_among p es
