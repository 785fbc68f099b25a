-- The number of a case by its name.
use Rattle.std.proofs.Common.{◌≡◌, ℕ, Bool, true, false, cond, find, map, List, [], ◌∷◌, Option, None, Some, refl, ap, ◌∙◌}
use Rattle.std.specs.Borrow.{Bor}
use Rattle.std.specs.Option.{option_map}
use Rattle.std.specs.Str.{bytes_eq}
use Rattle.build_replies.specs.Builds.{NumberedName, number_in, number_named}
use Rattle.build_replies.specs.BuildsWords.{numbered_view}
use Rattle.build_replies.specs.declared.used.NumberedCase.{NumberedCase}

abbrev number_of : NumberedCase → ℕ
number_of c = c.number

number_by : (t : Bool) (c : NumberedCase) (o : Option NumberedCase) (n : Option NumberedName) → option_map number_of o ≡ option_map number_in n
    → option_map number_of (cond t (Some c) o) ≡ option_map number_in (cond t (Some (numbered_view c)) n)
number_by true c o n is = refl
number_by false c o n is = is

number_is : (cs : List NumberedCase) (name : List ℕ) → option_map (λ (c : NumberedCase). c.number) (find (λ (c : NumberedCase). bytes_eq c.name.now name) cs) ≡ number_named (map numbered_view cs) name
number_is [] name = refl
number_is (c ∷ cs) name = number_by (bytes_eq c.name.now name) c _ _ (number_is cs name)

number_found : (o : Option (Bor NumberedCase)) → option_map (λ (c : Bor NumberedCase). c.now.number) o ≡ option_map number_of (option_map (λ (c : Bor NumberedCase). c.now) o)
number_found None = refl
number_found (Some c) = refl

-- the number of the case that is found
pub number_of_found : (cs : List NumberedCase) (name : List ℕ) (o : Option (Bor NumberedCase)) → option_map (λ (c : Bor NumberedCase). c.now) o ≡ find (λ (c : NumberedCase). bytes_eq c.name.now name) cs
    → option_map (λ (c : Bor NumberedCase). c.now.number) o ≡ number_named (map numbered_view cs) name
number_of_found cs name o is = number_found o ∙ ap (option_map number_of) is ∙ number_is cs name
