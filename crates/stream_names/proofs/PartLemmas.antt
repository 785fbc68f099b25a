-- One part more.
use Rattle.std.proofs.Common.{◌≡◌, Bool, true, false, ◌||◌, List, [], ◌∷◌, ◌++◌, refl, sym, ap, ◌∙◌}
use Rattle.std.proofs.lemmas.List.{append-nil}
use Rattle.std.proofs.lemmas.Grind.{flat_map-append}
use Rattle.std.specs.List.{list_any}
use Rattle.stream_names.specs.declared.facts.Facts.{Facts}
use Rattle.stream_names.specs.declared.part.Part.{Part}
use Rattle.stream_names.specs.Expansion.{part_text, parts_text, is_pid_part}

pub parts_text-push : (facts : Facts) (parts : List Part) (part : Part) → parts_text facts (parts ++ part ∷ []) ≡ parts_text facts parts ++ part_text facts part
parts_text-push facts parts part =
    flat_map-append (part_text facts) parts (part ∷ []) ∙ ap (λ text. parts_text facts parts ++ text) (append-nil (part_text facts part))

or_false : (a : Bool) → (a || false) ≡ a
or_false true = refl
or_false false = refl

or_assoc : (a b c : Bool) → ((a || b) || c) ≡ (a || (b || c))
or_assoc true b c = refl
or_assoc false b c = refl

pub list_any-push : (parts : List Part) (part : Part) → list_any is_pid_part (parts ++ part ∷ []) ≡ (list_any is_pid_part parts || is_pid_part part)
list_any-push [] part = or_false (is_pid_part part)
list_any-push (x ∷ xs) part = ap (λ b. is_pid_part x || b) (list_any-push xs part) ∙ sym (or_assoc (is_pid_part x) (list_any is_pid_part xs) (is_pid_part part))
