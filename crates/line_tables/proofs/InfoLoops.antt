-- Specifications, declarations, attributes and units, one after another.
use Rattle.std.proofs.Common.{◌≡◌, ◌≢◌, ◌<◌, ◌≤◌, ◌+◌, ◌-◌, ◌==◌, ℕ, suc, Bool, true, false, cond, List, [], ◌∷◌, find, Option, Some, None, refl, ap, ◌∙◌, sym, arith}
use Rattle.std.proofs.lemmas.Bool.{eq-eqb, ne_eqb}
use Rattle.std.specs.Option.{option_and_then, option_map, option_or}
use Rattle.line_tables.specs.Units.{UnitView}
use Rattle.line_tables.specs.Abbreviations.{specification, is_end, behind_specifications, behind_declaration, declaration, declared_among}
use Rattle.line_tables.specs.InfoEntries.{AttributeView, attribute_in, attributes_for, is_named}
use Rattle.line_tables.specs.InfoEntryWords.{attribute_view}
use Rattle.line_tables.specs.UnitFinding.{CompilationsView, entries_of, has_table, directory_of}
use Rattle.line_tables.specs.declared.info_entries.Attribute.{Attribute}

next_left : (k i : ℕ) → i < k → k - i ≡ suc (k - (i + 1))
next_left k i h = omega arith

none_left : (k i : ℕ) → k ≤ i → k - i ≡ 0
none_left k i h = omega arith

-- the specifications of a declaration
module _ (k i : ℕ) (bytes : List ℕ) where
  specifications_step : (o : Option (ℕ × ℕ × List ℕ)) → i < k → o ≡ specification bytes → behind_specifications (k - i) bytes ≡ option_and_then (λ (s : ℕ × ℕ × List ℕ). cond (is_end s.0 s.1) (Some s.2) (behind_specifications (k - (i + 1)) s.2)) o
  unfolding behind_specifications
  specifications_step o h is =
      ap (λ n. behind_specifications n bytes) (next_left k i h)
      ∙ ap (option_and_then (λ (s : ℕ × ℕ × List ℕ). cond (is_end s.0 s.1) (Some s.2) (behind_specifications (k - (i + 1)) s.2))) (sym is)

  pub specifications_missing : i < k → None ≡ specification bytes → behind_specifications (k - i) bytes ≡ None
  specifications_missing h is = specifications_step None h is

  pub specifications_by : (name form : ℕ) (rest : List ℕ) (t : Bool) → i < k → Some (name, form, rest) ≡ specification bytes → t ≡ is_end name form → behind_specifications (k - i) bytes ≡ cond t (Some rest) (behind_specifications (k - (i + 1)) rest)
  specifications_by name form rest t h is ends =
      specifications_step (Some (name, form, rest)) h is
      ∙ ap (λ u. cond u (Some rest) (behind_specifications (k - (i + 1)) rest)) (sym ends)

  pub specifications_none : k ≤ i → behind_specifications (k - i) bytes ≡ None
  unfolding behind_specifications
  specifications_none h = ap (λ n. behind_specifications n bytes) (none_left k i h)

-- the declarations of a table
module _ (k i code : ℕ) (bytes : List ℕ) where
  declared_step : (o : Option (ℕ × List ℕ)) → i < k → o ≡ declaration bytes → declared_among (k - i) code bytes ≡ option_and_then (λ (d : ℕ × List ℕ). cond (d.0 == code) (Some d.1) (option_and_then (declared_among (k - (i + 1)) code) (behind_declaration d.1))) o
  unfolding declared_among
  declared_step o h is =
      ap (λ n. declared_among n code bytes) (next_left k i h)
      ∙ ap (option_and_then (λ (d : ℕ × List ℕ). cond (d.0 == code) (Some d.1) (option_and_then (declared_among (k - (i + 1)) code) (behind_declaration d.1)))) (sym is)

  pub declared_missing : i < k → None ≡ declaration bytes → declared_among (k - i) code bytes ≡ None
  declared_missing h is = declared_step None h is

  pub declared_found : (found : ℕ) (specifications : List ℕ) → i < k → Some (found, specifications) ≡ declaration bytes → found ≡ code → declared_among (k - i) code bytes ≡ Some specifications
  declared_found found specifications h is same =
      declared_step (Some (found, specifications)) h is
      ∙ ap (λ t. cond t (Some specifications) (option_and_then (declared_among (k - (i + 1)) code) (behind_declaration specifications))) (eq-eqb found code same)

  pub declared_by : (found : ℕ) (specifications : List ℕ) (o : Option (List ℕ)) → i < k → Some (found, specifications) ≡ declaration bytes → found ≢ code → o ≡ behind_declaration specifications → declared_among (k - i) code bytes ≡ option_and_then (declared_among (k - (i + 1)) code) o
  declared_by found specifications o h is other at =
      declared_step (Some (found, specifications)) h is
      ∙ ap (λ t. cond t (Some specifications) (option_and_then (declared_among (k - (i + 1)) code) (behind_declaration specifications))) (ne_eqb found code other)
      ∙ ap (option_and_then (declared_among (k - (i + 1)) code)) (sym at)

  pub declared_none : k ≤ i → declared_among (k - i) code bytes ≡ None
  unfolding declared_among
  declared_none h = ap (λ n. declared_among n code bytes) (none_left k i h)

-- the first attribute of a name: one that is found already, or else the first of those that are left
abbrev pub first_of : ℕ → Option AttributeView → Option (List AttributeView) → Option AttributeView
first_of name found attributes = option_and_then (λ left. option_or found (find (is_named name) left)) attributes

or_none : (o : Option AttributeView) → option_or o None ≡ o
or_none None = refl
or_none (Some a) = refl

-- the code's attributes alike
pub either : (found next new : Option Attribute) → new ≡ option_or found next → option_map attribute_view new ≡ option_or (option_map attribute_view found) (option_map attribute_view next)
either None next new is = ap (option_map attribute_view) is
either (Some a) next new is = ap (option_map attribute_view) is

-- an attribute, if it has a name
abbrev pub if_named : ℕ → AttributeView → Option AttributeView
if_named name a = cond (is_named name a) (Some a) None

named_by : (found : Option AttributeView) (a : AttributeView) (rest : Option AttributeView) (t : Bool) → option_or found (cond t (Some a) rest) ≡ option_or (option_or found (cond t (Some a) None)) rest
named_by None a rest true = refl
named_by None a rest false = refl
named_by (Some b) a rest true = refl
named_by (Some b) a rest false = refl

named : (name : ℕ) (found : Option AttributeView) (a : AttributeView) (o : Option (List AttributeView)) → first_of name found (option_map (λ more. a ∷ more) o) ≡ first_of name (option_or found (if_named name a)) o
named name found a None = refl
named name found a (Some more) = named_by found a (find (is_named name) more) (is_named name a)

module _ (k i name version : ℕ) (found : Option AttributeView) (specifications values : List ℕ) where
  attributes_step : (o : Option (ℕ × ℕ × List ℕ)) → i < k → o ≡ specification specifications → attributes_for (k - i) version specifications values ≡ option_and_then (λ (s : ℕ × ℕ × List ℕ). cond (is_end s.0 s.1) (Some []) (option_and_then (λ (a : AttributeView × List ℕ). option_map (λ more. a.0 ∷ more) (attributes_for (k - (i + 1)) version s.2 a.1)) (attribute_in version s.0 s.1 values))) o
  unfolding attributes_for
  attributes_step o h is =
      ap (λ n. attributes_for n version specifications values) (next_left k i h)
      ∙ ap (option_and_then (λ (s : ℕ × ℕ × List ℕ). cond (is_end s.0 s.1) (Some []) (option_and_then (λ (a : AttributeView × List ℕ). option_map (λ more. a.0 ∷ more) (attributes_for (k - (i + 1)) version s.2 a.1)) (attribute_in version s.0 s.1 values)))) (sym is)

  pub attributes_missing : i < k → None ≡ specification specifications → first_of name found (attributes_for (k - i) version specifications values) ≡ None
  attributes_missing h is = ap (first_of name found) (attributes_step None h is)

  attributes_by : (n form : ℕ) (rest : List ℕ) (t : Bool) → i < k → Some (n, form, rest) ≡ specification specifications → t ≡ is_end n form → attributes_for (k - i) version specifications values ≡ cond t (Some []) (option_and_then (λ (a : AttributeView × List ℕ). option_map (λ more. a.0 ∷ more) (attributes_for (k - (i + 1)) version rest a.1)) (attribute_in version n form values))
  attributes_by n form rest t h is ends =
      attributes_step (Some (n, form, rest)) h is
      ∙ ap (λ u. cond u (Some []) (option_and_then (λ (a : AttributeView × List ℕ). option_map (λ more. a.0 ∷ more) (attributes_for (k - (i + 1)) version rest a.1)) (attribute_in version n form values))) (sym ends)

  pub attributes_ended : (n form : ℕ) (rest : List ℕ) → i < k → Some (n, form, rest) ≡ specification specifications → true ≡ is_end n form → first_of name found (attributes_for (k - i) version specifications values) ≡ found
  attributes_ended n form rest h is ends =
      ap (first_of name found) (attributes_by n form rest true h is ends) ∙ or_none found

  pub attributes_cut : (n form : ℕ) (rest : List ℕ) → i < k → Some (n, form, rest) ≡ specification specifications → false ≡ is_end n form → None ≡ attribute_in version n form values → first_of name found (attributes_for (k - i) version specifications values) ≡ None
  attributes_cut n form rest h is ends cut =
      ap (first_of name found) (attributes_by n form rest false h is ends ∙ ap (option_and_then (λ (a : AttributeView × List ℕ). option_map (λ more. a.0 ∷ more) (attributes_for (k - (i + 1)) version rest a.1))) (sym cut))

  pub attributes_on : (n form : ℕ) (rest behind : List ℕ) (a : AttributeView) (new : Option AttributeView) → i < k → Some (n, form, rest) ≡ specification specifications → false ≡ is_end n form → Some (a, behind) ≡ attribute_in version n form values → new ≡ option_or found (if_named name a) → first_of name found (attributes_for (k - i) version specifications values) ≡ first_of name new (attributes_for (k - (i + 1)) version rest behind)
  attributes_on n form rest behind a new h is ends at joins =
      ap (first_of name found) (attributes_by n form rest false h is ends ∙ ap (option_and_then (λ (b : AttributeView × List ℕ). option_map (λ more. b.0 ∷ more) (attributes_for (k - (i + 1)) version rest b.1))) (sym at))
      ∙ named name found a (attributes_for (k - (i + 1)) version rest behind)
      ∙ ap (λ o. first_of name o (attributes_for (k - (i + 1)) version rest behind)) (sym joins)

  pub attributes_none : k ≤ i → first_of name found (attributes_for (k - i) version specifications values) ≡ None
  unfolding attributes_for
  attributes_none h = ap (λ n. first_of name found (attributes_for n version specifications values)) (none_left k i h)

-- the directory in the first of some units that has the line table
abbrev pub directory_among : CompilationsView → ℕ → List UnitView → Option (List ℕ)
directory_among c p us = option_and_then (directory_of c.debug_str) (find (has_table p) (entries_of c us))
