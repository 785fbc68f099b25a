use Rattle.std.proofs.Common.{◌≡◌, ℕ, sym, ap, ◌∙◌, true, false, not, cond, List, Some, None, nat_eq}
use Rattle.std.specs.List.{list_any}
use Rattle.std.specs.Str.{bytes_eq}
use Rattle.std.specs.BTreeSet.{contains_by}
use Rattle.std.specs.Ordering.{is_eq}
use Rattle.arrayvec.specs.ArrayVec.{ArrayVec}
use Rattle.journal_layout.specs.Folding.{is_among}
use Rattle.journal_layout.specs.Reading.{name_at, name_place}
use Rattle.journal_layout.specs.declared.faults.Field.TheVariants as named
use Rattle.journal_layout.specs.Checks.{damaged}
use Rattle.journal_records.specs.Named.{has_name, key_of, key_cmp}
use Rattle.journal_records.specs.NamedLaws.{same_key}
use Rattle.journal_records.proofs.NameLemmas.{among_zero, name_fault, not_back}
use Rattle.journal_records.proofs.names.take_name.Goals as goal

pub returns-in-Ok-true : goal.returns-in-Ok-true
returns-in-Ok-true c =
    let rest = c.args.rest.now in
    let old = c.args.names.now in
    let name = name_at rest in
    let clean : is_among name 0 ≡ false =
    ap (λ (n : List ℕ). is_among n 0) (sym c.name_at-name.ensures) ∙ sym (among_zero c.name_at-name.result.items)
    ∙ ap (list_any (λ (b : ℕ). nat_eq b 0)) (sym c.as_slice.ensures.value) ∙ sym c.contains.ensures.value ∙ c.if-contains.false in
    let fresh : has_name old name ≡ false =
    ap (has_name old) (sym c.name_at-name.ensures) ∙ ap (λ (k : ℕ × ArrayVec ℕ). contains_by (key_cmp k) old) (sym c.name_key.ensures)
    ∙ not_back (contains_by (key_cmp c.name_key.result) old) c.in-Ok-true.field-0 c.in-Ok-true.ensures.added ∙ ap not c.in-Ok-true.field-0-test in (
      name_fault c.args.at rest old clean ∙ ap (λ t. cond t (Some (damaged c.args.at named.Name (name_place rest))) None) fresh,
      c.name_at-name.ensures,
      λ q. c.in-Ok-true.ensures.updates.0 (key_of q)
          ∙ ap (λ (k : ℕ × ArrayVec ℕ). cond (is_eq (key_cmp k (key_of q))) true (has_name old q)) c.name_key.ensures
          ∙ ap (λ t. cond t true (has_name old q)) (same_key c.name_at-name.result.items q)
          ∙ ap (λ (n : List ℕ). cond (bytes_eq n q) true (has_name old q)) c.name_at-name.ensures,
    )
