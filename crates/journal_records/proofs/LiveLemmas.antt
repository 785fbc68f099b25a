-- Laws of entries kept under their numbers.
use Rattle.std.proofs.Common.{◌≡◌, inl, inr, ℕ, ◌+◌, ◌<◌, ◌≤◌, Bool, true, false, not, ◌||◌, cond, List, [], ◌∷◌, ◌++◌, map, Option, Some, None, refl, sym, ap, ◌∙◌, arith, nat_eq, Bor}
use Rattle.std.specs.Option.{option_map, option_copied, is_some, is_none}
use Rattle.std.specs.Ordering.{nat_cmp, is_eq}
use Rattle.std.specs.declared.cmp.Ordering.TheVariants.{Less, Equal, Greater}
use Rattle.std.specs.Cmp.{nat_cmp_is}
use Rattle.std.specs.BTreeMap.{is_at}
use Rattle.std.specs.Map.{lookup, remove_entry, values_of}
use Rattle.std.proofs.lemmas.Bool.{cases_lt, cases_eq, eq-eqb, ne_eqb}
use Rattle.journal_layout.specs.declared.entry.Entry.{Entry}
use Rattle.journal_layout.specs.Case.{Case, case_of}
use Rattle.journal_layout.specs.Folding.{is_among, dropped}
use Rattle.journal_layout.specs.Soundness.{case_numbered}
use Rattle.journal_records.specs.Live.{cases_of, AreNumbered, changed_in}

-- the test by which a number is looked up
pub test_same : (s k : ℕ) → k ≡ s → is_eq (nat_cmp s k) ≡ true
test_same s k same = ap is_eq (sym (nat_cmp_is s k Equal (sym same)))

pub test_other : (s k : ℕ) → (k ≡ s → ⊥) → is_eq (nat_cmp s k) ≡ false
test_other s k other =
    elim (cases_lt s k) as (λ _. is_eq (nat_cmp s k) ≡ false) [
      | inl below ↦ ap is_eq (sym (nat_cmp_is s k Less below))
      | inr from ↦ (let above : k < s = omega arith in ap is_eq (sym (nat_cmp_is s k Greater above)))
    ]

pub cases_append : (xs ys : List (ℕ × Entry)) → cases_of (xs ++ ys) ≡ cases_of xs ++ cases_of ys
cases_append [] ys = refl
cases_append (e ∷ xs) ys = ap (λ (cs : List Case). case_of e.1 ∷ cs) (cases_append xs ys)

-- the case of a number is what the entry under it says
pub numbered_found : (low high s : ℕ) (es : List (ℕ × Entry)) → AreNumbered low high es → case_numbered s (cases_of es) ≡ option_map case_of (lookup (is_at (nat_cmp s)) es)
numbered_found low high s [] are = refl
numbered_found low high s (e ∷ es) are =
    let number : e.1.seq ≡ e.0 = are.1 in
    elim (cases_eq e.0 s) as (λ _. case_numbered s (cases_of (e ∷ es)) ≡ option_map case_of (lookup (is_at (nat_cmp s)) (e ∷ es))) [
      | inl same ↦ rw (test_same s e.0 same, eq-eqb e.1.seq s (number ∙ same)) refl
      | inr other ↦ rw (test_other s e.0 other, ne_eqb e.1.seq s (λ f. other (sym number ∙ f))) (numbered_found (e.0 + 1) high s es are.2)
    ]

-- one more after the others
pub numbered_push : (low high k : ℕ) (v : Entry) (es : List (ℕ × Entry)) → AreNumbered low high es → high ≤ k → v.seq ≡ k → AreNumbered low (k + 1) (es ++ (k, v) ∷ [])
numbered_push low high k v [] are above number = (omega arith, number, omega arith)
numbered_push low high k v (e ∷ es) are above number = (are.0, are.1, numbered_push (e.0 + 1) high k v es are.2 above number)

pub numbered_up : (low high more : ℕ) (es : List (ℕ × Entry)) → high ≤ more → AreNumbered low high es → AreNumbered low more es
numbered_up low high more [] up are = (let a : low ≤ high = are in omega arith)
numbered_up low high more (e ∷ es) up are = (are.0, are.1, numbered_up (e.0 + 1) high more es up are.2)

numbered_down : (less low high : ℕ) (es : List (ℕ × Entry)) → less ≤ low → AreNumbered low high es → AreNumbered less high es
numbered_down less low high [] down are = (let a : low ≤ high = are in omega arith)
numbered_down less low high (e ∷ es) down are = (let a : low ≤ e.0 = are.0 in omega arith, are.1, are.2)

-- without an entry the rest is numbered
pub numbered_removed : (low high s : ℕ) (es : List (ℕ × Entry)) → AreNumbered low high es → AreNumbered low high (remove_entry (is_at (nat_cmp s)) es)
numbered_removed low high s [] are = are
numbered_removed low high s (e ∷ es) are =
    elim (is_at (nat_cmp s) e.0) as (λ t. AreNumbered low high (cond t es (e ∷ remove_entry (is_at (nat_cmp s)) es))) [
      | true ↦ (let a : low ≤ e.0 = are.0 in numbered_down low (e.0 + 1) high es (omega arith) are.2)
      | false ↦ (are.0, are.1, numbered_removed (e.0 + 1) high s es are.2)
    ]

-- no case has a number below all of them
pub dropped_none : (low high s : ℕ) (es : List (ℕ × Entry)) → AreNumbered low high es → s < low → dropped (s ∷ []) (cases_of es) ≡ cases_of es
dropped_none low high s [] are below = refl
dropped_none low high s (e ∷ es) are below =
    let a : low ≤ e.0 = are.0 in
    let number : e.1.seq ≡ e.0 = are.1 in
    let other : e.1.seq ≡ s → ⊥ = λ same. absurd (omega arith) in
    ap (λ t. cond (not (t || false)) (case_of e.1 ∷ dropped (s ∷ []) (cases_of es)) (dropped (s ∷ []) (cases_of es))) (ne_eqb e.1.seq s other)
    ∙ ap (λ (cs : List Case). case_of e.1 ∷ cs) (dropped_none (e.0 + 1) high s es are.2 (omega arith))

-- without the entry of a number the others are what a Drop of that number leaves
pub dropped_removed : (low high s : ℕ) (es : List (ℕ × Entry)) → AreNumbered low high es → cases_of (remove_entry (is_at (nat_cmp s)) es) ≡ dropped (s ∷ []) (cases_of es)
dropped_removed low high s [] are = refl
dropped_removed low high s (e ∷ es) are =
    let number : e.1.seq ≡ e.0 = are.1 in
    elim (cases_eq e.0 s) as (λ _. cases_of (remove_entry (is_at (nat_cmp s)) (e ∷ es)) ≡ dropped (s ∷ []) (cases_of (e ∷ es))) [
      | inl same ↦
          ap (λ t. cases_of (cond t es (e ∷ remove_entry (is_at (nat_cmp s)) es))) (test_same s e.0 same)
          ∙ sym (dropped_none (e.0 + 1) high s es are.2 (omega arith))
          ∙ ap (λ t. cond (not (t || false)) (case_of e.1 ∷ dropped (s ∷ []) (cases_of es)) (dropped (s ∷ []) (cases_of es))) (sym (eq-eqb e.1.seq s (number ∙ same)))
      | inr other ↦
          ap (λ t. cases_of (cond t es (e ∷ remove_entry (is_at (nat_cmp s)) es))) (test_other s e.0 other)
          ∙ ap (λ (cs : List Case). case_of e.1 ∷ cs) (dropped_removed (e.0 + 1) high s es are.2)
          ∙ ap (λ t. cond (not (t || false)) (case_of e.1 ∷ dropped (s ∷ []) (cases_of es)) (dropped (s ∷ []) (cases_of es))) (sym (ne_eqb e.1.seq s (λ f. other (sym number ∙ f))))
    ]

-- where no entry has a number, a Drop of it leaves all
pub remove_none : (test : ℕ → Bool) (es : List (ℕ × Entry)) → lookup test es ≡ None → remove_entry test es ≡ es
remove_none test [] none = refl
remove_none test (e ∷ es) none =
    elim (test e.0) as (λ t. cond t (Some e.1) (lookup test es) ≡ None → cond t es (e ∷ remove_entry test es) ≡ e ∷ es) [
      | true ↦ λ (h : Some e.1 ≡ None). absurd (cc)
      | false ↦ λ h. ap (λ (xs : List (ℕ × Entry)). e ∷ xs) (remove_none test es h)
    ] none

-- Drops of several numbers.
pub dropped_empty : (cs : List Case) → dropped [] cs ≡ cs
dropped_empty [] = refl
dropped_empty (c ∷ cs) = ap (λ (ds : List Case). c ∷ ds) (dropped_empty cs)

pub dropped_more : (s : ℕ) (more : List ℕ) (cs : List Case) → dropped (s ∷ more) cs ≡ dropped more (dropped (s ∷ []) cs)
dropped_more s more [] = refl
dropped_more s more (c ∷ cs) =
    elim (nat_eq c.seq s) as (λ t. cond (not (t || is_among more c.seq)) (c ∷ dropped (s ∷ more) cs) (dropped (s ∷ more) cs)
    ≡ dropped more (cond (not (t || false)) (c ∷ dropped (s ∷ []) cs) (dropped (s ∷ []) cs))) [
      | true ↦ dropped_more s more cs
      | false ↦ ap (λ (ds : List Case). cond (not (is_among more c.seq)) (c ∷ ds) ds) (dropped_more s more cs)
    ]

-- a change of the entry of a number

pub changed_missing : (s : ℕ) (change : Entry → Entry) (es : List (ℕ × Entry)) → lookup (is_at (nat_cmp s)) es ≡ None → changed_in s change es ≡ es
changed_missing s change [] is = refl
changed_missing s change (e ∷ es) is =
    elim (cases_eq e.0 s) as (λ _. changed_in s change (e ∷ es) ≡ e ∷ es) [
      | inl same ↦ (
          let nothing : Option Entry = None in
          let here : nothing ≡ Some e.1 = sym is ∙ ap (λ t. cond t (Some e.1) (lookup (is_at (nat_cmp s)) es)) (test_same s e.0 same) in
          absurd (cc))
      | inr other ↦ (
          let later : lookup (is_at (nat_cmp s)) es ≡ None = sym (ap (λ t. cond t (Some e.1) (lookup (is_at (nat_cmp s)) es)) (test_other s e.0 other)) ∙ is in
          ap (λ t. cond t ((e.0, change e.1) ∷ es) (e ∷ changed_in s change es)) (ne_eqb e.0 s other)
          ∙ ap (λ (xs : List (ℕ × Entry)). e ∷ xs) (changed_missing s change es later))
    ]

pub numbered_changed : (low high s : ℕ) (change : Entry → Entry) → ((e : Entry) → (change e).seq ≡ e.seq) → (es : List (ℕ × Entry)) → AreNumbered low high es
    → AreNumbered low high (changed_in s change es)
numbered_changed low high s change same [] are = are
numbered_changed low high s change same (e ∷ es) are =
    elim (nat_eq e.0 s) as (λ t. AreNumbered low high (cond t ((e.0, change e.1) ∷ es) (e ∷ changed_in s change es))) [
      | true ↦ (are.0, same e.1 ∙ are.1, are.2)
      | false ↦ (are.0, are.1, numbered_changed (e.0 + 1) high s change same es are.2)
    ]

-- the same of the cases
abbrev pub changed_as : ℕ → (Case → Case) → Case → Case
changed_as s told c = cond (nat_eq c.seq s) (told c) c

changed_none : (low high s : ℕ) (told : Case → Case) (es : List (ℕ × Entry)) → AreNumbered low high es → s < low → map (changed_as s told) (cases_of es) ≡ cases_of es
changed_none low high s told [] are below = refl
changed_none low high s told (e ∷ es) are below =
    let a : low ≤ e.0 = are.0 in
    let number : e.1.seq ≡ e.0 = are.1 in
    let other : e.1.seq ≡ s → ⊥ = λ same. absurd (omega arith) in
    ap (λ t. cond t (told (case_of e.1)) (case_of e.1) ∷ map (changed_as s told) (cases_of es)) (ne_eqb e.1.seq s other)
    ∙ ap (λ (cs : List Case). case_of e.1 ∷ cs) (changed_none (e.0 + 1) high s told es are.2 (omega arith))

-- the entries then say what the cases say once one is changed
pub changed_cases : (low high s : ℕ) (change : Entry → Entry) (told : Case → Case) → ((e : Entry) → case_of (change e) ≡ told (case_of e)) → (es : List (ℕ × Entry))
    → AreNumbered low high es → cases_of (changed_in s change es) ≡ map (changed_as s told) (cases_of es)
changed_cases low high s change told says [] are = refl
changed_cases low high s change told says (e ∷ es) are =
    let number : e.1.seq ≡ e.0 = are.1 in
    elim (cases_eq e.0 s) as (λ _. cases_of (changed_in s change (e ∷ es)) ≡ map (changed_as s told) (cases_of (e ∷ es))) [
      | inl same ↦
          ap (λ t. cases_of (cond t ((e.0, change e.1) ∷ es) (e ∷ changed_in s change es))) (eq-eqb e.0 s same)
          ∙ ap (λ (d : Case). d ∷ cases_of es) (says e.1)
          ∙ ap (λ (cs : List Case). told (case_of e.1) ∷ cs) (sym (changed_none (e.0 + 1) high s told es are.2 (omega arith)))
          ∙ ap (λ t. cond t (told (case_of e.1)) (case_of e.1) ∷ map (changed_as s told) (cases_of es)) (sym (eq-eqb e.1.seq s (number ∙ same)))
      | inr other ↦
          ap (λ t. cases_of (cond t ((e.0, change e.1) ∷ es) (e ∷ changed_in s change es))) (ne_eqb e.0 s other)
          ∙ ap (λ (cs : List Case). case_of e.1 ∷ cs) (changed_cases (e.0 + 1) high s change told says es are.2)
          ∙ ap (λ t. cond t (told (case_of e.1)) (case_of e.1) ∷ map (changed_as s told) (cases_of es)) (sym (ne_eqb e.1.seq s (λ f. other (sym number ∙ f))))
    ]

-- whether nothing is found of a number is whether no case has it
pub missing_is : (found : Option (Bor Entry)) → not (is_some found) ≡ is_none (option_map case_of (option_copied found))
missing_is None = refl
missing_is (Some e) = refl

-- what the entries say is what their values say
pub cases_values : (es : List (ℕ × Entry)) → cases_of es ≡ map case_of (values_of es)
cases_values [] = refl
cases_values (e ∷ es) = ap (λ (cs : List Case). case_of e.1 ∷ cs) (cases_values es)
