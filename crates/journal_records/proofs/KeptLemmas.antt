-- What holds of the working state stays as records are applied.
use Rattle.std.proofs.Common.{◌≡◌, inl, inr, ℕ, zero, suc, ◌+◌, ◌<◌, ◌≤◌, Bool, true, false, ◌||◌, cond, nat_eq, nat_lt, List, [], ◌∷◌, ◌++◌, length, get_or, Option, Some, None, refl, sym, ap, ◌∙◌, arith}
use Rattle.std.proofs.lemmas.Bool.{cases_lt, le-ltb}
use Rattle.std.proofs.lemmas.List.{append-nil}
use Rattle.std.proofs.lemmas.Grind.{flat_map-append}
use Rattle.std.proofs.lemmas.List.Sums.{sum_by-cons, sum_by-append}
use Rattle.std.specs.List.{sum_by, All}
use Rattle.std.specs.Str.{bytes_eq}
use Rattle.std.specs.Map.{lookup, remove_entry}
use Rattle.extents.specs.declared.run_list.Run.{Run}
use Rattle.extents.specs.Runs.{runs_of, blocks_of}
use Rattle.extents.specs.FreeSet.{is_free, one_if, with_runs, AreUsed}
use Rattle.extents.specs.FreeSet as flags
use Rattle.extents.specs.FreeLaws.{one_free_with, length_with}
use Rattle.journal_layout.specs.declared.entry.Entry.{Entry}
use Rattle.journal_layout.specs.Case.{Case, case_of}
use Rattle.journal_layout.specs.Folding.{used_blocks, is_name_of}
use Rattle.journal_layout.specs.Soundness.{uses}
use Rattle.journal_layout.specs.SpareLaws.{uses-append}
use Rattle.journal_layout.specs.ChainLaws.{AreInChain, chain_of, blocks_back}
use Rattle.journal_records.specs.Live.{cases_of, changed_in}
use Rattle.journal_records.specs.Taken.{Accounts}
use Rattle.journal_records.specs.Kept.{bearers}
use Rattle.journal_records.proofs.LiveLemmas.{cases_append}
use Rattle.journal_records.proofs.RunLemmas.{uses_same}

-- Sums over the cases.

pub sum_removed : (f : Case → ℕ) (test : ℕ → Bool) (v : Entry) (es : List (ℕ × Entry)) → Some v ≡ lookup test es → sum_by f (cases_of (remove_entry test es)) + f (case_of v) ≡ sum_by f (cases_of es)
sum_removed f test v [] is = absurd (cc)
sum_removed f test v (e ∷ es) is =
    elim (test e.0) as (λ t. Some v ≡ cond t (Some e.1) (lookup test es) → sum_by f (cases_of (cond t es (e ∷ remove_entry test es))) + f (case_of v) ≡ sum_by f (cases_of (e ∷ es))) [
      | true ↦ λ (h : Some v ≡ Some e.1).
          let one : v ≡ e.1 = cc in
          ap (λ (w : Entry). sum_by f (cases_of es) + f (case_of w)) one ∙ (let s = sum_by-cons f (case_of e.1) (cases_of es) in omega (arith, s))
      | false ↦ λ (h : Some v ≡ lookup test es).
          let rest = sum_removed f test v es h in
          let before = sum_by-cons f (case_of e.1) (cases_of (remove_entry test es)) in
          let after = sum_by-cons f (case_of e.1) (cases_of es) in
          omega (arith, rest, before, after)
    ] is

pub sum_changed : (f : Case → ℕ) (s : ℕ) (change : Entry → Entry) → ((e : Entry) → f (case_of (change e)) ≡ f (case_of e)) → (es : List (ℕ × Entry))
    → sum_by f (cases_of (changed_in s change es)) ≡ sum_by f (cases_of es)
sum_changed f s change same [] = refl
sum_changed f s change same (e ∷ es) =
    elim (nat_eq e.0 s) as (λ t. sum_by f (cases_of (cond t ((e.0, change e.1) ∷ es) (e ∷ changed_in s change es))) ≡ sum_by f (cases_of (e ∷ es))) [
      | true ↦ sum_by-cons f (case_of (change e.1)) (cases_of es) ∙ ap (λ n. n + sum_by f (cases_of es)) (same e.1) ∙ sym (sum_by-cons f (case_of e.1) (cases_of es))
      | false ↦ sum_by-cons f (case_of e.1) (cases_of (changed_in s change es)) ∙ ap (λ n. f (case_of e.1) + n) (sum_changed f s change same es) ∙ sym (sum_by-cons f (case_of e.1) (cases_of es))
    ]

-- how often the cases use a block
pub uses_cases : (k : ℕ) (cs : List Case) → uses k (used_blocks cs) ≡ sum_by (λ (c : Case). uses k c.blocks) cs
uses_cases k [] = refl
uses_cases k (c ∷ cs) =
    let joined = uses-append k c.blocks (used_blocks cs) in
    let rest = uses_cases k cs in
    let sum = sum_by-cons (λ (d : Case). uses k d.blocks) c cs in
    omega (arith, joined, rest, sum)

pub used_removed : (k : ℕ) (test : ℕ → Bool) (v : Entry) (es : List (ℕ × Entry)) → Some v ≡ lookup test es
    → uses k (used_blocks (cases_of (remove_entry test es))) + uses k v.runs ≡ uses k (used_blocks (cases_of es))
used_removed k test v es is =
    let sum = sum_removed (λ (c : Case). uses k c.blocks) test v es is in
    let before = uses_cases k (cases_of es) in
    let after = uses_cases k (cases_of (remove_entry test es)) in
    omega (arith, sum, before, after)

pub bearers_removed : (name : List ℕ) (test : ℕ → Bool) (v : Entry) (es : List (ℕ × Entry)) → Some v ≡ lookup test es
    → bearers (cases_of (remove_entry test es)) name + one_if (bytes_eq v.name.items name) ≡ bearers (cases_of es) name
bearers_removed name test v es is = sum_removed (λ (c : Case). one_if (bytes_eq c.origin.name name)) test v es is

-- Names.

one_most : (t : Bool) → one_if t ≤ 1
one_most true = omega arith
one_most false = omega arith

-- without the name of the case that is dropped
pub names_removed : (here old : Bool) (less all : ℕ) → less + one_if here ≡ all → all ≡ one_if old → less ≡ one_if (cond here false old)
names_removed true old less all sum is = (let m = one_most old in let s : less + 1 ≡ all = sum in omega (arith, is, m))
names_removed false old less all sum is = (let s : less + 0 ≡ all = sum in let i : all ≡ one_if old = is in omega (arith, s, i))

-- with the name of one case more, which is new
pub names_more : (here old : Bool) (all more : ℕ) → more ≡ all + one_if here → all ≡ one_if old → (here ≡ true → old ≡ false) → more ≡ one_if (cond here true old)
names_more true old all more sum is fresh =
    let e : one_if old ≡ 0 = ap one_if (fresh refl) in
    let s : more ≡ all + 1 = sum in
    omega (arith, is, e)
names_more false old all more sum is fresh = (let s : more ≡ all + 0 = sum in let i : all ≡ one_if old = is in omega (arith, s, i))

-- Blocks.

chain_some : (end : Option ℕ) (rs : List Run) → AreInChain end rs → All (λ (r : Run). 1 ≤ r.count) rs
chain_some end [] chain = λ k d below. absurd (omega arith)
chain_some end (r ∷ rs) chain = each (chain_some (Some (r.start + r.count)) rs chain.2)
  where
    each : All (λ (s : Run). 1 ≤ s.count) rs → (k : ℕ) (d : Run) → k < length (r ∷ rs) → 1 ≤ (get_or (r ∷ rs) k d).count
    each rest zero d below = chain.0
    each rest (suc k) d below = rest k d (omega arith)

one_true : (t : Bool) → 1 ≤ one_if t → t ≡ true
one_true true some = refl
one_true false some = absurd (omega arith)

one_false : (t : Bool) → one_if t ≤ 0 → t ≡ false
one_false true none = absurd (omega arith)
one_false false none = refl

below_of : (k n : ℕ) → nat_lt k n ≡ true → k < n
below_of k n is =
    elim (cases_lt k n) as (λ _. k < n) [
      | inl below ↦ below
      | inr past ↦ (let no : nat_lt k n ≡ false = le-ltb k n past in absurd (let e : true ≡ false = sym is ∙ no in cc))
    ]

-- what the flags are at a block that some list uses, which is part of all that are in use
in_use : (used : List ℕ) (old : List Bool) (k m : ℕ) → Accounts used old → m ≤ uses k used → 0 < m → (k < length old) × (is_free old k ≡ false) × (m ≤ 1)
in_use used old k m accounts part some =
    let all = accounts k in
    let most = one_most (nat_lt k (length old)) in
    let within : nat_lt k (length old) ≡ true = one_true (nat_lt k (length old)) (omega (arith, all)) in
    let taken : is_free old k ≡ false = one_false (is_free old k) (omega (arith, all, most)) in
    (below_of k (length old) within, taken, omega (arith, all, most))

pub runs_used : (used bs : List ℕ) (old : List Bool) → Accounts used old → ((k : ℕ) → uses k bs ≤ uses k used) → AreUsed old (runs_of bs)
runs_used used bs old accounts part =
    let same : (k : ℕ) → flags.uses (blocks_of (runs_of bs)) k ≡ uses k bs = λ k. ap (λ (l : List ℕ). flags.uses l k) (blocks_back bs) ∙ sym (uses_same k bs) in
    record {
      some = chain_some None (runs_of bs) (chain_of bs);
      used = λ k some. (let e = same k in let h = in_use used old k (uses k bs) accounts (part k) (omega (arith, e, some)) in (h.0, h.1));
      different = λ k. elim (cases_lt 0 (uses k bs)) as (λ _. flags.uses (blocks_of (runs_of bs)) k ≤ 1) [
        | inl some ↦ (let h = in_use used old k (uses k bs) accounts (part k) some in let e = same k in let m = h.2 in omega (arith, e, m))
        | inr none ↦ (let e = same k in omega (arith, e, none))
      ];
    }

-- the blocks of the case that is dropped are free again
pub accounts_less : (used less bs : List ℕ) (old : List Bool) → Accounts used old → ((k : ℕ) → uses k less + uses k bs ≡ uses k used) → Accounts less (with_runs old (runs_of bs))
accounts_less used less bs old accounts sum k =
    let are = runs_used used bs old accounts (λ j. (let s = sum j in omega (arith, s))) in
    let step = one_free_with old (blocks_of (runs_of bs)) are.used are.different k in
    let same : flags.uses (blocks_of (runs_of bs)) k ≡ uses k bs = ap (λ (l : List ℕ). flags.uses l k) (blocks_back bs) ∙ sym (uses_same k bs) in
    let long : one_if (nat_lt k (length (with_runs old (runs_of bs)))) ≡ one_if (nat_lt k (length old)) = ap (λ n. one_if (nat_lt k n)) (length_with old (blocks_of (runs_of bs))) in
    let all = accounts k in
    let s = sum k in
    omega (arith, step, same, long, all, s)

-- the blocks of one case more
pub used_push : (cs : List Case) (c : Case) → used_blocks (cs ++ c ∷ []) ≡ used_blocks cs ++ c.blocks
used_push cs c = flat_map-append (λ (d : Case). d.blocks) cs (c ∷ []) ∙ ap (λ (l : List ℕ). used_blocks cs ++ l) (append-nil c.blocks)

pub bearers_push : (name : List ℕ) (cs : List Case) (c : Case) → bearers (cs ++ c ∷ []) name ≡ bearers cs name + one_if (bytes_eq c.origin.name name)
bearers_push name cs c =
    let f : Case → ℕ = λ d. one_if (bytes_eq d.origin.name name) in
    let joined = sum_by-append f cs (c ∷ []) in
    let one = sum_by-cons f c [] in
    omega (arith, joined, one)

-- the entries with one more
pub cases_push : (k : ℕ) (v : Entry) (es more : List (ℕ × Entry)) → more ≡ es ++ (k, v) ∷ [] → cases_of more ≡ cases_of es ++ case_of v ∷ []
cases_push k v es more is = ap cases_of is ∙ cases_append es ((k, v) ∷ [])

-- whether some case has a name, from how many have it
pub any_bearer : (name : List ℕ) (t : Bool) (cs : List Case) → bearers cs name ≡ one_if t → is_name_of cs name ≡ t
any_bearer name t [] count = (let e : one_if t ≤ 0 = omega arith in sym (one_false t e))
any_bearer name t (c ∷ cs) count = of (bytes_eq c.origin.name name) refl (any_bearer name t cs)
  where
    of : (b : Bool) → bytes_eq c.origin.name name ≡ b → (bearers cs name ≡ one_if t → is_name_of cs name ≡ t) → (bytes_eq c.origin.name name || is_name_of cs name) ≡ t
    of true e rest =
        let sum = sum_by-cons (λ (d : Case). one_if (bytes_eq d.origin.name name)) c cs in
        let one : one_if (bytes_eq c.origin.name name) ≡ 1 = ap one_if e in
        let some : 1 ≤ one_if t = omega (arith, sum, one, count) in
        ap (λ b. b || is_name_of cs name) e ∙ sym (one_true t some)
    of false e rest =
        let sum = sum_by-cons (λ (d : Case). one_if (bytes_eq d.origin.name name)) c cs in
        let none : one_if (bytes_eq c.origin.name name) ≡ 0 = ap one_if e in
        let same : bearers cs name ≡ one_if t = omega (arith, sum, none, count) in
        ap (λ b. b || is_name_of cs name) e ∙ rest same
