-- How the heaviest core is found, and how blocks are counted.
use Rattle.std.proofs.Common.{◌≡◌, ℕ, zero, suc, ◌+◌, ◌-◌, ◌<◌, Bool, true, false, cond, List, [], ◌∷◌, drop, drop-cons, get_or, length, map, Option, None, Some, refl, sym, ap, subst, ◌∙◌, arith, sum_by}
use Rattle.std.proofs.lemmas.List.Sums.{sum_by-cons}
use Rattle.std.specs.List.{filter}
use Rattle.journal_layout.specs.Case.{Case, case_of}
use Rattle.journal_layout.specs.declared.entry.Entry.{Entry}
use Rattle.fair_share.specs.Fairness.{at_place, blocks_of, cores_of, fairest, heaviest, inner, of_program, of_user, is_entry_of, is_of, size_of, weight}
use Rattle.fair_share.specs.Owners.{program_of, user_of}
use Rattle.fair_share.specs.Weighing.{TakesUp, best_core, best_from, core_of, counted, heavier}
use Rattle.fair_share.specs.declared.choosing.Scope.{Scope}
use Rattle.fair_share.specs.declared.choosing.Scope.TheVariants.{All, User, Program}
use Rattle.fair_share.specs.declared.choosing.Weighed.{Weighed}

-- the cores of an owner, one case more before them
one_more : (scope : Scope) (owner : List ℕ) (c : Case) (rest : List Case) → is_of scope owner c ≡ true → cores_of scope owner (c ∷ rest) ≡ c ∷ cores_of scope owner rest
one_more scope owner c rest is = ap (λ (t : Bool). cond t (c ∷ cores_of scope owner rest) (cores_of scope owner rest)) is

none_more : (scope : Scope) (owner : List ℕ) (c : Case) (rest : List Case) → is_of scope owner c ≡ false → cores_of scope owner (c ∷ rest) ≡ cores_of scope owner rest
none_more scope owner c rest not = ap (λ (t : Bool). cond t (c ∷ cores_of scope owner rest) (cores_of scope owner rest)) not

-- a core of another owner
pub passed_over : (wide : Scope) (owner : List ℕ) (narrow : Scope) (cases : List Case) (best : Option Weighed) (c : Case) → is_of wide owner c ≡ false → TakesUp wide owner narrow cases best c best
passed_over wide owner narrow cases best c not rest = ap (best_from (weight narrow cases) (best_core best)) (none_more wide owner c rest not)

-- the heavier one is taken up
from_heavier : (weigh : Case → ℕ) (best : Option Case) (c : Case) (rest : List Case) → best_from weigh best (c ∷ rest) ≡ best_from weigh (Some (heavier weigh best c)) rest
from_heavier weigh None c rest = refl
from_heavier weigh (Some b) c rest = refl

pub taken_up : (wide : Scope) (owner : List ℕ) (narrow : Scope) (cases : List Case) (best : Option Weighed) (c : Case) (w : Weighed) → is_of wide owner c ≡ true
    → core_of w ≡ heavier (weight narrow cases) (best_core best) c → TakesUp wide owner narrow cases best c (Some w)
taken_up wide owner narrow cases best c w is heavy rest =
    ap (best_from (weight narrow cases) (best_core best)) (one_more wide owner c rest is)
    ∙ from_heavier (weight narrow cases) (best_core best) c (cores_of wide owner rest)
    ∙ ap (λ (d : Case). best_from (weight narrow cases) (Some d) (cores_of wide owner rest)) (sym heavy)

-- blocks of one case more
pub blocks_step : (scope : Scope) (owner : List ℕ) (e : Entry) (rest : List Entry) → blocks_of scope owner (map case_of (e ∷ rest)) ≡ counted scope owner (case_of e) + blocks_of scope owner (map case_of rest)
blocks_step scope owner e rest =
    let c : Case = case_of e in
    let more = cores_of scope owner (map case_of rest) in
    let cons = sum_by-cons size_of c more in
    elim (is_of scope owner c) as (λ t. sum_by size_of (cond t (c ∷ more) more) ≡ cond t (size_of c) 0 + sum_by size_of more) [ true ↦ cons | false ↦ omega arith ]

pub blocks_at : (scope : Scope) (owner : List ℕ) (es : List Entry) (i : ℕ) (e : Entry) → i < length es → e ≡ get_or es i e
    → blocks_of scope owner (map case_of (drop i es)) ≡ counted scope owner (case_of e) + blocks_of scope owner (map case_of (drop (i + 1) es))
blocks_at scope owner es i e below is =
    let next : suc i ≡ i + 1 = omega arith in
    let cut : drop i es ≡ e ∷ drop (suc i) es = drop-cons es i e below ∙ ap (λ (x : Entry). x ∷ drop (suc i) es) (sym is) in
    ap (λ (l : List Entry). blocks_of scope owner (map case_of l)) cut ∙ blocks_step scope owner e (drop (suc i) es)
    ∙ ap (λ (n : ℕ). counted scope owner (case_of e) + blocks_of scope owner (map case_of (drop n es))) next

pub grown : (so_far one here more all : ℕ) → so_far + here ≡ all → here ≡ one + more → so_far + one + more ≡ all
grown so_far one here more all sum is = omega (arith, sum, is)

-- the case at a place, one case more before it
pub place_here : (program : List ℕ) (e : Entry) (rest : List Entry) (left : ℕ) → left ≡ 0 → is_entry_of Program program e ≡ true
    → at_place left (cores_of Program program (map case_of (e ∷ rest))) ≡ Some (case_of e)
place_here program e rest left none is =
    subst (λ (n : ℕ). at_place n (cores_of Program program (map case_of (e ∷ rest))) ≡ Some (case_of e)) (sym none)
    (ap (at_place 0) (one_more Program program (case_of e) (map case_of rest) is))

later : (left : ℕ) (c : Case) (cs : List Case) → (left ≡ 0 → ⊥) → at_place left (c ∷ cs) ≡ at_place (left - 1) cs
later zero c cs some = absurd (some refl)
later (suc n) c cs some = let e : n ≡ suc n - 1 = omega arith in ap (λ (k : ℕ). at_place k cs) e

pub place_later : (program : List ℕ) (e : Entry) (rest : List Entry) (left : ℕ) → (left ≡ 0 → ⊥) → is_entry_of Program program e ≡ true
    → at_place left (cores_of Program program (map case_of (e ∷ rest))) ≡ at_place (left - 1) (cores_of Program program (map case_of rest))
place_later program e rest left some is =
    ap (at_place left) (one_more Program program (case_of e) (map case_of rest) is) ∙ later left (case_of e) (cores_of Program program (map case_of rest)) some

pub place_other : (program : List ℕ) (e : Entry) (rest : List Entry) (left : ℕ) → is_entry_of Program program e ≡ false
    → at_place left (cores_of Program program (map case_of (e ∷ rest))) ≡ at_place left (cores_of Program program (map case_of rest))
place_other program e rest left not = ap (at_place left) (none_more Program program (case_of e) (map case_of rest) not)

-- the core that goes, by its user and its program
pub step_by_step : (cases : List Case) (u p : Case) (user program : List ℕ) (o : Option Case) → Some u ≡ heaviest All [] User cases → user ≡ user_of u.origin.name
    → Some p ≡ heaviest User user Program cases → program ≡ program_of p.origin.name → o ≡ inner (cores_of Program program cases) → o ≡ fairest cases
step_by_step cases u p user program o most its_user heavy its_program goes =
    goes ∙ ap (λ (l : List ℕ). inner (cores_of Program l cases)) its_program
    ∙ ap (λ (x : Option Case). of_program x cases) heavy
    ∙ ap (λ (l : List ℕ). of_program (heaviest User l Program cases) cases) its_user
    ∙ ap (λ (x : Option Case). of_user x cases) most

-- as many cases as entries
pub same_count : (program : List ℕ) (es : List Entry) → length (filter (is_entry_of Program program) es) ≡ length (cores_of Program program (map case_of es))
same_count program [] = refl
same_count program (e ∷ es) =
    let more = same_count program es in
    elim (is_of Program program (case_of e)) as (λ t. length (cond t (e ∷ filter (is_entry_of Program program) es) (filter (is_entry_of Program program) es))
    ≡ length (cond t (case_of e ∷ cores_of Program program (map case_of es)) (cores_of Program program (map case_of es)))) [ true ↦ ap suc more | false ↦ more ]
