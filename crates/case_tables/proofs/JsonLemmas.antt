-- How JSON of cases nests, and which bytes a byte prints as.
use Rattle.std.proofs.Common.{◌≡◌, not, ◌&&◌, ℕ, suc, ◌+◌, ◌<◌, ◌≤◌, ◌^◌, Bool, true, false, List, [], ◌∷◌, map, length, take, Option, Some, None, nat_lt, nat_eq, if◌then◌else◌, ◌++◌, get_or, refl, sym, ap, ◌∙◌, subst, arith}
use Rattle.std.proofs.Math.Seq.{take-suc}
use Rattle.std.proofs.lemmas.List.{map-append, take_all}
use Rattle.std.proofs.lemmas.Simd.{map-map}
use Rattle.std.proofs.lemmas.Str.{IsUtf8-from_is_utf8}
use Rattle.std.specs.Borrow.{Bor}
use Rattle.std.specs.Str.{IsUtf8, is_utf8}
use Rattle.serde_json.specs.Data.{Data, array, depth, items_depth, null}
use Rattle.serde_json.specs.Read.{max_depth}
use Rattle.serde_json.specs.View.{items_of}
use Rattle.journal_layout.specs.Case.{Case, case_of}
use Rattle.journal_layout.specs.declared.entry.Entry.{Entry}
use Rattle.thread_regs.specs.SignalNames.{numbered_name}
use Rattle.case_tables.specs.Json.{case_json, cases_json, found_json, is_escaped, is_text, named_json, origin_json, part_json, text_json, known_json, number_json}
use Rattle.case_tables.specs.NameParts.{host_in, program_in, user_in}

flat_if : (b : Bool) (d e : Data) → depth d ≡ 0 → depth e ≡ 0 → depth (if b then d else e) ≡ 0
flat_if true d e one two = one
flat_if false d e one two = two

flat_number : (n : ℕ) → depth (number_json n) ≡ 0
flat_number n = flat_if (nat_lt n (2 ^ 53)) _ _ refl refl

flat_known : (n : ℕ) → depth (known_json n) ≡ 0
flat_known n = flat_if (nat_eq n 0) null (number_json n) refl (flat_number n)

flat_named : (o : Option (List ℕ)) (n : ℕ) → depth (named_json o n) ≡ 0
flat_named (Some name) n = refl
flat_named None n = flat_known n

flat_text : (escaped : Bool) (text : List ℕ) → depth (text_json escaped text) ≡ 0
flat_text true [] = refl
flat_text false [] = refl
flat_text true (c ∷ cs) = refl
flat_text false (c ∷ cs) = refl

flat_found : (o : Option ℕ) → depth (found_json o) ≡ 0
flat_found None = refl
flat_found (Some n) = refl

flat_part : (escaped : Bool) (part : List ℕ) → depth (part_json escaped part) ≡ 0
flat_part escaped part = flat_if (is_text part) _ _ (flat_text escaped part) (flat_text true part)

origin_depth : (c : Case) → depth (origin_json c) ≤ 1
unfolding origin_json
origin_depth c =
    let host = flat_part (is_escaped c) (host_in c) in
    let program = flat_part (is_escaped c) (program_in c) in
    let user = flat_found (user_in c) in
    omega (arith, host, program, user)

case_depth : (c : Case) → depth (case_json c) ≤ 2
case_depth c =
    let label = flat_text (is_escaped c) c.label in
    let name = flat_text (is_escaped c) c.origin.name in
    let pid = flat_known c.origin.pid in
    let signal = flat_named (numbered_name c.origin.signal) c.origin.signal in
    let size = flat_number c.len in
    let time = flat_known c.origin.time in
    let origin = origin_depth c in
    omega (arith, label, name, pid, signal, size, time, origin)

cases_depth : (cs : List Case) → items_depth (items_of (map case_json cs)) ≤ 2
cases_depth [] = omega arith
cases_depth (c ∷ cs) =
    let one = case_depth c in
    let more = cases_depth cs in
    omega (arith, one, more)

-- what is JSON of cases nests no deeper than a reader goes
pub shallow : (cs : List Case) (d : Data) → d ≡ cases_json cs → depth d ≤ max_depth
shallow cs d same =
    let deep = cases_depth cs in
    subst (λ (e : Data). depth e ≤ max_depth) (sym same) (omega (arith, deep))

-- what is no UTF-8 is told so
pub no_text : (bytes : List ℕ) → (IsUtf8 bytes → ⊥) → false ≡ is_utf8 bytes
no_text bytes none = by_answer (is_utf8 bytes) refl
  where
    by_answer : (b : Bool) → is_utf8 bytes ≡ b → false ≡ b
    by_answer true e = absurd (none (IsUtf8-from_is_utf8 bytes e))
    by_answer false e = refl

-- a text is UTF-8
pub is_utf8_text : (a b : Bool) → a && not b ≡ true → a ≡ true
is_utf8_text true b e = refl
is_utf8_text false b e = absurd (cc)

-- neither is escaped only if both are texts
pub both_texts : (a b : Bool) → not (a && b) ≡ false → (a ≡ true) × (b ≡ true)
both_texts true true e = (refl, refl)
both_texts true false e = absurd (cc)
both_texts false b e = absurd (cc)

-- an object for one case more
pub one_case_more : (cases : List (Bor Entry)) (i : ℕ) (case : Bor Entry) (old new : List Data) → i < length cases → case ≡ get_or cases i case
    → old ≡ map (λ (e : Bor Entry). case_json (case_of e.now)) (take i cases) → new ≡ old ++ case_json (case_of case.now) ∷ []
    → new ≡ map (λ (e : Bor Entry). case_json (case_of e.now)) (take (i + 1) cases)
one_case_more cases i case old new below is so_far added =
    let told : List (Bor Entry) → List Data = map (λ (e : Bor Entry). case_json (case_of e.now)) in
    let up : suc i ≡ i + 1 = omega arith in
    added ∙ ap (λ (ds : List Data). ds ++ case_json (case_of case.now) ∷ []) so_far
    ∙ sym (map-append (λ (e : Bor Entry). case_json (case_of e.now)) (take i cases) (case ∷ []))
    ∙ ap (λ (e : Bor Entry). told (take i cases ++ e ∷ [])) is
    ∙ ap told (sym (take-suc cases i case below))
    ∙ ap (λ (n : ℕ). told (take n cases)) up

-- all of them
pub all_cases : (cases : List (Bor Entry)) (i : ℕ) (values : List Data) → length cases ≤ i → values ≡ map (λ (e : Bor Entry). case_json (case_of e.now)) (take i cases)
    → array (items_of values) ≡ cases_json (map (λ (e : Bor Entry). case_of e.now) cases)
all_cases cases i values past is =
    ap (λ (ds : List Data). array (items_of ds))
    (is ∙ ap (map (λ (e : Bor Entry). case_json (case_of e.now))) (take_all i cases past) ∙ sym (map-map case_json (λ (e : Bor Entry). case_of e.now) cases))
