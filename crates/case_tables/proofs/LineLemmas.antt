-- JSON of a case has no float, so its text is known; and lines of cases, one after the other.
use Rattle.std.proofs.Common.{◌≡◌, ◌||◌, ℕ, suc, ◌+◌, ◌<◌, ◌^◌, Bool, true, false, List, [], ◌∷◌, ◌++◌, length, map, take, get_or, Option, Some, None, nat_lt, nat_eq, if◌then◌else◌, refl, sym, ap, ◌∙◌, arith}
use Rattle.std.proofs.Math.Seq.{take-suc}
use Rattle.std.proofs.lemmas.Grind.{flat_map-append}
use Rattle.std.proofs.lemmas.List.{append-nil, map-append}
use Rattle.std.specs.Borrow.{Bor}
use Rattle.std.specs.List.{flat_map}
use Rattle.serde_json.specs.Data.{Data, null}
use Rattle.serde_json.specs.Written.{has_float}
use Rattle.journal_layout.specs.Case.{Case, case_of}
use Rattle.journal_layout.specs.declared.entry.Entry.{Entry}
use Rattle.thread_regs.specs.SignalNames.{numbered_name}
use Rattle.case_tables.specs.Json.{case_json, found_json, is_escaped, is_text, named_json, origin_json, part_json, text_json, known_json, number_json}
use Rattle.case_tables.specs.Lines.{case_line}
use Rattle.case_tables.specs.NameParts.{host_in, program_in, user_in}

none_if : (b : Bool) (d e : Data) → has_float d ≡ false → has_float e ≡ false → has_float (if b then d else e) ≡ false
none_if true d e one two = one
none_if false d e one two = two

none_number : (n : ℕ) → has_float (number_json n) ≡ false
none_number n = none_if (nat_lt n (2 ^ 53)) _ _ refl refl

none_known : (n : ℕ) → has_float (known_json n) ≡ false
none_known n = none_if (nat_eq n 0) null (number_json n) refl (none_number n)

none_named : (o : Option (List ℕ)) (n : ℕ) → has_float (named_json o n) ≡ false
none_named (Some name) n = refl
none_named None n = none_known n

none_text : (escaped : Bool) (text : List ℕ) → has_float (text_json escaped text) ≡ false
none_text true [] = refl
none_text false [] = refl
none_text true (c ∷ cs) = refl
none_text false (c ∷ cs) = refl

none_found : (o : Option ℕ) → has_float (found_json o) ≡ false
none_found None = refl
none_found (Some n) = refl

none_part : (escaped : Bool) (part : List ℕ) → has_float (part_json escaped part) ≡ false
none_part escaped part = none_if (is_text part) _ _ (none_text escaped part) (none_text true part)

-- one of two
none_or : (a b : Bool) → a ≡ false → b ≡ false → (a || b) ≡ false
none_or a b one two = ap (λ (x : Bool). x || b) one ∙ two

none_origin : (c : Case) → has_float (origin_json c) ≡ false
unfolding origin_json
none_origin c =
    none_or _ _ (none_part (is_escaped c) (host_in c))
    (none_or _ _ (none_part (is_escaped c) (program_in c))
    (none_or _ _ (none_found (user_in c)) refl))

pub none_case : (c : Case) → has_float (case_json c) ≡ false
none_case c =
    none_or _ _ (none_text (is_escaped c) c.label)
    (none_or _ _ (none_text (is_escaped c) c.origin.name)
    (none_or _ _ (none_origin c)
    (none_or _ _ (none_known c.origin.pid)
    (none_or _ _ (none_named (numbered_name c.origin.signal) c.origin.signal)
    (none_or _ _ (none_number c.len)
    (none_or _ _ (none_known c.origin.time) refl))))))

-- the line of one case more
pub lines_more : (cases : List (Bor Entry)) (i : ℕ) (case : Bor Entry) → i < length cases → case ≡ get_or cases i case
    → flat_map case_line (map (λ (e : Bor Entry). case_of e.now) (take i cases)) ++ case_line (case_of case.now) ≡ flat_map case_line (map (λ (e : Bor Entry). case_of e.now) (take (i + 1) cases))
lines_more cases i case below is =
    let told : List (Bor Entry) → List ℕ = λ l. flat_map case_line (map (λ (e : Bor Entry). case_of e.now) l) in
    let up : suc i ≡ i + 1 = omega arith in
    sym
    (ap (λ (n : ℕ). told (take n cases)) (sym up)
    ∙ ap told (take-suc cases i case below)
    ∙ ap (λ (e : Bor Entry). told (take i cases ++ e ∷ [])) (sym is)
    ∙ ap (flat_map case_line) (map-append (λ (e : Bor Entry). case_of e.now) (take i cases) (case ∷ []))
    ∙ flat_map-append case_line (map (λ (e : Bor Entry). case_of e.now) (take i cases)) (case_of case.now ∷ [])
    ∙ ap (λ (t : List ℕ). told (take i cases) ++ t) (append-nil (case_line (case_of case.now))))
