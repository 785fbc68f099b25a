-- A template's name, and the facts of its letters.
use Rattle.std.proofs.Common.{◌≡◌, ⊎_elim, ℕ, ◌<◌, ◌==◌, nat_lt, Bool, false, List, [], ◌∷◌, length, Result, Ok, refl, sym, ap, ◌∙◌, arith}
use Rattle.std.proofs.lemmas.Bool.{cases_Bool}
use Rattle.std.specs.Borrow.{Bor}
use Rattle.std.specs.List.{list_any}
use Rattle.stream_names.specs.Expansion.{expansion, name_of}
use Rattle.stream_names.specs.declared.template.NameFault.{NameFault}
use Rattle.script_lines.specs.Said.{ProcessSaid}
use Rattle.stream_names.specs.Streams.{facts_of, lent}

ok_is : (x y : List ℕ) (r : Result (List ℕ) NameFault) → r ≡ Ok x → r ≡ Ok y → x ≡ y
ok_is x y r a b = let e = sym a ∙ b in cc

-- a name has a byte, and no NUL
pub named : (text name : List ℕ) → name_of text ≡ Ok name → (0 < length name) × (list_any (λ c. c == 0) name ≡ false)
named [] name is = absurd cc
named (c ∷ cs) name is =
    ⊎_elim
    (λ long. absurd (let e = rw long at is in cc))
    (λ short.
    ⊎_elim
    (λ nul. absurd (let e = rw short at is in let f = rw nul at e in cc))
    (λ none.
    let e = rw short at is in
    let f = rw none at e in
    let g : c ∷ cs ≡ name = ok_is (c ∷ cs) name (Ok (c ∷ cs)) refl f in
    (omega (arith, ap length g), ap (list_any (λ x. x == 0)) (sym g) ∙ none))
    (cases_Bool (list_any (λ x. x == 0) (c ∷ cs))))
    (cases_Bool (nat_lt 128 (length (c ∷ cs))))

-- of a text nothing is looked at but its bytes
pub expands_as : (template : List ℕ) (uses_pid : Bool) (comm exe host : Bor (List ℕ)) (p : ProcessSaid) → comm.now ≡ p.comm → exe.now ≡ p.exe → host.now ≡ p.host
    → expansion template (record (facts_of p) { comm = comm; exe = exe; host = host }) uses_pid ≡ expansion template (facts_of p) uses_pid
expands_as template uses_pid comm exe host p is_comm is_exe is_host =
    ap (λ (t : List ℕ). expansion template (record (facts_of p) { comm = lent t; exe = lent exe.now; host = lent host.now }) uses_pid) is_comm
    ∙ ap (λ (t : List ℕ). expansion template (record (facts_of p) { exe = lent t; host = lent host.now }) uses_pid) is_exe
    ∙ ap (λ (t : List ℕ). expansion template (record (facts_of p) { host = lent t }) uses_pid) is_host
