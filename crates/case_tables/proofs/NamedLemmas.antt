-- What is found among entries is what is found among their cases.
use Rattle.std.proofs.Common.{◌≡◌, ℕ, Bool, true, false, List, [], ◌∷◌, ◌++◌, map, reverse, find, Option, Some, None, option_map, codes, refl, sym, ap, ◌∙◌, if◌then◌else◌}
use Rattle.std.proofs.lemmas.List.{map-append, reverse-append}
use Rattle.std.specs.Borrow.{Bor}
use Rattle.journal_layout.specs.declared.entry.Entry.{Entry}
use Rattle.std.specs.Str.{bytes_eq}
use Rattle.journal_layout.specs.Case.{Case, case_of}
use Rattle.case_tables.specs.Named.{has_name, is_core, latest_core, named_number}

found_here : (p : Case → Bool) (e : Entry) (b : Bool) (r : Option Entry) (q : Option Case) → option_map case_of r ≡ q
    → option_map case_of (if b then Some e else r) ≡ (if b then Some (case_of e) else q)
found_here p e true r q is = refl
found_here p e false r q is = is

found_among : (p : Case → Bool) (es : List Entry) → option_map case_of (find (λ e. p (case_of e)) es) ≡ find p (map case_of es)
found_among p [] = refl
found_among p (e ∷ es) = found_here p e (p (case_of e)) _ _ (found_among p es)

number_of_found : (r : Option (Bor Entry)) → option_map (λ (e : Bor Entry). e.now.seq) r ≡ option_map (λ (c : Case). c.seq) (option_map case_of (option_map (λ (e : Bor Entry). e.now) r))
number_of_found None = refl
number_of_found (Some e) = refl

pub found_is : (p : Case → Bool) (es : List Entry) (r : Option (Bor Entry)) → option_map (λ (e : Bor Entry). e.now) r ≡ find (λ e. p (case_of e)) es
    → option_map (λ (e : Bor Entry). e.now.seq) r ≡ option_map (λ (c : Case). c.seq) (find p (map case_of es))
found_is p es r is =
    number_of_found r ∙ ap (λ (q : Option Entry). option_map (λ (c : Case). c.seq) (option_map case_of q)) is
    ∙ ap (option_map (λ (c : Case). c.seq)) (found_among p es)

pub map_reverse : {A B : Type 0} (f : A → B) (xs : List A) → map f (reverse xs) ≡ reverse (map f xs)
map_reverse f [] = refl
map_reverse f (x ∷ xs) =
    ap (map f) (reverse-append (x ∷ []) xs) ∙ map-append f (reverse xs) (x ∷ [])
    ∙ ap (λ t. t ++ f x ∷ []) (map_reverse f xs) ∙ sym (reverse-append (f x ∷ []) (map f xs))

-- the same of a core that is the latest
pub found_same : (r : Option (Bor Entry)) (q : Option Case) → option_map (λ (e : Bor Entry). case_of e.now) r ≡ q
    → option_map (λ (e : Bor Entry). e.now.seq) r ≡ option_map (λ (c : Case). c.seq) q
found_same None q is = ap (option_map (λ (c : Case). c.seq)) is
found_same (Some e) q is = ap (option_map (λ (c : Case). c.seq)) is

-- which word it is decides how a case is named
module _ (until : ℕ) (word : List ℕ) (cases : List Case) where
  abbrev number : Option Case → Option ℕ
  number = option_map (λ (c : Case). c.seq)

  abbrev by_both : Bool → Bool → Option ℕ
  by_both last latest = number (if last then find is_core (reverse cases) else if latest then latest_core until cases else find (has_name word) cases)

  pub is_last : bytes_eq word (codes "last") ≡ true → named_number until word cases ≡ number (find is_core (reverse cases))
  is_last last = ap (λ (b : Bool). by_both b (bytes_eq word (codes "latest"))) last

  pub is_latest : bytes_eq word (codes "last") ≡ false → bytes_eq word (codes "latest") ≡ true → named_number until word cases ≡ number (latest_core until cases)
  is_latest last latest = ap (λ (b : Bool). by_both b (bytes_eq word (codes "latest"))) last ∙ ap (by_both false) latest

  pub by_name : bytes_eq word (codes "last") ≡ false → bytes_eq word (codes "latest") ≡ false → named_number until word cases ≡ number (find (has_name word) cases)
  by_name last latest = ap (λ (b : Bool). by_both b (bytes_eq word (codes "latest"))) last ∙ ap (by_both false) latest
