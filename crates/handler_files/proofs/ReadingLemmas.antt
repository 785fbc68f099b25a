-- What is written of counts is read again.
use Rattle.std.proofs.Common.{◌≡◌, ◌≢◌, ◌<◌, ◌≤◌, ◌-◌, ◌+◌, ◌^◌, ℕ, zero, suc, false, true, ◌==◌, List, [], ◌∷◌, ◌++◌, length, take, drop, get_or, rules, Option, None, Some, option_map, refl, sym, ap, ◌∙◌, codes, decimal, arith, ⊎_elim, unwrap_or, append_assoc, take-append-drop}
use Rattle.std.proofs.lemmas.Bool.{eqb-true, eq-eqb, cases_lt, false≢true}
use Rattle.std.proofs.lemmas.Fmt.{decimal_is_IsNumeral}
use Rattle.std.proofs.lemmas.List.{drop_more, length-append, get_or_append_left, append_cancel_left}
use Rattle.std.proofs.lemmas.List.Elements.{All-get_or}
use Rattle.std.proofs.lemmas.Str.Parse.{digit_from_value}
use Rattle.std.proofs.Math.Seq.{get_or-append_seam, take-append_seam, drop-append_seam}
use Rattle.std.specs.Borrow.{Bor}
use Rattle.std.specs.Prelude.{MatchOption}
use Rattle.std.specs.Str.Parse.{AllDigits}
use Rattle.memchr.specs.Find.{IsFirstByte, is_byte}
use Rattle.handler_files.specs.Counters.{name, outcome_word, reason_behind, reason_if_lost}
use Rattle.handler_files.specs.Counts.{HasNoNewline, line}
use Rattle.handler_files.specs.declared.counters.Counter.{Counter}
use Rattle.handler_files.specs.declared.reasons.Reason.{Reason}

-- fronts of two parts

pub none_first : (a b text : List ℕ) → ((rest : List ℕ) → text ≢ a ++ rest) → (rest : List ℕ) → text ≢ (a ++ b) ++ rest
none_first a b text none rest e = none (b ++ rest) (e ∙ append_assoc a b rest)

pub none_second : (a b text mid : List ℕ) → text ≡ a ++ mid → ((rest : List ℕ) → mid ≢ b ++ rest) → (rest : List ℕ) → text ≢ (a ++ b) ++ rest
none_second a b text mid is none rest e = none rest (append_cancel_left a mid (b ++ rest) (sym is ∙ e ∙ append_assoc a b rest))

pub both : (a b text mid rest : List ℕ) → text ≡ a ++ mid → mid ≡ b ++ rest → text ≡ (a ++ b) ++ rest
both a b text mid rest is more = is ∙ ap (λ (l : List ℕ). a ++ l) more ∙ sym (append_assoc a b rest)

pub none_third : (a b text mid last : List ℕ) → text ≡ a ++ mid → mid ≡ b ++ last → ((rest : List ℕ) → last ≢ (32 ∷ []) ++ rest) → (rest : List ℕ) → text ≢ (a ++ b) ++ 32 ∷ rest
none_third a b text mid last is more none rest e =
    none rest (append_cancel_left (a ++ b) last (32 ∷ rest) (sym (both a b text mid last is more) ∙ e))

pub word_second : (a b text mid : List ℕ) (r : Option (Bor (List ℕ))) → text ≡ a ++ mid → MatchOption r ((rest : List ℕ) → mid ≢ b ++ rest) (λ x. mid ≡ b ++ x.now)
    → MatchOption r ((rest : List ℕ) → text ≢ (a ++ b) ++ rest) (λ x. text ≡ (a ++ b) ++ x.now)
word_second a b text mid None is m = none_second a b text mid is m
word_second a b text mid (Some x) is m = both a b text mid x.now is m

-- the name of a counter

pub name_none : (counter : Counter) (text word : List ℕ) → word ≡ outcome_word counter → ((rest : List ℕ) → text ≢ word ++ rest)
    → (rest : List ℕ) → text ≢ name counter ++ 32 ∷ rest
unfolding name
name_none counter text word is none rest e =
    none_first word (reason_behind (reason_if_lost counter)) text none (32 ∷ rest) (e ∙ ap (λ (l : List ℕ). (l ++ reason_behind (reason_if_lost counter)) ++ 32 ∷ rest) (sym is))

pub name_none_second : (counter : Counter) (text word mid : List ℕ) (reason : Option Reason) → word ≡ outcome_word counter → reason ≡ reason_if_lost counter
    → text ≡ word ++ mid → ((rest : List ℕ) → mid ≢ reason_behind reason ++ rest) → (rest : List ℕ) → text ≢ name counter ++ 32 ∷ rest
unfolding name
name_none_second counter text word mid reason is why front none rest e =
    none_second word (reason_behind reason) text mid front none (32 ∷ rest)
    (e ∙ ap (λ (l : List ℕ). (l ++ reason_behind (reason_if_lost counter)) ++ 32 ∷ rest) (sym is) ∙ ap (λ (o : Option Reason). (word ++ reason_behind o) ++ 32 ∷ rest) (sym why))

pub name_third : (counter : Counter) (text word mid last : List ℕ) (reason : Option Reason) (r : Option (Bor (List ℕ))) → word ≡ outcome_word counter
    → reason ≡ reason_if_lost counter → text ≡ word ++ mid → mid ≡ reason_behind reason ++ last
    → MatchOption r ((rest : List ℕ) → last ≢ (32 ∷ []) ++ rest) (λ x. last ≡ (32 ∷ []) ++ x.now)
    → MatchOption r ((rest : List ℕ) → text ≢ name counter ++ 32 ∷ rest) (λ x. text ≡ name counter ++ 32 ∷ x.now)
unfolding name
name_third counter text word mid last reason None is why front more m = λ rest e.
    none_third word (reason_behind reason) text mid last front more m rest
    (e ∙ ap (λ (l : List ℕ). (l ++ reason_behind (reason_if_lost counter)) ++ 32 ∷ rest) (sym is) ∙ ap (λ (o : Option Reason). (word ++ reason_behind o) ++ 32 ∷ rest) (sym why))
name_third counter text word mid last reason (Some x) is why front more m =
    both word (reason_behind reason) text mid (32 ∷ x.now) front (more ∙ ap (λ (l : List ℕ). reason_behind reason ++ l) m)
    ∙ ap (λ (l : List ℕ). (l ++ reason_behind reason) ++ 32 ∷ x.now) is ∙ ap (λ (o : Option Reason). (outcome_word counter ++ reason_behind o) ++ 32 ∷ x.now) why

-- lines

-- the newline behind a line that has none is the first one
pub line_ends : (line rest text : List ℕ) (found : Option ℕ) → HasNoNewline line → text ≡ line ++ 10 ∷ rest → IsFirstByte (is_byte 10) text found
    → found ≡ Some (length line)
line_ends line rest text None none is first =
    let many : length text ≡ length line + suc (length rest) = ap (λ (l : List ℕ). length l) is ∙ length-append line (10 ∷ rest) in
    absurd (first (length line) (omega arith) (omega (arith, many))
    (let at : get_or text (length line) 0 ≡ 10 = ap (λ (l : List ℕ). get_or l (length line) 0) is ∙ get_or-append_seam line 10 rest 0 in eq-eqb (get_or text (length line) 0) 10 at))
line_ends line rest text (Some k) none is first =
    let here : get_or text k 0 ≡ 10 = eqb-true (get_or text k 0) 10 first.1 in
    let at : get_or text (length line) 0 ≡ 10 = ap (λ (l : List ℕ). get_or l (length line) 0) is ∙ get_or-append_seam line 10 rest 0 in
    ⊎_elim
    (λ lt. absurd (All-get_or (λ c. c ≢ 10) line k 0 lt none (sym (get_or_append_left line (10 ∷ rest) 0 k lt) ∙ ap (λ (l : List ℕ). get_or l k 0) (sym is) ∙ here)))
    (λ ge. ⊎_elim
    (λ lt. absurd (first.0.before (length line) (omega arith) lt (eq-eqb (get_or text (length line) 0) 10 at)))
    (λ le. let e : k ≡ length line = omega (arith, ge, le) in ap (λ (n : ℕ). Some n) e)
    (cases_lt (length line) k))
    (cases_lt k (length line))

pub some_is : {X : Type 0} (x y : X) → Some x ≡ Some y → x ≡ y
some_is x y e = ap (λ o. unwrap_or o x) e

pub none_is : {X : Type 0} (x : X) → None ≡ Some x → ⊥
none_is x e = absurd (search (e, rules))

-- what is before the newline, and what is behind it
pub front_is : (line rest text : List ℕ) (at : ℕ) → text ≡ line ++ 10 ∷ rest → at ≡ length line → take at text ≡ line
front_is line rest text at is e = ap (λ (l : List ℕ). take at l) is ∙ ap (λ (k : ℕ). take k (line ++ 10 ∷ rest)) e ∙ take-append_seam line (10 ∷ rest)

pub rest_is : (line rest text : List ℕ) (at : ℕ) → text ≡ line ++ 10 ∷ rest → at ≡ length line → drop 1 (drop at text) ≡ rest
rest_is line rest text at is e =
    ap (λ (l : List ℕ). drop 1 (drop at l)) is ∙ ap (λ (k : ℕ). drop 1 (drop k (line ++ 10 ∷ rest))) e ∙ ap (λ (l : List ℕ). drop 1 l) (drop-append_seam line (10 ∷ rest))

-- a text that has a newline at this place
pub split_there : (text : List ℕ) (at : ℕ) → at < length text → get_or text at 0 ≡ 10 → text ≡ take at text ++ 10 ∷ drop 1 (drop at text)
split_there text at low here =
    let rest : drop at text ≡ 10 ∷ drop (at + 1) text = drop_more text at 0 low ∙ ap (λ (c : ℕ). c ∷ drop (at + 1) text) here in
    sym (take-append-drop at text) ∙ ap (λ (l : List ℕ). take at text ++ l) (rest ∙ ap (λ (l : List ℕ). 10 ∷ l) (sym (ap (λ (l : List ℕ). drop 1 l) rest)))

-- digits

no_newline_in : (ds : List ℕ) → AllDigits 10 ds → HasNoNewline ds
no_newline_in [] d i z lt = absurd (omega (arith, lt))
no_newline_in (c ∷ cs) d zero z lt = λ e. let r = digit_from_value c d.0 in omega (arith, e, r)
no_newline_in (c ∷ cs) d (suc i) z lt = no_newline_in cs d.1 i z (omega (arith, lt))

pub number_has_no_newline : (n : ℕ) → n < 2 ^ 64 → HasNoNewline (decimal n)
number_has_no_newline n small = no_newline_in (decimal n) (decimal_is_IsNumeral n small).0.1

-- the line of a counter

pub line_split : (counter : Counter) (n : ℕ) (rest : List ℕ) → line counter n ++ rest ≡ name counter ++ 32 ∷ (decimal n ++ 10 ∷ rest)
unfolding line
line_split counter n rest = append_assoc (name counter) (32 ∷ (decimal n ++ 10 ∷ [])) rest ∙ ap (λ (l : List ℕ). name counter ++ 32 ∷ l) (append_assoc (decimal n) (10 ∷ []) rest)

pub behind_is : (counter : Counter) (n : ℕ) (rest text behind : List ℕ) → text ≡ name counter ++ 32 ∷ behind → text ≡ line counter n ++ rest
    → behind ≡ decimal n ++ 10 ∷ rest
behind_is counter n rest text behind front is =
    ap (λ (l : List ℕ). drop 1 l) (append_cancel_left (name counter) (32 ∷ behind) (32 ∷ (decimal n ++ 10 ∷ rest)) (sym front ∙ is ∙ line_split counter n rest))

pub line_read : (counter : Counter) (n : ℕ) (rest text behind digits : List ℕ) → text ≡ name counter ++ 32 ∷ behind → behind ≡ digits ++ 10 ∷ rest → digits ≡ decimal n
    → text ≡ line counter n ++ rest
line_read counter n rest text behind digits front split is =
    front ∙ ap (λ (l : List ℕ). name counter ++ 32 ∷ l) (split ∙ ap (λ (l : List ℕ). l ++ 10 ∷ rest) is) ∙ sym (line_split counter n rest)

-- equal results say equal lines
pub pairs : {x y : Option (Bor (List ℕ) × Bor (List ℕ))} → x ≡ y
    → option_map {U = List ℕ × List ℕ} (λ p. (p.0.now, p.1.now)) x ≡ option_map {U = List ℕ × List ℕ} (λ p. (p.0.now, p.1.now)) y
pairs e = ap (λ (o : Option (Bor (List ℕ) × Bor (List ℕ))). option_map {U = List ℕ × List ℕ} (λ p. (p.0.now, p.1.now)) o) e

pub counts_read : {x y : Option (ℕ × Bor (List ℕ))} → x ≡ y
    → option_map {U = ℕ × List ℕ} (λ p. (p.0, p.1.now)) x ≡ option_map {U = ℕ × List ℕ} (λ p. (p.0, p.1.now)) y
counts_read e = ap (λ (o : Option (ℕ × Bor (List ℕ))). option_map {U = ℕ × List ℕ} (λ p. (p.0, p.1.now)) o) e
