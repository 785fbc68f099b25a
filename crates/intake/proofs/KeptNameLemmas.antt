-- Names that are still a case's once the rule has dropped what it drops.
use Rattle.std.proofs.Common.{◌≡◌, ⊎_elim, ℕ, ◌+◌, ◌<◌, Bool, true, false, not, ◌&&◌, ◌||◌, cond, List, [], ◌∷◌, ◌++◌, length, map, take, get_or, refl, sym, ap, ◌∙◌, subst, arith, Result, Ok, Err}
use Rattle.std.specs.Prelude.{IfOk}
use Rattle.std.specs.Str.{bytes_eq}
use Rattle.std.proofs.lemmas.List.{get_or-map, length-map, take_more}
use Rattle.journal_layout.specs.Case.{Case, case_of}
use Rattle.journal_layout.specs.Folding.{is_among, dropped}
use Rattle.journal_layout.specs.declared.entry.Entry.{Entry}
use Rattle.retention.specs.Rule.{IsOneDecision}
use Rattle.retention.specs.declared.Decision.{Decision}
use Rattle.retention.specs.declared.Policy.{Policy}
use Rattle.intake.specs.Contents.{Contents, UnmovedBytes}
use Rattle.intake.specs.Retiring.{KeepsTheName, NameReply, stays_named}
use Rattle.intake.specs.State.{ArchiveState}
use Rattle.intake.specs.Step.{RetireStep, cases_without, is_named}
use Rattle.intake.specs.Untouched.{RefusalSpares}
use Rattle.intake.specs.declared.faults.ArchiveFault.{ArchiveFault}
use Rattle.intake.specs.declared.faults.ArchiveFault.TheVariants as fault

or_then : (a b c : Bool) → (a || (b || c)) ≡ ((a || b) || c)
or_then true b c = refl
or_then false b c = refl

or_none : (a : Bool) → (a || false) ≡ a
or_none true = refl
or_none false = refl

-- one case more
pub stays_more : (name seqs : List ℕ) (cases : List Case) (c : Case) → stays_named name seqs (cases ++ c ∷ []) ≡ (stays_named name seqs cases || stays_named name seqs (c ∷ []))
stays_more name seqs [] c = refl
stays_more name seqs (d ∷ ds) c = of (not (is_among seqs d.seq)) (stays_more name seqs ds c)
  where
    of : (t : Bool) → is_named name (dropped seqs (ds ++ c ∷ [])) ≡ (is_named name (dropped seqs ds) || stays_named name seqs (c ∷ []))
        → is_named name (cond t (d ∷ dropped seqs (ds ++ c ∷ [])) (dropped seqs (ds ++ c ∷ [])))
        ≡ (is_named name (cond t (d ∷ dropped seqs ds) (dropped seqs ds)) || stays_named name seqs (c ∷ []))
    of true rest =
        ap (λ (b : Bool). bytes_eq d.origin.name name || b) rest
        ∙ or_then (bytes_eq d.origin.name name) (is_named name (dropped seqs ds)) (stays_named name seqs (c ∷ []))
    of false rest = rest

-- one entry more
pub stays_next : (name seqs : List ℕ) (entries : List Entry) (i : ℕ) (e : Entry) → i < length entries → e ≡ get_or entries i e
    → stays_named name seqs (take (i + 1) (map case_of entries)) ≡ (stays_named name seqs (take i (map case_of entries)) || stays_named name seqs (case_of e ∷ []))
stays_next name seqs entries i e within is =
    let cases = map case_of entries in
    let low : i < length cases = omega (arith, length-map entries case_of) in
    let here : get_or cases i (case_of e) ≡ case_of e = get_or-map case_of entries i e (case_of e) within ∙ ap case_of (sym is) in
    ap (stays_named name seqs) (take_more cases i (case_of e) low ∙ ap (λ (c : Case). take i cases ++ c ∷ []) here)
    ∙ stays_more name seqs (take i cases) (case_of e)

-- a case that stays was there before
named_before : (name seqs : List ℕ) (cases : List Case) → is_named name (dropped seqs cases) ≡ true → is_named name cases ≡ true
named_before name seqs [] is = is
named_before name seqs (c ∷ cs) is = of (not (is_among seqs c.seq)) (named_before name seqs cs) is
  where
    or_right : (a b : Bool) → b ≡ true → (a || b) ≡ true
    or_right true b is = refl
    or_right false b is = is

    either : (a : Bool) → (is_named name (dropped seqs cs) ≡ true → is_named name cs ≡ true) → (a || is_named name (dropped seqs cs)) ≡ true → (a || is_named name cs) ≡ true
    either true rest is = refl
    either false rest is = rest is

    of : (t : Bool) → (is_named name (dropped seqs cs) ≡ true → is_named name cs ≡ true) → is_named name (cond t (c ∷ dropped seqs cs) (dropped seqs cs)) ≡ true → (bytes_eq c.origin.name name || is_named name cs) ≡ true
    of true rest is = either (bytes_eq c.origin.name name) rest is
    of false rest is = or_right (bytes_eq c.origin.name name) (is_named name cs) (rest is)

pub kept_before : (s : ArchiveState) (policy : Policy) (name : List ℕ) → KeepsTheName s policy name true → is_named name s.cases ≡ true
kept_before s policy name kept = named_before name kept.dropped s.cases (sym kept.is)

-- where no case goes, all stay
pub all_left : (cases : List Case) → dropped [] cases ≡ cases
all_left [] = refl
all_left (c ∷ cs) = ap (λ (xs : List Case). c ∷ xs) (all_left cs)

-- once the rule has dropped what it drops, the name is free where no case that stays has it
pub retired_clear : IsOneDecision → (old new : ArchiveState) (policy : Policy) (name : List ℕ) (d : Decision) → KeepsTheName old policy name false → RetireStep old policy (Ok d) new → is_named name new.cases ≡ false
retired_clear one old new policy name d kept step =
    let free : is_named name (cases_without old d.dropped.items) ≡ false =
    ap (λ (xs : List ℕ). is_named name (cases_without old xs)) (one policy _ d.dropped.items kept.dropped d.unmet kept.unmet step.1 kept.decision) ∙ sym kept.is in
    ⊎_elim
    (λ none. ap (λ (s : ArchiveState). is_named name s.cases) none.1
    ∙ ap (is_named name) (sym (all_left old.cases))
    ∙ ap (λ (xs : List ℕ). is_named name (cases_without old xs)) (sym none.0)
    ∙ free)
    (λ some. ap (λ (s : ArchiveState). is_named name s.cases) some.2 ∙ free)
    step.2

pub cleared : IsOneDecision → (old new : ArchiveState) (policy : Policy) (name : List ℕ) (r : Result Decision ArchiveFault) → KeepsTheName old policy name false → RetireStep old policy r new
    → IfOk r (λ d. is_named name new.cases ≡ false)
cleared one old new policy name (Ok d) kept step = retired_clear one old new policy name d kept step
cleared one old new policy name (Err f) kept step = tt

-- a refusal of the question is a refusal of the call
pub refused_step : (s : ArchiveState) (policy : Policy) (name : List ℕ) (f : ArchiveFault) → NameReply s policy name (Err f) → RetireStep s policy (Err f) s
refused_step s policy name fault.Stopped reply = (reply, refl)
refused_step s policy name fault.OutOfMemory reply = (reply, refl)
refused_step s policy name _ reply = absurd reply

pub refused_bytes : (s : ArchiveState) (policy : Policy) (name : List ℕ) (f : ArchiveFault) (x : Contents) → NameReply s policy name (Err f) → UnmovedBytes x f x
refused_bytes s policy name fault.Disk x reply = absurd reply
refused_bytes s policy name _ x reply = refl

pub no_disk_fault : (s : ArchiveState) (policy : Policy) (name : List ℕ) (f : ArchiveFault) → NameReply s policy name (Err f) → f ≡ fault.Disk → ⊥
no_disk_fault s policy name f reply is = subst (λ (x : ArchiveFault). NameReply s policy name (Err x)) is reply

pub not_full : (s : ArchiveState) (policy : Policy) (name : List ℕ) (f : ArchiveFault) → NameReply s policy name (Err f) → f ≡ fault.JournalFull → ⊥
not_full s policy name f reply is = subst (λ (x : ArchiveFault). NameReply s policy name (Err x)) is reply

pub refused_spares : {D : Type 0} (s : ArchiveState) (policy : Policy) (name : List ℕ) (f : ArchiveFault) (d : D) → NameReply s policy name (Err f) → RefusalSpares {T = Decision} (Err f) d d
refused_spares s policy name fault.Disk d reply = absurd reply
refused_spares s policy name _ d reply = refl
