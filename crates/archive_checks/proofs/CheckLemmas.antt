-- What is answered of an archive that was opened, and what is told of it.
use Rattle.std.proofs.Common.{◌≡◌, inl, inr, ◌<◌, ℕ, ◌+◌, Bool, true, false, List, [], ◌∷◌, ◌++◌, drop, length, Option, None, Some, Result, Ok, Err, Vec, Global, refl, ap, sym, subst, ◌∙◌, append_assoc, arith}
use Rattle.std.specs.Prelude.{slice_get}
use Rattle.std.proofs.lemmas.List.{append-nil, drop_more}
use Rattle.std.specs.Option.{option_map}
use Rattle.std.proofs.lemmas.Option.{same_Some, slice_get_cases}
use Rattle.disk_model.specs.declared.disk.Disk as disk
use Rattle.intake.specs.Calls.{ImageCall}
use Rattle.intake.specs.Parts.{Parts, state_of}
use Rattle.intake.specs.Step.{FreeReply}
use Rattle.intake.specs.declared.faults.ArchiveFault.{ArchiveFault}
use Rattle.intake.specs.declared.space.Space.{Space}
use Rattle.journal_layout.specs.Case.{Case}
use Rattle.journal_layout.specs.declared.entry.Kind.{Kind}
use Rattle.journal_layout.specs.declared.faults.OpenFault.{OpenFault}
use Rattle.journal_layout.specs.declared.faults.OpenFault.TheVariants.{Damaged}
use Rattle.script_streams.specs.PrintLaws.{prints_nothing, prints_then}
use Rattle.script_streams.specs.Printing.{IsDelivered, Sink, Prints}
use Rattle.script_streams.specs.declared.streams.StreamFault.{StreamFault}
use Rattle.archive_checks.specs.Texts.{facts_lines}
use Rattle.archive_checks.specs.Verdicts.{image_line, verdict_line, verdict_of}
use Rattle.archive_checks.specs.Checking.{ChecksOnDisk, IsDamageLine, OpensAndTells, PrintsHoldings, PrintsImage, PrintsImages, case_words, cases_seen, check_end, sound_if}
use Rattle.archive_checks.specs.declared.checking.CheckFault.{CheckFault}
use Rattle.archive_checks.specs.declared.checking.CheckFault.TheVariants.{Open, Archive, Output}
use Rattle.archive_checks.specs.declared.verdict.Verdict.{Verdict}

-- the answer of a reading is no refusal of the opening
pub opened_end : {D : Type 0} (g : disk.Ghosts D) (sees : Bool) (before after : Option (List ℕ)) (count count' : ℕ) (d d' : D) (r : Result (Unit {0}) CheckFault) (sent : Result (Unit {0}) StreamFault) (told : Result (Unit {0}) ArchiveFault)
    → r ≡ check_end sent told → OpensAndTells g sees before after count count' d r d' → ChecksOnDisk g sees before after count count' d r d'
opened_end g sees before after count count' d d' (Ok u) sent told is opens = opens
opened_end g sees before after count count' d d' (Err (Archive f)) sent told is opens = opens
opened_end g sees before after count count' d d' (Err Output) sent told is opens = opens
opened_end g sees before after count count' d d' (Err (Open f)) (Err fault) told is opens = cc
opened_end g sees before after count count' d d' (Err (Open f)) (Ok u) (Ok v) is opens = cc
opened_end g sees before after count count' d d' (Err (Open f)) (Ok u) (Err fault) is opens = cc

pub no_line : (fault : OpenFault) → IsDamageLine fault []
no_line (Damaged at field) = inl refl
no_line _ = refl

-- The images so far are told: what is told of the others from here on makes what is told of all.
pub record ImagesSoFar {D : Type 0} (g : disk.Ghosts D) (old now : Parts D) (cases : List Case) (i : ℕ) (a b : Sink) : Type 0 where
  pub so_far : List ℕ
  pub states : Prints a b so_far
  pub leads : (rest : List ℕ) (r : Result (Unit {0}) ArchiveFault) (new : Parts D) → PrintsImages g now (drop i cases) rest r new → PrintsImages g old cases (so_far ++ rest) r new

module _ {D : Type 0} (g : disk.Ghosts D) (old : Parts D) (cases : List Case) (a : Sink) where
  pub none_so_far : ImagesSoFar g old old cases 0 a a
  none_so_far = record { so_far = []; states = prints_nothing; leads = λ rest r new is. is }

  -- the next case
  pub next_case : (i : ℕ) → i < length cases → (c : Case) × (slice_get cases i ≡ Some c) × (drop i cases ≡ c ∷ drop (i + 1) cases)
  next_case i less = elim (slice_get_cases cases i).1 as (λ _. (c : Case) × (slice_get cases i ≡ Some c) × (drop i cases ≡ c ∷ drop (i + 1) cases)) [
    | inl found ↦ (found.0, found.2, drop_more cases i found.0 less ∙ ap (λ x. x ∷ drop (i + 1) cases) found.3)
    | inr past ↦ absurd (let end = past.0 in omega (arith, less, end))
  ]

  module _ (now mid : Parts D) (i : ℕ) (b b' : Sink) (c : Case) (one : List ℕ) (next : drop i cases ≡ c ∷ drop (i + 1) cases) (so_far : ImagesSoFar g old now cases i a b) (states : Prints b b' one) where
    -- its image is told
    pub one_more : PrintsImage g now c one (Ok tt) mid → ImagesSoFar g old mid cases (i + 1) a b'
    one_more is = record {
      so_far = so_far.so_far ++ one;
      states = prints_then so_far.states states;
      leads = λ rest r new more.
          subst (λ t. PrintsImages g old cases t r new) (sym (append_assoc so_far.so_far one rest))
          (so_far.leads (one ++ rest) r new (subst (λ cs. PrintsImages g now cs (one ++ rest) r new) (sym next) (one, Ok tt, mid, is, (rest, refl, more))));
    }

    -- it can't be read
    pub one_unread : (f : ArchiveFault) → PrintsImage g now c one (Err f) mid → (text : List ℕ) × PrintsImages g old cases text (Err f) mid × Prints a b' text
    one_unread f is = (
      so_far.so_far ++ one,
      so_far.leads one (Err f) mid (subst (λ cs. PrintsImages g now cs one (Err f) mid) (sym next) (one, Err f, mid, is, (refl, refl, refl))),
      prints_then so_far.states states,
    )

  -- all are told
  pub all_so_far : (now : Parts D) (i : ℕ) (b : Sink) → drop i cases ≡ [] → ImagesSoFar g old now cases i a b → (text : List ℕ) × PrintsImages g old cases text (Ok tt) now × Prints a b text
  all_so_far now i b end so_far = (
    so_far.so_far ++ [],
    so_far.leads [] (Ok tt) now (subst (λ cs. PrintsImages g now cs [] (Ok tt) now) (sym end) (refl, refl, refl)),
    prints_then so_far.states prints_nothing,
  )

-- nothing goes to an output
pub none_sent : (before : Option (List ℕ)) (count : ℕ) → IsDelivered before count before count [] (Ok tt)
none_sent None count = tt
none_sent (Some xs) count = sym (append-nil xs)

-- no image is asked for
pub none_seen : {D : Type 0} (g : disk.Ghosts D) (old : Parts D) (sees : Bool) → sees ≡ false → PrintsImages g old (cases_seen (state_of old) sees) [] (Ok tt) old
none_seen g old true asked = cc
none_seen g old false asked = (refl, refl, refl)

-- what is held, the images and the end are told
pub held : {D : Type 0} (g : disk.Ghosts D) (old new : Parts D) (sees : Bool) (version count : ℕ) (space : Space) (r : Result (Unit {0}) ArchiveFault) (a b x d : Sink) (images end : List ℕ) → FreeReply (state_of old) (Ok space) → version ≡ (state_of old).version
    → count ≡ length (state_of old).cases → Prints a b (facts_lines version count space) → Prints b x images → PrintsImages g old (cases_seen (state_of old) sees) images r new → end ≡ sound_if r → Prints x d end
    → (text : List ℕ) × PrintsHoldings g old sees text r new × Prints a d text
held g old new sees version count space r a b x d images end free version_is count_is facts told seen end_is last = (
  facts_lines version count space ++ (images ++ end),
  (
    space,
    images,
    free,
    seen,
    ap (λ v. facts_lines v count space ++ (images ++ end)) version_is
        ∙ ap (λ n. facts_lines (state_of old).version n space ++ (images ++ end)) count_is
        ∙ ap (λ t. facts_lines (state_of old).version (length (state_of old).cases) space ++ (images ++ t)) end_is,
  ),
  prints_then facts (prints_then told last),
)

-- the case that was looked up
pub looked_up : (r : Result (Option (ℕ × Kind)) ArchiveFault) (o : Option (ℕ × Kind)) (seq : ℕ) (kind : Kind) (cases : List Case) (i : ℕ) (c : Case) → r ≡ Ok (option_map case_words (slice_get cases i)) → r ≡ Ok o → o ≡ Some (seq, kind) → slice_get cases i ≡ Some c
    → (seq, kind) ≡ case_words c
looked_up r o seq kind cases i c looked was is found =
    let all : Ok o ≡ Ok (option_map case_words (Some c)) = sym was ∙ looked ∙ ap (λ x. Ok (option_map case_words x)) found in
    let same : o ≡ Some (case_words c) = cc in
    same_Some (seq, kind) (case_words c) (sym is ∙ same)

-- the line of what was found of an image
pub line_told : (seq : ℕ) (kind : Kind) (bytes : List ℕ) (verdict : Verdict) (a b : Sink) → verdict ≡ verdict_of kind bytes → Prints a b (verdict_line seq verdict) → Prints a b (image_line seq kind bytes)
line_told seq kind bytes verdict a b is states = subst (λ (v : Verdict). Prints a b (verdict_line seq v)) is states

pub one_told : {D : Type 0} (g : disk.Ghosts D) (old new : Parts D) (seq : ℕ) (kind : Kind) (c : Case) (image : Vec ℕ Global) (a b : Sink) (bytes : List ℕ) → (seq, kind) ≡ case_words c → bytes ≡ image.items → ImageCall g old seq (Ok image) new → Prints a b (image_line seq kind bytes)
    → (text : List ℕ) × PrintsImage g old c text (Ok tt) new × Prints a b text
one_told g old new seq kind c image a b bytes is bytes_is call states = (
  image_line seq kind bytes,
  (
    Ok image,
    subst (λ n. ImageCall g old n (Ok image) new) (ap (λ (p : ℕ × Kind). p.0) is) call,
    (ap (λ (p : ℕ × Kind). image_line p.0 p.1 bytes) is ∙ ap (image_line c.seq c.origin.kind) bytes_is, refl),
  ),
  states,
)

pub one_not : {D : Type 0} (g : disk.Ghosts D) (old new : Parts D) (seq : ℕ) (kind : Kind) (c : Case) (f : ArchiveFault) (a : Sink) → (seq, kind) ≡ case_words c → ImageCall g old seq (Err f) new → (text : List ℕ) × PrintsImage g old c text (Err f) new × Prints a a text
one_not g old new seq kind c f a is call = ([], (Err f, subst (λ n. ImageCall g old n (Err f) new) (ap (λ (p : ℕ × Kind). p.0) is) call, (refl, refl)), prints_nothing)
