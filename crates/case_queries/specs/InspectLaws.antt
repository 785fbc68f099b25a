-- A line that asks an image, by its steps and by its reasons.
use Rattle.std.proofs.Common.{◌≡◌, ℕ, Bool, true, false, List, Option, None, Some, Result, Ok, Err, cond, refl, ap, sym, subst, ◌∙◌}
use Rattle.std.specs.Prelude.{codes}
use Rattle.case_journal.specs.Viewing.{OnlyReads}
use Rattle.disk_model.specs.declared.disk.Disk as disk
use Rattle.image_replies.specs.declared.core_image.CoreFault.{CoreFault}
use Rattle.intake.specs.Parts.{Parts, state_of}
use Rattle.journal_layout.specs.Soundness.{case_numbered}
use Rattle.journal_layout.specs.Case.{Case}
use Rattle.journal_layout.specs.declared.entry.Kind.{Kind}
use Rattle.script_lines.specs.Queries.{QuerySaid}
use Rattle.script_streams.specs.Replies.{no_reply}
use Rattle.case_queries.specs.Inspecting.{Inspects, MayAsk, archive_stopped, no_such_case, other_kind, image_unread, core_faulty, executable_unread, shown_with_executables, shown, core_fault_for, kind_for, reads_executables}
use Rattle.case_queries.specs.LeaveLaws.{Leaves, asks_leaves, asks_quiet}
use Rattle.case_queries.specs.Seeing.{LooksAt}
use Rattle.case_queries.specs.Steps.{Asks, ShowsBy, ShowsWithExecutables, kind_asked, kind_found}

module _ {D : Type 0} (g : disk.Ghosts D) (old : Parts D) (seq : ℕ) (q : QuerySaid) (reply : List ℕ) where
  -- the answer, of a case that may be asked
  module _ (new : Parts D) (kind : Kind) (may : MayAsk (state_of old) seq q kind) (image : List ℕ) (mid : Parts D) (looks : LooksAt g old seq (Ok image) mid) where
    looked : new ≡ mid → LooksAt g old seq (Ok image) new
    looked is = subst (λ (x : Parts D). LooksAt g old seq (Ok image) x) (sym is) looks

    of_core : reads_executables q ≡ true → (o : Option CoreFault) → core_fault_for q image ≡ o → ShowsWithExecutables g mid kind q image o reply new → Inspects g old seq q reply new
    of_core reads (Some fault) is shows = core_faulty kind may image (looked shows.1) reads fault is shows.0
    of_core reads None is (Ok read, gathers, told) = shown_with_executables kind may image mid looks reads is read gathers told
    of_core reads None is (Err f, gathers, told) = executable_unread kind may image mid looks reads is f gathers told

    of_image : (b : Bool) → reads_executables q ≡ b → ShowsBy g mid kind q image b reply new → Inspects g old seq q reply new
    of_image true reads shows = of_core reads (core_fault_for q image) refl shows
    of_image false reads shows = shown kind may image (looked shows.1) reads shows.0

  of_kind : (new : Parts D) (kind : Kind) → MayAsk (state_of old) seq q kind → Asks g old seq q (Ok kind) reply new → Inspects g old seq q reply new
  of_kind new kind may (Ok image, mid, looks, shows) = of_image new kind may image mid looks (reads_executables q) refl shows
  of_kind new kind may (Err f, mid, looks, told) =
      image_unread kind may f (subst (λ (x : Parts D). LooksAt g old seq (Err f) x) (sym told.1) looks) told.0

  of_case : (new : Parts D) → (state_of old).stopped ≡ false → (c : Case) → case_numbered seq (state_of old).cases ≡ Some c → (k : Result Kind (List ℕ)) → kind_for q c.origin.kind ≡ k
      → Asks g old seq q k reply new → Inspects g old seq q reply new
  of_case new runs c has (Ok kind) asked asks = of_kind new kind (record { runs = runs; entry = c; has = has; asked = asked }) asks
  of_case new runs c has (Err reason) asked asks = other_kind runs c has reason asked asks.0 asks.1

  of_found : (new : Parts D) → (state_of old).stopped ≡ false → (o : Option Case) → case_numbered seq (state_of old).cases ≡ o → Asks g old seq q (kind_found q o) reply new → Inspects g old seq q reply new
  of_found new runs None is asks = no_such_case runs is asks.0 asks.1
  of_found new runs (Some c) is asks = of_case new runs c is (kind_for q c.origin.kind) refl asks

  of_archive : (new : Parts D) (b : Bool) → (state_of old).stopped ≡ b → Asks g old seq q (cond b (Err (codes "Stopped")) (kind_found q (case_numbered seq (state_of old).cases))) reply new → Inspects g old seq q reply new
  of_archive new true is asks = archive_stopped is asks.0 asks.1
  of_archive new false is asks = of_found new is (case_numbered seq (state_of old).cases) refl asks

  -- the promise about a line, from its steps
  pub inspected : (new : Parts D) → Asks g old seq q (kind_asked (state_of old) seq q) reply new → Inspects g old seq q reply new
  inspected new asks = of_archive new (state_of old).stopped refl asks

  -- the kind of a case that the line may ask
  pub asked_kind : (kind : Kind) → MayAsk (state_of old) seq q kind → kind_asked (state_of old) seq q ≡ Ok kind
  asked_kind kind may =
      ap (λ (b : Bool). cond b (Err (codes "Stopped")) (kind_found q (case_numbered seq (state_of old).cases))) may.runs
      ∙ ap (kind_found q) may.has ∙ may.asked

  module _ (new : Parts D) where
    as_kind : (k : Result Kind (List ℕ)) → kind_asked (state_of old) seq q ≡ k → Asks g old seq q k reply new → Asks g old seq q (kind_asked (state_of old) seq q) reply new
    as_kind k is asks = subst (λ (x : Result Kind (List ℕ)). Asks g old seq q x reply new) (sym is) asks

    no_kind : (reason : List ℕ) → kind_asked (state_of old) seq q ≡ Err reason → reply ≡ no_reply reason → new ≡ old → Asks g old seq q (kind_asked (state_of old) seq q) reply new
    no_kind reason is told same = as_kind (Err reason) is (told, same)

    by_reads : (kind : Kind) (image : List ℕ) (mid : Parts D) (b : Bool) → reads_executables q ≡ b → ShowsBy g mid kind q image b reply new → ShowsBy g mid kind q image (reads_executables q) reply new
    by_reads kind image mid b is shows = subst (λ (x : Bool). ShowsBy g mid kind q image x reply new) (sym is) shows

    by_fault : (kind : Kind) (image : List ℕ) (mid : Parts D) (o : Option CoreFault) → core_fault_for q image ≡ o → ShowsWithExecutables g mid kind q image o reply new → ShowsWithExecutables g mid kind q image (core_fault_for q image) reply new
    by_fault kind image mid o is shows = subst (λ (x : Option CoreFault). ShowsWithExecutables g mid kind q image x reply new) (sym is) shows

    -- and the other way round
    pub steps_of : Inspects g old seq q reply new → Asks g old seq q (kind_asked (state_of old) seq q) reply new
    steps_of (archive_stopped stopped told same) =
        no_kind (codes "Stopped") (ap (λ (b : Bool). cond b (Err (codes "Stopped")) (kind_found q (case_numbered seq (state_of old).cases))) stopped) told same
    steps_of (no_such_case runs none told same) =
        no_kind (codes "NoCase") (ap (λ (b : Bool). cond b (Err (codes "Stopped")) (kind_found q (case_numbered seq (state_of old).cases))) runs ∙ ap (kind_found q) none) told same
    steps_of (other_kind runs c has reason other told same) =
        no_kind reason (ap (λ (b : Bool). cond b (Err (codes "Stopped")) (kind_found q (case_numbered seq (state_of old).cases))) runs ∙ ap (kind_found q) has ∙ other) told same
    steps_of (image_unread kind may f looks told) = as_kind (Ok kind) (asked_kind kind may) (Err f, new, looks, (told, refl))
    steps_of (core_faulty kind may image looks reads fault is told) =
        as_kind (Ok kind) (asked_kind kind may) (Ok image, new, looks, by_reads kind image new true reads (by_fault kind image new (Some fault) is (told, refl)))
    steps_of (executable_unread kind may image mid looks reads sound f gathers told) =
        as_kind (Ok kind) (asked_kind kind may) (Ok image, mid, looks, by_reads kind image mid true reads (by_fault kind image mid None sound (Err f, gathers, told)))
    steps_of (shown_with_executables kind may image mid looks reads sound read gathers told) =
        as_kind (Ok kind) (asked_kind kind may) (Ok image, mid, looks, by_reads kind image mid true reads (by_fault kind image mid None sound (Ok read, gathers, told)))
    steps_of (shown kind may image looks reads told) =
        as_kind (Ok kind) (asked_kind kind may) (Ok image, new, looks, by_reads kind image new false reads (told, refl))

    -- the state in which the line leaves the archive
    pub inspects_leaves : Inspects g old seq q reply new → Leaves g old new
    inspects_leaves inspects = asks_leaves g old new seq q (kind_asked (state_of old) seq q) reply (steps_of inspects)

    -- it writes no byte of the disk
    pub inspects_quiet : ((d : D) (c : List ℕ) → g.left_since d (g.clock d) c → g.may_leave d c) → Inspects g old seq q reply new → OnlyReads g old.disk new.disk
    inspects_quiet only inspects = asks_quiet g only old new seq q (kind_asked (state_of old) seq q) reply (steps_of inspects)
