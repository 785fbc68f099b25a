-- A case that no line takes away is kept, with its image.
use Rattle.std.proofs.Common.{◌≡◌, inl, inr, ⊎_elim, ℕ, zero, suc, ◌==◌, Bool, true, false, not, cond, List, [], ◌∷◌, ◌++◌, map, Ok, Err, refl, sym, ap, subst, ◌∙◌, append_assoc}
use Rattle.std.proofs.lemmas.Bool.{cases_Bool, false≢true}
use Rattle.std.proofs.lemmas.Bool.Decides.{eqb_tells}
use Rattle.std.specs.Prelude.{codes, ◌||◌, IsTrue}
use Rattle.std.specs.List.{filter, flat_map, AllByRecursion}
use Rattle.disk_model.specs.declared.disk.Disk as disk
use Rattle.journal_layout.specs.Folding.{is_among, pinned_as, labelled_as}
use Rattle.intake.specs.Calls.{ChangesNoCase}
use Rattle.intake.specs.Durable.{Durable, FoundCase, durable_of, without, flagged, labelled, with_case, made_of}
use Rattle.intake.specs.Lasts.{FinishLasts, DeleteLasts, PinLasts, LabelLasts, UpgradeLasts, RetireLasts, RefusalsLast}
use Rattle.intake.specs.Lives.{IsAmong}
use Rattle.intake.specs.Marks.{Mark, mark_of}
use Rattle.intake.specs.Parts.{Parts}
use Rattle.intake.specs.State.{StreamFacts}
use Rattle.stream_names.specs.declared.naming.Naming.{Naming}
use Rattle.script_lines.specs.Said.{Said, silence, bad_line, long_line, begin_exec, begin_core, part_of, end_of, drop_of, delete_of, pin_of, label_of, retire_by, list_all_cases, count_free, upgrade_archive, inspect_of, said, raw_length}
use Rattle.script_streams.specs.Replies.{no_reply, ok_reply}
use Rattle.inspector_cli.specs.Reply.{Replies, query_by}
use Rattle.archive_replies.specs.Texts.{dropped_line, unmet_line}
use Rattle.stream_names.specs.Streams.{exec_stream, core_stream}
use Rattle.inspector_cli.specs.Session.{Ending, complete, last_line, cut_part, said_last, last_stage, LastReplies, EndReplies}
use Rattle.inspector_cli.specs.Stages.{Stage, Moves, MayLeave, mark_at, marks_of}
use Rattle.inspector_cli.specs.Stored.{HasImage, Spares}
use Rattle.case_queries.specs.InspectLaws.{inspects_leaves}
use Rattle.inspector_cli.specs.Told.{Answer, Answers, Session, Finishes, HasLine, MayDrop, Spare, what_of}
use Rattle.inspector_cli.proofs.StageLemmas.{begins_stays, truncates_stays, broken_stays}

-- what each call does to the cases
pub record LastingLaws {D : Type 0} (g : disk.Ghosts D) : Type 0 where
  pub finish : FinishLasts g
  pub delete : DeleteLasts g
  pub pin : PinLasts g
  pub label : LabelLasts g
  pub upgrade : UpgradeLasts g
  pub retire : RetireLasts g
  pub refusals : RefusalsLast g

pub lasts_of : {D : Type 0} (g : disk.Ghosts D) → FinishLasts g → DeleteLasts g → PinLasts g → LabelLasts g → UpgradeLasts g → RetireLasts g → RefusalsLast g → LastingLaws g
lasts_of g finish delete pin label upgrade retire refusals = record { finish = finish; delete = delete; pin = pin; label = label; upgrade = upgrade; retire = retire; refusals = refusals }

pub among_more : (xs ys : List FoundCase) (c : FoundCase) → IsAmong xs c → IsAmong (xs ++ ys) c
among_more [] ys c among = absurd among
among_more (x ∷ xs) ys c among = ⊎_elim (λ is. inl is) (λ there. inr (among_more xs ys c there)) among

pub among_last : (xs : List FoundCase) (c : FoundCase) → IsAmong (xs ++ c ∷ []) c
among_last [] c = inl refl
among_last (x ∷ xs) c = inr (among_last xs c)

pub among_filtered : (f : FoundCase → Bool) (xs : List FoundCase) (c : FoundCase) → IsAmong xs c → f c ≡ true → IsAmong (filter f xs) c
among_filtered f [] c among passes = absurd among
among_filtered f (x ∷ xs) c among passes =
    ⊎_elim
    (λ is. subst (λ (t : Bool). IsAmong (cond t (x ∷ filter f xs) (filter f xs)) c) (sym (ap f (sym is) ∙ passes)) (inl is))
    (λ there. elim (f x) as (λ t. IsAmong (cond t (x ∷ filter f xs) (filter f xs)) c) [
      | true ↦ inr (among_filtered f xs c there passes)
      | false ↦ among_filtered f xs c there passes
    ])
    among

pub among_mapped : (f : FoundCase → FoundCase) (xs : List FoundCase) (c : FoundCase) → IsAmong xs c → IsAmong (map f xs) (f c)
among_mapped f [] c among = absurd among
among_mapped f (x ∷ xs) c among = ⊎_elim (λ is. inl (ap f is)) (λ there. inr (among_mapped f xs c there)) among

pub all_append : (P : Durable → Type 0) (xs ys : List Durable) → AllByRecursion P xs → AllByRecursion P ys → AllByRecursion P (xs ++ ys)
all_append P [] ys all more = more
all_append P (x ∷ xs) ys all more = (all.0, all_append P xs ys all.1 more)

pub all_mapped : {P Q : Durable → Type 0} (xs : List Durable) → ((x : Durable) → P x → Q x) → AllByRecursion P xs → AllByRecursion Q xs
all_mapped [] f all = tt
all_mapped (x ∷ xs) f all = (f x all.0, all_mapped xs f all.1)

-- another number than the one is not among it
pub one_apart : (seq n : ℕ) → (seq ≡ n → ⊥) → is_among (seq ∷ []) n ≡ false
one_apart seq n apart = ⊎_elim (λ h. absurd (apart (sym h.1))) (λ h. ap (λ (t : Bool). t || false) h.0) (eqb_tells n seq)

-- a number that is dropped has its line
pub has_line : (n : ℕ) (seqs rest : List ℕ) → is_among seqs n ≡ true → HasLine (dropped_line n) (flat_map dropped_line seqs ++ rest)
has_line n [] rest among = absurd (false≢true among)
has_line n (seq ∷ seqs) rest among =
    ⊎_elim
    (λ h. (
      [],
      flat_map dropped_line seqs ++ rest,
      append_assoc (dropped_line seq) (flat_map dropped_line seqs) rest ∙ ap (λ (k : ℕ). dropped_line k ++ (flat_map dropped_line seqs ++ rest)) (sym h.1),
    ))
    (λ h.
    (let more = has_line n seqs rest (sym (ap (λ (t : Bool). t || is_among seqs n) h.0) ∙ among) in (
      dropped_line seq ++ more.0,
      more.1,
      append_assoc (dropped_line seq) (flat_map dropped_line seqs) rest ∙ ap (λ (x : List ℕ). dropped_line seq ++ x) more.2 ∙ sym (append_assoc (dropped_line seq) more.0 (dropped_line n ++ more.1)),
    )))
    (eqb_tells n seq)

module _ (n : ℕ) (bytes : List ℕ) where
  pub with_case_keeps : (x : Durable) (s : StreamFacts) (blocks image : List ℕ) → HasImage n bytes x → HasImage n bytes (with_case x s blocks image)
  with_case_keeps x s blocks image (c, among, seq, is) = (c, among_more x.cases _ c among, seq, is)

  without_keeps : (x : Durable) (seqs : List ℕ) → is_among seqs n ≡ false → HasImage n bytes x → HasImage n bytes (without x seqs)
  without_keeps x seqs apart (c, among, seq, is) =
      (c, among_filtered (λ (d : FoundCase). not (is_among seqs d.case.seq)) x.cases c among (ap not (ap (is_among seqs) seq ∙ apart)), seq, is)

  flagged_keeps : (x : Durable) (seq : ℕ) (flag : Bool) → HasImage n bytes x → HasImage n bytes (flagged x seq flag)
  flagged_keeps x number flag (c, among, seq, is) = (
    made_of (pinned_as number flag) c,
    among_mapped (made_of (pinned_as number flag)) x.cases c among,
    (elim (c.case.seq == number) as (λ t. (cond t (record c.case { pinned = flag }) c.case).seq ≡ n) [ true ↦ seq | false ↦ seq ]),
    is,
  )

  labelled_keeps : (x : Durable) (seq : ℕ) (label : List ℕ) → HasImage n bytes x → HasImage n bytes (labelled x seq label)
  labelled_keeps x number label (c, among, seq, is) = (
    made_of (labelled_as number label) c,
    among_mapped (made_of (labelled_as number label)) x.cases c among,
    (elim (c.case.seq == number) as (λ t. (cond t (record c.case { label = label }) c.case).seq ≡ n) [ true ↦ seq | false ↦ seq ]),
    is,
  )

  module _ {D : Type 0} (g : disk.Ghosts D) (lasts : LastingLaws g) (naming : Naming) where
    abbrev Has : Parts D → Type 0
    Has a = HasImage n bytes (durable_of g.seen a)

    stays_keeps : (old new : Parts D) → IsTrue (g.is_honest old.disk) → ChangesNoCase g old new → Has old → Has new
    stays_keeps old new honest stays has = subst (HasImage n bytes) (sym (stays.durable honest)) has

    as_it_was : (old new : Parts D) → new ≡ old → Has old → Has new
    as_it_was old new is has = subst Has (sym is) has

    same_keeps : (old new : Parts D) → durable_of g.seen new ≡ durable_of g.seen old → Has old → Has new
    same_keeps old new is has = subst (HasImage n bytes) (sym is) has

    line_keeps : (old new : Parts D) (what : Said) (raw reply : List ℕ) → IsTrue (g.is_honest old.disk) → Replies g naming old what raw reply new → (MayDrop n what reply → ⊥) → Has old → Has new
    line_keeps old new silence raw reply honest r spares has = as_it_was old new r.1 has
    line_keeps old new bad_line raw reply honest r spares has = as_it_was old new r.1 has
    line_keeps old new long_line raw reply honest r spares has = as_it_was old new r.1 has
    line_keeps old new (begin_exec slot name) raw reply honest r spares has =
        stays_keeps old new honest (begins_stays g old new slot (exec_stream name) reply r.0 r.1) has
    line_keeps old new (begin_core slot process) raw reply honest r spares has =
        stays_keeps old new honest (begins_stays g old new slot (core_stream naming process) reply r.0 r.1) has
    line_keeps old new (part_of slot k) raw reply honest r spares has = stays_keeps old new honest r.1.stays has
    line_keeps old new (end_of slot) raw reply honest (stored, (Ok seq, call, told, is)) spares has =
        let m = lasts.finish old new slot seq honest call in
        subst (HasImage n bytes) (sym m.1.5) (with_case_keeps (durable_of g.seen old) m.1.0 m.0 m.1.1.bytes has)
    line_keeps old new (end_of slot) raw reply honest (stored, (Err f, call, told, is)) spares has = same_keeps old new (lasts.refusals old new f honest (inl (slot, call))) has
    line_keeps old new (drop_of slot) raw reply honest r spares has = stays_keeps old new honest r.1.stays has
    line_keeps old new (delete_of seq) raw reply honest (Ok u, call, told) spares has =
        subst (HasImage n bytes) (sym (lasts.delete old new seq u honest call))
        (without_keeps (durable_of g.seen old) (seq ∷ []) (one_apart seq n (λ is. spares (is, inl told))) has)
    line_keeps old new (delete_of seq) raw reply honest (Err f, call, told) spares has = same_keeps old new (lasts.refusals old new f honest (inr (inl (seq, call)))) has
    line_keeps old new (pin_of seq flag) raw reply honest (Ok u, call, told) spares has =
        ⊎_elim (λ same. same_keeps old new same.1 has)
        (λ set. subst (HasImage n bytes) (sym set.1) (flagged_keeps (durable_of g.seen old) seq flag has)) (lasts.pin old new seq flag u honest call).2
    line_keeps old new (pin_of seq flag) raw reply honest (Err f, call, told) spares has =
        same_keeps old new (lasts.refusals old new f honest (inr (inr (inl (seq, flag, call))))) has
    line_keeps old new (label_of seq label) raw reply honest (Ok u, call, told) spares has =
        ⊎_elim (λ same. same_keeps old new same.1 has)
        (λ set. subst (HasImage n bytes) (sym set.1) (labelled_keeps (durable_of g.seen old) seq label has)) (lasts.label old new seq label u honest call).2
    line_keeps old new (label_of seq label) raw reply honest (Err f, call, told) spares has =
        same_keeps old new (lasts.refusals old new f honest (inr (inr (inr (inr (inl (seq, label, call))))))) has
    line_keeps old new upgrade_archive raw reply honest (Ok u, call, told) spares has =
        subst (HasImage n bytes) (sym (lasts.upgrade old new u honest call)) has
    line_keeps old new upgrade_archive raw reply honest (Err f, call, told) spares has =
        same_keeps old new (lasts.refusals old new f honest (inr (inr (inr (inr (inr call)))))) has
    line_keeps old new (retire_by policy) raw reply honest (Ok d, call, told) spares has =
        let apart : is_among d.dropped.items n ≡ false =
        ⊎_elim (λ among. absurd (spares (inl (subst (HasLine (dropped_line n)) (sym told) (has_line n d.dropped.items (unmet_line d.unmet ++ ok_reply) among))))) (λ none. none)
        (cases_Bool (is_among d.dropped.items n))
        in
        subst (HasImage n bytes) (sym (lasts.retire old new policy d honest call)) (without_keeps (durable_of g.seen old) d.dropped.items apart has)
    line_keeps old new (retire_by policy) raw reply honest (Err f, call, told) spares has =
        same_keeps old new (lasts.refusals old new f honest (inr (inr (inr (inl (policy, call)))))) has
    line_keeps old new list_all_cases raw reply honest r spares has = as_it_was old new r.1 has
    line_keeps old new count_free raw reply honest r spares has = as_it_was old new r.3 has
    line_keeps old new (inspect_of seq query) raw reply honest r spares has = stays_keeps old new honest (inspects_leaves g old seq (query_by naming query) reply new r).stays has

    -- what a line would have left, had the disk not failed, has the case
    doubt_keeps : (old : Parts D) (what : Said) (reply : List ℕ) (x : Durable) → reply ≡ no_reply (codes "Disk") → (MayDrop n what reply → ⊥) → Has old → MayLeave g old what x → HasImage n bytes x
    doubt_keeps old silence reply x told spares has may = absurd may
    doubt_keeps old bad_line reply x told spares has may = absurd may
    doubt_keeps old long_line reply x told spares has may = absurd may
    doubt_keeps old (begin_exec slot name) reply x told spares has may = absurd may
    doubt_keeps old (begin_core slot process) reply x told spares has may = absurd may
    doubt_keeps old (part_of slot k) reply x told spares has may = absurd may
    doubt_keeps old (end_of slot) reply x told spares has may = subst (HasImage n bytes) (sym may.1.5) (with_case_keeps (durable_of g.seen old) may.1.0 may.0 may.1.1.bytes has)
    doubt_keeps old (drop_of slot) reply x told spares has may = absurd may
    doubt_keeps old (delete_of seq) reply x told spares has may =
        subst (HasImage n bytes) (sym may) (without_keeps (durable_of g.seen old) (seq ∷ []) (one_apart seq n (λ is. spares (is, inr told))) has)
    doubt_keeps old (pin_of seq flag) reply x told spares has may = subst (HasImage n bytes) (sym may) (flagged_keeps (durable_of g.seen old) seq flag has)
    doubt_keeps old (label_of seq label) reply x told spares has may = subst (HasImage n bytes) (sym may) (labelled_keeps (durable_of g.seen old) seq label has)
    doubt_keeps old upgrade_archive reply x told spares has may = subst (HasImage n bytes) (sym may) has
    doubt_keeps old (retire_by policy) reply x told spares has may = absurd (spares (inr told))
    doubt_keeps old list_all_cases reply x told spares has may = absurd may
    doubt_keeps old count_free reply x told spares has may = absurd may
    doubt_keeps old (inspect_of seq query) reply x told spares has may = absurd may

    -- all that a mark has holds the case
    abbrev pub Holds : Mark D → Type 0
    Holds m = HasImage n bytes m.durable × AllByRecursion (HasImage n bytes) m.in_doubt

    moved : (old new : Stage D) (what : Said) (reply : List ℕ) → Moves g old what reply new → (MayDrop n what reply → ⊥) → Holds (mark_at g.seen old) → Has new.archive → Holds (mark_at g.seen new)
    moved old new what reply moves spares holds has =
        let doubts : AllByRecursion (HasImage n bytes) moves.doubts =
        ⊎_elim (λ none. subst (AllByRecursion (HasImage n bytes)) (sym none) tt)
        (λ may. all_mapped moves.doubts (λ x. doubt_keeps old.archive what reply x may.0 spares holds.0) may.1) moves.doubted
        in
        (has, subst (AllByRecursion (HasImage n bytes)) (sym moves.in_doubt) (all_append (HasImage n bytes) moves.doubts old.in_doubt doubts holds.1))

    -- an honest stage that holds the case
    abbrev pub Keeps : Stage D → Type 0
    Keeps s = IsTrue (g.is_honest s.archive.disk) × Holds (mark_at g.seen s)

    pub answer_keeps : (old new : Stage D) (what : Said) (raw reply : List ℕ) → Replies g naming old.archive what raw reply new.archive → Moves g old what reply new → (MayDrop n what reply → ⊥) → Keeps old → Keeps new
    answer_keeps old new what raw reply r moves spares keeps =
        (moves.passes.honesty ∙ keeps.0, moved old new what reply moves spares keeps.1 (line_keeps old.archive new.archive what raw reply keeps.0 r spares keeps.1.0))

    pub answers_keep : (old : Stage D) (list : List Answer) (ss : List (Stage D)) → Answers g naming old list ss → Spare n list → Keeps old → AllByRecursion Holds (map (mark_at g.seen) ss) × Keeps (last_stage old ss)
    answers_keep old [] [] answers spare keeps = (tt, keeps)
    answers_keep old [] (s ∷ ss) answers spare keeps = absurd answers
    answers_keep old (a ∷ list) [] answers spare keeps = absurd answers
    answers_keep old (a ∷ list) (s ∷ ss) answers spare keeps =
        let here = answer_keeps old s (what_of a) a.item.raw a.reply answers.0 answers.1 spare.0 keeps in
        let more = answers_keep s list ss answers.2 spare.1 here in
        ((here.1, more.0), more.1)

    end_keeps : (old new : Parts D) (e : Ending) (reply : List ℕ) → IsTrue (g.is_honest old.disk) → EndReplies g naming old e reply new → (MayDrop n (said_last e) reply → ⊥) → Has old → Has new
    end_keeps old new complete reply honest r spares has = as_it_was old new r.1 has
    end_keeps old new (last_line line) reply honest r spares has = last_keeps (raw_length (said line)) r
      where
        last_keeps : (k : ℕ) → LastReplies g naming k old (said line) reply new → Has new
        last_keeps zero replies = line_keeps old new (said line) [] reply honest replies spares has
        last_keeps (suc k) cut = stays_keeps old new honest (truncates_stays g old new (said line) [] reply cut) has
    end_keeps old new (cut_part line raw) reply honest r spares has = stays_keeps old new honest (truncates_stays g old new (said line) raw reply r) has

    finish_keeps : (old new : Parts D) (last : Said) (reply : List ℕ) → IsTrue (g.is_honest old.disk) → Finishes g naming old last reply new → (MayDrop n last reply → ⊥) → Has old → Has new
    finish_keeps old new last reply honest finishes spares has =
        ⊎_elim (λ e. end_keeps old new e.0 reply honest e.2 (subst (λ (w : Said). MayDrop n w reply → ⊥) e.1 spares) has)
        (λ b. stays_keeps old new honest (broken_stays g old new b.0 b.3) has) finishes

all_marks : {D : Type 0} (P : Mark D → Type 0) (xs ys : List (Mark D)) → AllByRecursion P xs → AllByRecursion P ys → AllByRecursion P (xs ++ ys)
all_marks P [] ys all more = more
all_marks P (x ∷ xs) ys all more = (all.0, all_marks P xs ys all.1 more)

module _ (n : ℕ) (bytes : List ℕ) {D : Type 0} (g : disk.Ghosts D) (lasts : LastingLaws g) where
  -- the marks behind a stage that holds the case, to the close of the archive, hold it
  pub rest_keeps : (s : Session D) (m : Stage D) (after : List Answer) (rest : List (Stage D)) → Answers g s.naming m after rest → Spares s n after → Keeps n bytes g lasts s.naming m
      → Finishes g s.naming (last_stage m rest).archive s.last s.reply s.end.archive → Moves g (last_stage m rest) s.last s.reply s.end → ChangesNoCase g s.end.archive s.closed
      → AllByRecursion (Holds n bytes g lasts s.naming) (marks_of g.seen rest s.end s.closed)
  rest_keeps s m after rest answers spares keeps finishes moves stays =
      let run = answers_keep n bytes g lasts s.naming m after rest answers spares.0 keeps in
      let end : Has n bytes g lasts s.naming s.end.archive =
      finish_keeps n bytes g lasts s.naming (last_stage m rest).archive s.end.archive s.last s.reply run.1.0 finishes spares.1 run.1.1.0
      in
      let holds = moved n bytes g lasts s.naming (last_stage m rest) s.end s.last s.reply moves spares.1 run.1.1 end in
      let honest : IsTrue (g.is_honest s.end.archive.disk) = moves.passes.honesty ∙ run.1.0 in
      let last : Mark D = mark_of g.seen s.closed s.end.in_doubt in
      all_marks (Holds n bytes g lasts s.naming) (map (mark_at g.seen) rest) (mark_at g.seen s.end ∷ last ∷ []) run.0
      (holds, ((stays_keeps n bytes g lasts s.naming s.end.archive s.closed honest stays end, holds.1), tt))
