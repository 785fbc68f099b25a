-- A session is a course of lines, and each stop of the machine leaves what stands behind one of them.
use Rattle.std.proofs.Common.{◌≡◌, ◌⊎◌, ◌≤◌, inl, inr, ⊎_elim, ℕ, zero, suc, Bool, true, false, List, [], ◌∷◌, ◌++◌, map, Option, Some, None, Result, Ok, Err, refl, sym, ap, subst, ◌∙◌, append_assoc}
use Rattle.std.proofs.lemmas.Bool.{cases_Bool, false≢true}
use Rattle.std.proofs.lemmas.List.{append-nil}
use Rattle.std.specs.Prelude.{codes, option_map, IsTrue}
use Rattle.std.specs.List.{flat_map, AllByRecursion}
use Rattle.std.specs.Io.KnownBytes.{Consumes, Appends}
use Rattle.case_journal.specs.Viewing.{OnlyReads}
use Rattle.disk_model.specs.Moments.{LeavesOnly}
use Rattle.disk_model.specs.declared.disk.Disk as disk
use Rattle.intake.specs.Calls.{ChangesNoCase, OpenCall}
use Rattle.intake.specs.Contents.{Taken}
use Rattle.intake.specs.Durable.{Durable, durable_of, found_case}
use Rattle.intake.specs.Marks.{NothingElseIsLeft, IsRunOfMarks, IsMarkSettled, IsFoundSince}
use Rattle.intake.specs.Parts.{Parts, state_of}
use Rattle.intake.specs.Growth.{IsDiskFault}
use Rattle.intake.specs.QuietLaws.{quiet_then}
use Rattle.intake.specs.Slots.{stream_at}
use Rattle.intake.specs.State.{StreamFacts}
use Rattle.intake.specs.Step.{DeleteStep, FinishStep}
use Rattle.intake.specs.Step as step
use Rattle.retention.specs.Rule.{IsDecision}
use Rattle.retention.specs.declared.Brief.{Brief}
use Rattle.retention.specs.declared.Policy.{Policy}
use Rattle.intake.specs.declared.faults.ArchiveFault.{ArchiveFault}
use Rattle.stream_names.specs.declared.naming.Naming.{Naming}
use Rattle.stream_names.specs.Streams.{exec_stream, core_stream}
use Rattle.script_lines.specs.Said.{Said, silence, bad_line, long_line, begin_exec, begin_core, part_of, end_of, drop_of, delete_of, pin_of, label_of, retire_by, list_all_cases, count_free, upgrade_archive, inspect_of, said, raw_length}
use Rattle.script_streams.specs.Replies.{no_reply, ok_reply}
use Rattle.archive_replies.specs.Reasons.{reason_of}
use Rattle.archive_replies.specs.Texts.{end_reply}
use Rattle.case_queries.specs.InspectLaws.{inspects_leaves}
use Rattle.inspector_cli.specs.Reply.{Replies, Deletes, Ends, query_by}
use Rattle.inspector_cli.specs.declared.session.SessionFault.{SessionFault}
use Rattle.inspector_cli.specs.declared.session.SessionFault.TheVariants.{ReadFailed, WriteFailed, TooManyReads}
use Rattle.inspector_cli.specs.declared.session.LifeFault.{LifeFault}
use Rattle.inspector_cli.specs.declared.session.LifeFault.TheVariants as life
use Rattle.inspector_cli.specs.Runs.{IsClear, WholeIsARun, FrontIsARun}
use Rattle.inspector_cli.specs.Session.{AnswersAll, AnswersWhole, IsItem, SessionEnds, Streams, spelled, Ending, complete, last_line, cut_part, said_last, last_stage, LastReplies, EndReplies, Truncates, DropsStreams}
use Rattle.inspector_cli.specs.Stages.{Stage, Moves, MayLeave, IsFoundAfterAStop, mark_at, marks_of}
use Rattle.inspector_cli.specs.Stored.{IsToldAs}
use Rattle.inspector_cli.specs.Told.{Answer, Answers, Finishes, what_of, is_no, held_then, held_behind, parts_in}
use Rattle.inspector_cli.specs.Headline.{EndsWhole, HasFlag, HasLabel, IsEnded, IsFrozen, brief_of, is_idle, IsIdle, begins_as, begun_then, begun_behind, begun_in, empty_stream, IsAll, IsCrashSafe, SessionsAreCrashSafe, Leads, WouldLeave, Moment, Line, Course, LeadsOn, AllLead, IsCourse, FindsSince, AreSafe, last_moment, answer_of, moment_of}
use Rattle.inspector_cli.proofs.BegunLemmas.{IsBegun, then_begun}
use Rattle.inspector_cli.proofs.ClearLemmas.{end_told, line_halts, plain_told}
use Rattle.inspector_cli.proofs.CaseLemmas.{is_found, briefs_are}
use Rattle.inspector_cli.proofs.HeldLemmas.{IsHeld, taken_at, none_taken, opening_quiet}
use Rattle.inspector_cli.proofs.IdleLemmas.{end_idle, lines_idle, opening_idle}
use Rattle.inspector_cli.proofs.SafeLemmas.{are_safe, leads_on, since_before, since_opening}
use Rattle.inspector_cli.proofs.ToldLemmas.{EndsAs, all_told, session_of, whole_told}
use Rattle.inspector_cli.proofs.KeptLemmas.{LastingLaws}
use Rattle.inspector_cli.proofs.FoundLemmas.{Stands, answer_stands}
use Rattle.inspector_cli.proofs.StageLemmas.{begins_stays, truncates_stays, broken_stays}
use Rattle.journal_layout.specs.Soundness.{case_numbered}
use Rattle.journal_layout.specs.Case.{Case}

module _ {D : Type 0} (g : disk.Ghosts D) (naming : Naming) (lasts : LastingLaws g) (stays : (d : D) → IsTrue (g.is_honest d) → g.may_leave d (g.seen d)) where
  abbrev pub held : Parts D → Durable
  held a = durable_of g.seen a

  same_archive : (old new : Parts D) → new ≡ old → held new ≡ held old
  same_archive old new is = ap held is

  -- an image that the stream in the slot has taken is told by its parts
  parts_taken : (earlier : List Answer) (old : Parts D) (slot : ℕ) (taken : Taken) → IsHeld g slot old (parts_in slot earlier) → old.stopped ≡ false → taken_at g slot old ≡ Some taken.bytes → parts_in slot earlier ≡ Some taken.bytes
  parts_taken earlier old slot taken has runs is = ⊎_elim (λ stopped. absurd (false≢true (sym runs ∙ stopped))) (λ holds. sym holds ∙ is) has

  -- and so is how it began
  begun_there : (earlier : List Answer) (old : Parts D) (slot : ℕ) (s : StreamFacts) → IsBegun slot (state_of old) (begun_in (begins_as naming) slot earlier) → old.stopped ≡ false → stream_at (state_of old).streams slot ≡ Some s
      → begun_in (begins_as naming) slot earlier ≡ Some (empty_stream s)
  begun_there earlier old slot s begun runs at =
      ⊎_elim (λ stopped. absurd (false≢true (sym runs ∙ stopped))) (λ holds. sym holds ∙ ap (option_map empty_stream) at) begun

  flag_there : (old : Parts D) (seq : ℕ) (c : Case) → case_numbered seq (state_of old).cases ≡ Some c → (flag : Bool) → c.pinned ≡ flag → HasFlag (held old) seq flag
  flag_there old seq c at flag is = let f = is_found old.journal.standing.shape (g.seen old.disk) old.journal.standing.cases seq c at in (found_case old.journal.standing.shape (g.seen old.disk) c, f.0, f.1, is)

  label_there : (old : Parts D) (seq : ℕ) (c : Case) → case_numbered seq (state_of old).cases ≡ Some c → (text : List ℕ) → c.label ≡ text → HasLabel (held old) seq text
  label_there old seq c at text is = let f = is_found old.journal.standing.shape (g.seen old.disk) old.journal.standing.cases seq c at in (found_case old.journal.standing.shape (g.seen old.disk) c, f.0, f.1, is)

  decided : (old : Parts D) (policy : Policy) (dropped : List ℕ) (unmet : Bool) → IsDecision policy (map step.brief_of (state_of old).cases) dropped unmet → IsDecision policy (map brief_of (held old).cases) dropped unmet
  decided old policy dropped unmet decision =
      subst (λ (bs : List Brief). IsDecision policy bs dropped unmet) (briefs_are old.journal.standing.shape (g.seen old.disk) old.journal.standing.cases) decision

  pub line_leads : (earlier : List Answer) (old new : Parts D) (what : Said) (raw reply : List ℕ) → IsTrue (g.is_honest old.disk) → ((slot : ℕ) → what ≡ end_of slot → IsHeld g slot old (parts_in slot earlier) × IsBegun slot (state_of old) (begun_in (begins_as naming) slot earlier))
      → Replies g naming old what raw reply new → Leads (begins_as naming) earlier what reply (held old) (held new)
  line_leads earlier old new silence raw reply honest has r = (r.0, same_archive old new r.1)
  line_leads earlier old new bad_line raw reply honest has r = (r.0, same_archive old new r.1)
  line_leads earlier old new long_line raw reply honest has r = (r.0, same_archive old new r.1)
  line_leads earlier old new (begin_exec slot name) raw reply honest has r = inl ((begins_stays g old new slot (exec_stream name) reply r.0 r.1).durable honest)
  line_leads earlier old new (begin_core slot process) raw reply honest has r = inl ((begins_stays g old new slot (core_stream naming process) reply r.0 r.1).durable honest)
  line_leads earlier old new (part_of slot k) raw reply honest has r = inl (r.1.stays.durable honest)
  line_leads earlier old new (end_of slot) raw reply honest has (stored, (Ok seq, call, told, is)) =
      let m = lasts.finish old new slot seq honest call in
      let taken : taken_at g slot old ≡ Some m.1.1.bytes = ap (option_map (λ (t : Taken). t.bytes)) m.1.3 in
      inl (empty_stream m.1.0, m.1.0.len, m.0, m.1.1.bytes, begun_there earlier old slot m.1.0 (has slot refl).1 call.step.2.0 m.1.2, parts_taken earlier old slot m.1.1 (has slot refl).0 call.step.2.0 taken, told ∙ ap (λ (n : ℕ). end_reply (Ok n)) call.step.6, m.1.5)
  line_leads earlier old new (end_of slot) raw reply honest has (stored, (Err f, call, told, is)) = inr (reason_of f, told, lasts.refusals old new f honest (inl (slot, call)))
  line_leads earlier old new (drop_of slot) raw reply honest has r = inl (r.1.stays.durable honest)
  line_leads earlier old new (delete_of seq) raw reply honest has (Ok u, call, told) = inl (flag_there old seq call.step.0 call.step.1.1 false call.step.2, told, lasts.delete old new seq u honest call)
  line_leads earlier old new (delete_of seq) raw reply honest has (Err f, call, told) = inr (reason_of f, told, lasts.refusals old new f honest (inr (inl (seq, call))))
  line_leads earlier old new (pin_of seq flag) raw reply honest has (Ok u, call, told) =
      let p = lasts.pin old new seq flag u honest call in
      inl (told, ⊎_elim (λ same. inr (flag_there old seq p.0 p.1.1 flag same.0, same.1)) (λ set. inl set.1) p.2)
  line_leads earlier old new (pin_of seq flag) raw reply honest has (Err f, call, told) = inr (reason_of f, told, lasts.refusals old new f honest (inr (inr (inl (seq, flag, call)))))
  line_leads earlier old new (label_of seq label) raw reply honest has (Ok u, call, told) =
      let p = lasts.label old new seq label u honest call in
      inl (told, ⊎_elim (λ same. inr (label_there old seq p.0 p.1.1 label same.0, same.1)) (λ set. inl set.1) p.2)
  line_leads earlier old new (label_of seq label) raw reply honest has (Err f, call, told) = inr (reason_of f, told, lasts.refusals old new f honest (inr (inr (inr (inr (inl (seq, label, call)))))))
  line_leads earlier old new upgrade_archive raw reply honest has (Ok u, call, told) = inl (told, lasts.upgrade old new u honest call)
  line_leads earlier old new upgrade_archive raw reply honest has (Err f, call, told) = inr (reason_of f, told, lasts.refusals old new f honest (inr (inr (inr (inr (inr call))))))
  line_leads earlier old new (retire_by policy) raw reply honest has (Ok d, call, told) =
      inl (d.dropped.items, d.unmet, decided old policy d.dropped.items d.unmet call.step.1, told, lasts.retire old new policy d honest call)
  line_leads earlier old new (retire_by policy) raw reply honest has (Err f, call, told) = inr (reason_of f, told, lasts.refusals old new f honest (inr (inr (inr (inl (policy, call))))))
  line_leads earlier old new list_all_cases raw reply honest has r = inl (same_archive old new r.1)
  line_leads earlier old new count_free raw reply honest has r = inl (same_archive old new r.3)
  line_leads earlier old new (inspect_of seq query) raw reply honest has r =
      inl ((inspects_leaves g old seq (query_by naming query) reply new r).stays.durable honest)

  -- an archive that a disk fault has stopped is changed no more
  line_frozen : (old new : Parts D) (what : Said) (raw reply : List ℕ) → IsTrue (g.is_honest old.disk) → old.stopped ≡ true → Replies g naming old what raw reply new → held new ≡ held old
  line_frozen old new silence raw reply honest stopped r = same_archive old new r.1
  line_frozen old new bad_line raw reply honest stopped r = same_archive old new r.1
  line_frozen old new long_line raw reply honest stopped r = same_archive old new r.1
  line_frozen old new (begin_exec slot name) raw reply honest stopped r = (begins_stays g old new slot (exec_stream name) reply r.0 r.1).durable honest
  line_frozen old new (begin_core slot process) raw reply honest stopped r = (begins_stays g old new slot (core_stream naming process) reply r.0 r.1).durable honest
  line_frozen old new (part_of slot k) raw reply honest stopped r = r.1.stays.durable honest
  line_frozen old new (end_of slot) raw reply honest stopped (stored, (Ok seq, call, told, is)) = absurd (false≢true (sym call.step.2.0 ∙ stopped))
  line_frozen old new (end_of slot) raw reply honest stopped (stored, (Err f, call, told, is)) = lasts.refusals old new f honest (inl (slot, call))
  line_frozen old new (drop_of slot) raw reply honest stopped r = r.1.stays.durable honest
  line_frozen old new (delete_of seq) raw reply honest stopped (Ok u, call, told) = absurd (false≢true (sym call.step.1.0 ∙ stopped))
  line_frozen old new (delete_of seq) raw reply honest stopped (Err f, call, told) = lasts.refusals old new f honest (inr (inl (seq, call)))
  line_frozen old new (pin_of seq flag) raw reply honest stopped (Ok u, call, told) = absurd (false≢true (sym call.step.1.0 ∙ stopped))
  line_frozen old new (pin_of seq flag) raw reply honest stopped (Err f, call, told) = lasts.refusals old new f honest (inr (inr (inl (seq, flag, call))))
  line_frozen old new (label_of seq label) raw reply honest stopped (Ok u, call, told) = absurd (false≢true (sym call.step.1.0.0 ∙ stopped))
  line_frozen old new (label_of seq label) raw reply honest stopped (Err f, call, told) = lasts.refusals old new f honest (inr (inr (inr (inr (inl (seq, label, call))))))
  line_frozen old new upgrade_archive raw reply honest stopped (Ok u, call, told) = absurd (false≢true (sym call.step.0 ∙ stopped))
  line_frozen old new upgrade_archive raw reply honest stopped (Err f, call, told) = lasts.refusals old new f honest (inr (inr (inr (inr (inr call)))))
  line_frozen old new (retire_by policy) raw reply honest stopped (Ok d, call, told) = absurd (false≢true (sym call.step.0 ∙ stopped))
  line_frozen old new (retire_by policy) raw reply honest stopped (Err f, call, told) = lasts.refusals old new f honest (inr (inr (inr (inl (policy, call)))))
  line_frozen old new list_all_cases raw reply honest stopped r = same_archive old new r.1
  line_frozen old new count_free raw reply honest stopped r = same_archive old new r.3
  line_frozen old new (inspect_of seq query) raw reply honest stopped r = (inspects_leaves g old seq (query_by naming query) reply new r).stays.durable honest

  -- where something is in doubt, the archive is stopped
  is_frozen : (old new : Stage D) → IsClear old → (old.archive.stopped ≡ true → held new.archive ≡ held old.archive) → (old.in_doubt ≡ [] → ⊥) → held new.archive ≡ held old.archive
  is_frozen old new clear stops doubted = ⊎_elim (λ stopped. stops stopped) (λ runs. absurd (doubted (clear runs))) (cases_Bool old.archive.stopped)

  -- a line that a disk fault kept from its end had an archive that was not stopped before
  ends_runs : (old new : Parts D) (slot : ℕ) (reply : List ℕ) (stored : Option ℕ) → Ends g old slot reply new stored → reply ≡ no_reply (codes "Disk") → old.stopped ≡ false
  ends_runs old new slot reply stored (r, call, answered, is) told = fault_runs r (end_told r (sym answered ∙ told)) call.step
    where
      fault_runs : (r : Result ℕ ArchiveFault) → IsDiskFault r → FinishStep (state_of old) slot r (state_of new) → old.stopped ≡ false
      fault_runs (Ok seq) fault step = absurd fault
      fault_runs (Err f) fault step = (subst (λ (e : ArchiveFault). FinishStep (state_of old) slot (Err e) (state_of new)) fault step).1.0

  -- and a case that was to be deleted was there, and not pinned
  deletes_one : (old new : Parts D) (seq : ℕ) (reply : List ℕ) → Deletes g old seq reply new → reply ≡ no_reply (codes "Disk") → HasFlag (held old) seq false
  deletes_one old new seq reply (r, call, answered) told = fault_has r (plain_told r (sym answered ∙ told)) call.step
    where
      fault_has : (r : Result (Unit {0}) ArchiveFault) → IsDiskFault r → DeleteStep (state_of old) seq r (state_of new) → HasFlag (held old) seq false
      fault_has (Ok u) fault step = absurd fault
      fault_has (Err f) fault step =
          let d = subst (λ (e : ArchiveFault). DeleteStep (state_of old) seq (Err e) (state_of new)) fault step in
          flag_there old seq d.0 d.1.1 false d.2

  pub line_would : (earlier : List Answer) (old new : Parts D) (what : Said) (raw reply : List ℕ) (x : Durable) → ((slot : ℕ) → what ≡ end_of slot → IsHeld g slot old (parts_in slot earlier) × IsBegun slot (state_of old) (begun_in (begins_as naming) slot earlier))
      → Replies g naming old what raw reply new → reply ≡ no_reply (codes "Disk") → MayLeave g old what x → WouldLeave (begins_as naming) earlier what (held old) x
  line_would earlier old new (end_of slot) raw reply x has r told may =
      let taken : taken_at g slot old ≡ Some may.1.1.bytes = ap (option_map (λ (t : Taken). t.bytes)) may.1.3 in (
        refl,
        end_reply (Ok (held old).next),
        (
          empty_stream may.1.0,
          may.1.0.len,
          may.0,
          may.1.1.bytes,
          begun_there earlier old slot may.1.0 (has slot refl).1 (ends_runs old new slot reply r.0 r.1 told) may.1.2,
          parts_taken earlier old slot may.1.1 (has slot refl).0 (ends_runs old new slot reply r.0 r.1 told) taken,
          refl,
          may.1.5,
        ),
      )
  line_would earlier old new (delete_of seq) raw reply x has r told may = (refl, ok_reply, (deletes_one old new seq reply r told, refl, may))
  line_would earlier old new (pin_of seq flag) raw reply x has r told may = (refl, ok_reply, (refl, inl may))
  line_would earlier old new (label_of seq label) raw reply x has r told may = (refl, ok_reply, (refl, inl may))
  line_would earlier old new upgrade_archive raw reply x has r told may = (refl, ok_reply, (refl, may))
  line_would earlier old new (retire_by policy) raw reply x has r told may = (refl, _, (may.0, may.1, decided old policy may.0 may.1 may.2.1, refl, may.3))
  line_would earlier old new _ raw reply x has r told may = absurd may

  -- where not all bytes of a part are there
  cut_leads : (earlier : List Answer) (old new : Parts D) (what : Said) (raw reply : List ℕ) → IsTrue (g.is_honest old.disk) → Truncates g old what raw reply new → Leads (begins_as naming) earlier what reply (held old) (held new)
  cut_leads earlier old new (part_of slot n) raw reply honest cut = inr (codes "Truncated", cut.5, (truncates_stays g old new (part_of slot n) raw reply cut).durable honest)
  cut_leads earlier old new _ raw reply honest cut = absurd cut

  cut_would : (earlier : List Answer) (old new : Parts D) (what : Said) (raw reply : List ℕ) (x : Durable) → Truncates g old what raw reply new → MayLeave g old what x → WouldLeave (begins_as naming) earlier what (held old) x
  cut_would earlier old new (part_of slot n) raw reply x cut may = absurd may
  cut_would earlier old new _ raw reply x cut may = absurd cut

  module _ (earlier : List Answer) (old new : Parts D) (reply : List ℕ) (honest : IsTrue (g.is_honest old.disk)) (has : (slot : ℕ) → IsHeld g slot old (parts_in slot earlier) × IsBegun slot (state_of old) (begun_in (begins_as naming) slot earlier)) where
    last_leads : (what : Said) (n : ℕ) → LastReplies g naming n old what reply new → Leads (begins_as naming) earlier what reply (held old) (held new)
    last_leads what zero r = line_leads earlier old new what [] reply honest (λ slot is. has slot) r
    last_leads what (suc n) cut = cut_leads earlier old new what [] reply honest cut

    last_would : (what : Said) (n : ℕ) (x : Durable) → LastReplies g naming n old what reply new → reply ≡ no_reply (codes "Disk") → MayLeave g old what x → WouldLeave (begins_as naming) earlier what (held old) x
    last_would what zero x r told may = line_would earlier old new what [] reply x (λ slot is. has slot) r told may
    last_would what (suc n) x cut told may = cut_would earlier old new what [] reply x cut may

    end_leads : (e : Ending) → EndReplies g naming old e reply new → Leads (begins_as naming) earlier (said_last e) reply (held old) (held new)
    end_leads complete r = (r.0, same_archive old new r.1)
    end_leads (last_line line) r = last_leads (said line) (raw_length (said line)) r
    end_leads (cut_part line raw) cut = cut_leads earlier old new (said line) raw reply honest cut

    end_would : (e : Ending) (x : Durable) → EndReplies g naming old e reply new → reply ≡ no_reply (codes "Disk") → MayLeave g old (said_last e) x → WouldLeave (begins_as naming) earlier (said_last e) (held old) x
    end_would complete x r told may = absurd may
    end_would (last_line line) x r told may = last_would (said line) (raw_length (said line)) x r told may
    end_would (cut_part line raw) x cut told may = cut_would earlier old new (said line) raw reply x cut may

    finish_leads : (last : Said) → Finishes g naming old last reply new → Leads (begins_as naming) earlier last reply (held old) (held new)
    finish_leads last finishes =
        ⊎_elim (λ e. subst (λ (w : Said). Leads (begins_as naming) earlier w reply (held old) (held new)) (sym e.1) (end_leads e.0 e.2))
        (λ b. subst (λ (w : Said). Leads (begins_as naming) earlier w reply (held old) (held new)) (sym b.1) (b.2, (broken_stays g old new b.0 b.3).durable honest)) finishes

    last_frozen : old.stopped ≡ true → (what : Said) (n : ℕ) → LastReplies g naming n old what reply new → held new ≡ held old
    last_frozen stopped what zero r = line_frozen old new what [] reply honest stopped r
    last_frozen stopped what (suc n) cut = (truncates_stays g old new what [] reply cut).durable honest

    end_frozen : old.stopped ≡ true → (e : Ending) → EndReplies g naming old e reply new → held new ≡ held old
    end_frozen stopped complete r = same_archive old new r.1
    end_frozen stopped (last_line line) r = last_frozen stopped (said line) (raw_length (said line)) r
    end_frozen stopped (cut_part line raw) cut = (truncates_stays g old new (said line) raw reply cut).durable honest

    finish_frozen : (last : Said) → Finishes g naming old last reply new → old.stopped ≡ true → held new ≡ held old
    finish_frozen last finishes stopped = ⊎_elim (λ e. end_frozen stopped e.0 e.2) (λ b. (broken_stays g old new b.0 b.3).durable honest) finishes

    finish_would : (last : Said) (x : Durable) → Finishes g naming old last reply new → reply ≡ no_reply (codes "Disk") → MayLeave g old last x → WouldLeave (begins_as naming) earlier last (held old) x
    finish_would last x finishes told may =
        ⊎_elim (λ e. subst (λ (w : Said). WouldLeave (begins_as naming) earlier w (held old) x) (sym e.1) (end_would e.0 x e.2 told (subst (λ (w : Said). MayLeave g old w x) e.1 may)))
        (λ b. absurd (subst (λ (w : Said). MayLeave g old w x) b.1 may)) finishes

  -- how things stand at a stage
  abbrev pub moment_at : Stage D → Moment D
  moment_at s = record { disk = s.archive.disk; holds = held s.archive; in_doubt = s.in_doubt }

  -- what each slot holds is told by the lines before
  abbrev AllStand : List Answer → Stage D → Type 0
  AllStand earlier s = (slot : ℕ) → Stands g naming slot s (parts_in slot earlier) × IsBegun slot (state_of s.archive) (begun_in (begins_as naming) slot earlier)

  behind_then : (slot : ℕ) (o : Option (List ℕ)) (list : List Answer) (a : Answer) → held_behind slot o (list ++ a ∷ []) ≡ held_then slot (what_of a) a.item.raw (is_no a.reply) (held_behind slot o list)
  behind_then slot o [] a = refl
  behind_then slot o (b ∷ list) a = behind_then slot (held_then slot (what_of b) b.item.raw (is_no b.reply) o) list a

  begun_on : (slot : ℕ) (o : Option StreamFacts) (list : List Answer) (a : Answer) → begun_behind (begins_as naming) slot o (list ++ a ∷ []) ≡ begun_then (begins_as naming) slot (what_of a) (is_no a.reply) (begun_behind (begins_as naming) slot o list)
  begun_on slot o [] a = refl
  begun_on slot o (b ∷ list) a = begun_on slot (begun_then (begins_as naming) slot (what_of b) (is_no b.reply) o) list a

  stands_then : (earlier : List Answer) (old new : Stage D) (a : Answer) → AllStand earlier old → Replies g naming old.archive (what_of a) a.item.raw a.reply new.archive → Moves g old (what_of a) a.reply new → AllStand (earlier ++ a ∷ []) new
  stands_then earlier old new a stands r moves slot = (
    subst (λ (o : Option (List ℕ)). Stands g naming slot new o) (sym (behind_then slot None earlier a)) (answer_stands g naming slot old new a (parts_in slot earlier) (stands slot).0 r moves),
    subst (λ (o : Option StreamFacts). IsBegun slot (state_of new.archive) o) (sym (begun_on slot None earlier a))
        (then_begun g slot naming old.archive new.archive (what_of a) a.item.raw a.reply (begun_in (begins_as naming) slot earlier) (line_halts g naming old.archive new.archive (what_of a) a.item.raw a.reply r).0 r (stands slot).1),
  )

  abbrev pub lines_of : List Answer → List (Stage D) → List (Line D)
  lines_of [] ss = []
  lines_of (a ∷ list) [] = []
  lines_of (a ∷ list) (s ∷ ss) = record { answer = a; after = moment_at s } ∷ lines_of list ss

  answers_are : (old : Stage D) (list : List Answer) (ss : List (Stage D)) → Answers g naming old list ss → map answer_of (lines_of list ss) ≡ list
  answers_are old [] [] run = refl
  answers_are old [] (s ∷ ss) run = absurd run
  answers_are old (a ∷ list) [] run = absurd run
  answers_are old (a ∷ list) (s ∷ ss) run = ap (λ (x : List Answer). a ∷ x) (answers_are s list ss run.2)

  moments_are : (old : Stage D) (list : List Answer) (ss : List (Stage D)) → Answers g naming old list ss → map moment_of (lines_of list ss) ≡ map moment_at ss
  moments_are old [] [] run = refl
  moments_are old [] (s ∷ ss) run = absurd run
  moments_are old (a ∷ list) [] run = absurd run
  moments_are old (a ∷ list) (s ∷ ss) run = ap (λ (x : List (Moment D)). moment_at s ∷ x) (moments_are s list ss run.2)

  last_is : (old : Stage D) (list : List Answer) (ss : List (Stage D)) → Answers g naming old list ss → last_moment (moment_at old) (lines_of list ss) ≡ moment_at (last_stage old ss)
  last_is old [] [] run = refl
  last_is old [] (s ∷ ss) run = absurd run
  last_is old (a ∷ list) [] run = absurd run
  last_is old (a ∷ list) (s ∷ ss) run = last_is s list ss run.2

  all_lead : (earlier : List Answer) (old : Stage D) (list : List Answer) (ss : List (Stage D)) → AllStand earlier old → Answers g naming old list ss → AllLead (begins_as naming) earlier (moment_at old) (lines_of list ss)
  all_lead earlier old [] [] stands run = tt
  all_lead earlier old [] (s ∷ ss) stands run = absurd run
  all_lead earlier old (a ∷ list) [] stands run = absurd run
  all_lead earlier old (a ∷ list) (s ∷ ss) stands run = (
    leads_on g (begins_as naming) earlier old s (what_of a) a.reply
        (line_leads earlier old.archive s.archive (what_of a) a.item.raw a.reply (stands 0).0.honest (λ slot is. ((stands slot).0.has, (stands slot).1)) run.0)
        (λ x told may. line_would earlier old.archive s.archive (what_of a) a.item.raw a.reply x (λ slot is. ((stands slot).0.has, (stands slot).1)) run.0 told may) run.1,
    is_frozen old s (stands 0).0.clear (λ stopped. line_frozen old.archive s.archive (what_of a) a.item.raw a.reply (stands 0).0.honest stopped run.0),
    all_lead (earlier ++ a ∷ []) s list ss (stands_then earlier old s a stands run.0 run.1) run.2,
  )

  all_stand : (earlier : List Answer) (old : Stage D) (list : List Answer) (ss : List (Stage D)) → AllStand earlier old → Answers g naming old list ss → AllStand (earlier ++ list) (last_stage old ss)
  all_stand earlier old [] [] stands run = subst (λ (x : List Answer). AllStand x old) (sym (append-nil earlier)) stands
  all_stand earlier old [] (s ∷ ss) stands run = absurd run
  all_stand earlier old (a ∷ list) [] stands run = absurd run
  all_stand earlier old (a ∷ list) (s ∷ ss) stands run =
      subst (λ (x : List Answer). AllStand x (last_stage s ss)) (append_assoc earlier (a ∷ []) list) (all_stand (earlier ++ a ∷ []) s list ss (stands_then earlier old s a stands run.0 run.1) run.2)

  -- a session from its first stage on
  module _ (old end : Stage D) (closed : Parts D) (list : List Answer) (ss : List (Stage D)) (last : Said) (reply : List ℕ) (answered : Answers g naming old list ss) (finishes : Finishes g naming (last_stage old ss).archive last reply end.archive)
      (moves : Moves g (last_stage old ss) last reply end) (closes : ChangesNoCase g end.archive closed) (stands : AllStand [] old) where
    abbrev pub course : Course D
    course = record { begin = moment_at old; lines = lines_of list ss; last = last; reply = reply; end = moment_at end }

    pub is_course : old.in_doubt ≡ [] → IsCourse (begins_as naming) course
    is_course clear =
        let here = all_stand [] old list ss stands answered in
        let ends =
        leads_on g (begins_as naming) list (last_stage old ss) end last reply
        (finish_leads list (last_stage old ss).archive end.archive reply (here 0).0.honest (λ slot. ((here slot).0.has, (here slot).1)) last finishes)
        (λ x told may. finish_would list (last_stage old ss).archive end.archive reply (here 0).0.honest (λ slot. ((here slot).0.has, (here slot).1)) last x finishes told may) moves
        in
        record {
          clear = clear;
          lines = all_lead [] old list ss stands answered;
          frozen =
              subst (λ (m : Moment D). IsFrozen m (moment_at end)) (sym (last_is old list ss answered))
              (is_frozen (last_stage old ss) end (here 0).0.clear (λ stopped. finish_frozen list (last_stage old ss).archive end.archive reply (here 0).0.honest (λ slot. ((here slot).0.has, (here slot).1)) last finishes stopped));
          last =
              subst (λ (x : List Answer). LeadsOn (begins_as naming) x (last_moment (moment_at old) (lines_of list ss)) last reply (moment_at end)) (sym (answers_are old list ss answered))
              (subst (λ (m : Moment D). LeadsOn (begins_as naming) list m last reply (moment_at end)) (sym (last_is old list ss answered)) ends);
        }

    honest_end : IsTrue (g.is_honest end.archive.disk)
    honest_end = moves.passes.honesty ∙ (all_stand [] old list ss stands answered 0).0.honest

    abbrev pub later : List (Moment D)
    later = map moment_of (lines_of list ss) ++ moment_at end ∷ []

    later_is : map moment_at ss ++ moment_at end ∷ [] ≡ later
    later_is = ap (λ (x : List (Moment D)). x ++ moment_at end ∷ []) (sym (moments_are old list ss answered))

    pub session_safe : IsMarkSettled g (mark_at g.seen old) → IsRunOfMarks g (mark_at g.seen old) (marks_of g.seen ss end closed) → IsFoundSince g (mark_at g.seen old) (marks_of g.seen ss end closed)
        → AreSafe g closed.disk (moment_at old) later
    session_safe settled run found = subst (AreSafe g closed.disk (moment_at old)) later_is (are_safe g stays end closed honest_end closes old ss (stands 0).0.honest settled run found)

    pub opening_safe : NothingElseIsLeft g → IsRunOfMarks g (mark_at g.seen old) (marks_of g.seen ss end closed) → (before : D) → LeavesOnly g before old.archive.disk (g.may_leave before)
        → (left : List ℕ) → g.left_since closed.disk (g.clock before) left → g.may_leave before left ⊎ FindsSince left (moment_at old) later
    opening_safe law run before leaves left was =
        ⊎_elim inl (λ found. inr (subst (FindsSince left (moment_at old)) later_is found)) (since_opening g stays end closed honest_end closes law old ss (stands 0).0.honest run before leaves left was)

    pub before_safe : NothingElseIsLeft g → IsRunOfMarks g (mark_at g.seen old) (marks_of g.seen ss end closed) → (before : D) → LeavesOnly g before old.archive.disk (g.may_leave before)
        → (time : ℕ) (left : List ℕ) → time ≤ g.clock before → g.left_since closed.disk time left → g.left_since before time left ⊎ (g.may_leave before left ⊎ FindsSince left (moment_at old) later)
    before_safe law run before leaves time left early was =
        subst (λ (ms : List (Moment D)). g.left_since before time left ⊎ (g.may_leave before left ⊎ FindsSince left (moment_at old) ms)) later_is
        (since_before g stays end closed honest_end closes law old ss (stands 0).0.honest run before leaves time left early was)

-- the three ways in which a session that was opened ends: its text
module _ {D : Type 0} (g : disk.Ghosts D) (lasts : LastingLaws g) (stays : (d : D) → IsTrue (g.is_honest d) → g.may_leave d (g.seen d)) (only : (d : D) (c : List ℕ) → g.left_since d (g.clock d) c → g.may_leave d c) (counts : (d : D) (t : ℕ) (c : List ℕ) → t ≤ g.clock d → g.may_leave d c → g.left_since d t c) (nothing_else : NothingElseIsLeft g) (whole_run : WholeIsARun g) (front_run : FrontIsARun g) (limit : ℕ) (naming : Naming) (t : Streams) (before after : D) (opened closed : Parts D)
    (opening : OpenCall g limit before (Ok opened)) (disk : after ≡ closed.disk) (honest : IsTrue (g.is_honest before)) where
  abbrev first : Stage D
  first = record { archive = opened; in_doubt = [] }

  begins : (slot : ℕ) → Stands g naming slot first (parts_in slot []) × IsBegun slot (state_of opened) (begun_in (begins_as naming) slot [])
  begins slot = (
    record {
      honest = opening.honesty ∙ honest;
      clear = λ runs. refl;
      has = inr (ap (option_map (λ (k : Taken). k.bytes)) (none_taken g slot opened slot (opening_quiet limit opened opening.state slot)));
    },
    inr (ap (option_map empty_stream) (opening_quiet limit opened opening.state slot)),
  )

  module _ (r : Result (Unit {0}) LifeFault) (read more written unwritten : List ℕ) (stages : List (Stage D)) (end : Stage D) (consumed : Consumes t.input t.input' (read ++ more)) (appended : Appends t.taken t.taken' written)
      (drops : DropsStreams g end.archive closed) (found : IsFoundAfterAStop g first stages end closed) (all : IsAll r more t.input' unwritten) (run : IsRunOfMarks g (mark_at g.seen first) (marks_of g.seen stages end closed))
      (answers : List Answer) (last : Said) (reply : List ℕ) (is : IsToldAs g read (written ++ unwritten) (session_of g naming first stages end closed answers last reply)) (ended : IsEnded r is.rest last)
      (idle : IsIdle g r (record { begin = moment_at g naming lasts stays first; lines = lines_of g naming lasts stays answers stages; last = last; reply = reply; end = moment_at g naming lasts stays end }) before after) where
    pub crash_safe : IsCrashSafe (Unit {0}) LifeFault g naming t before after r
    crash_safe =
        let same = answers_are g naming lasts stays first answers stages is.had.answered in
        let settled : IsMarkSettled g (mark_at g.seen first) = λ c may. (durable_of g.seen opened, opening.settled honest c may, inl refl) in
        record {
          course = course g naming lasts stays first end closed answers stages last reply is.had.answered is.had.finishes is.had.moves drops.stays begins;
          found = λ x stands. opening.found_again x honest stands;
          is = is_course g naming lasts stays first end closed answers stages last reply is.had.answered is.had.finishes is.had.moves drops.stays begins refl;
          text = record {
            read = read;
            rest = is.rest;
            ends = is.ends;
            more = more;
            consumed = consumed;
            script = subst (λ (list : List Answer). read ≡ flat_map spelled (map (λ (a : Answer). a.item) list) ++ is.rest) (sym same) is.cut;
            items = subst (λ (list : List Answer). AllByRecursion IsItem (map (λ (a : Answer). a.item) list)) (sym same) is.each;
            written = written;
            unwritten = unwritten;
            appended = appended;
            replies = subst (λ (list : List Answer). written ++ unwritten ≡ flat_map (λ (a : Answer). a.reply) list ++ reply) (sym same) is.text;
          };
          all = all;
          ended = ended;
          disk = disk ∙ drops.disk;
          idle = idle;
          opening =
              subst
              (λ (d : D). (left : List ℕ) → g.left_since d (g.clock before) left → g.may_leave before left ⊎ FindsSince left (moment_at g naming lasts stays first)
              (later g naming lasts stays first end closed answers stages last reply is.had.answered is.had.finishes is.had.moves drops.stays begins)) (sym disk)
              (opening_safe g naming lasts stays first end closed answers stages last reply is.had.answered is.had.finishes is.had.moves drops.stays begins nothing_else run before (opening.any_moment honest));
          earlier =
              subst
              (λ (d : D). (time : ℕ) (left : List ℕ) → time ≤ g.clock before → g.left_since d time left → g.left_since before time left ⊎ (g.may_leave before left ⊎ FindsSince left (moment_at g naming lasts stays first)
              (later g naming lasts stays first end closed answers stages last reply is.had.answered is.had.finishes is.had.moves drops.stays begins))) (sym disk)
              (before_safe g naming lasts stays first end closed answers stages last reply is.had.answered is.had.finishes is.had.moves drops.stays begins nothing_else run before (opening.any_moment honest));
          safe =
              subst (λ (d : D). AreSafe g d (moment_at g naming lasts stays first) (later g naming lasts stays first end closed answers stages last reply is.had.answered is.had.finishes is.had.moves drops.stays begins)) (sym disk)
              (session_safe g naming lasts stays first end closed answers stages last reply is.had.answered is.had.finishes is.had.moves drops.stays begins settled run (found (opening.honesty ∙ honest) settled));
        }

  nothing_more : (a b : Option (List ℕ)) (x : List ℕ) → Consumes a b x → Consumes a b (x ++ [])
  nothing_more a b x consumed = subst (Consumes a b) (sym (append-nil x)) consumed

  whole_text : (x : List ℕ) (P : List ℕ → Type 0) → P x → P (x ++ [])
  whole_text x P p = subst P (sym (append-nil x)) p

  -- the same answer of a life
  abbrev pub life_of : Result (Unit {0}) SessionFault → Result (Unit {0}) LifeFault
  life_of (Ok u) = Ok u
  life_of (Err f) = Err (life.Session f)

  -- a whole script of lines that only look
  idle_lines : (answers : List Answer) (last : Said) (reply : List ℕ) (stages : List (Stage D)) (end : Stage D) → DropsStreams g end.archive closed → Answers g naming first answers stages
      → EndsAs g naming (last_stage first stages).archive last reply end.archive
      → AllByRecursion (λ (a : Answer). is_idle (what_of a) ≡ true) (map answer_of (lines_of g naming lasts stays answers stages)) × (is_idle last ≡ true) → OnlyReads g before after
  idle_lines answers last reply stages end drops run ending idle =
      let lines = subst (AllByRecursion (λ (a : Answer). is_idle (what_of a) ≡ true)) (answers_are g naming lasts stays first answers stages run) idle.0 in
      let ended = end_idle g only naming (last_stage first stages).archive end.archive reply ending.0 (ap is_idle (sym ending.1) ∙ idle.1) ending.2 in
      subst (λ (d : D). OnlyReads g before d) (sym (disk ∙ drops.disk))
      (quiet_then g before opened.disk end.archive.disk (opening_idle g counts limit before opened opening)
      (quiet_then g opened.disk (last_stage first stages).archive.disk end.archive.disk (lines_idle g only naming first answers stages run lines) ended))

  idle_of : (r : Result (Unit {0}) LifeFault) (answers : List Answer) (last : Said) (reply : List ℕ) (stages : List (Stage D)) (end : Stage D) → DropsStreams g end.archive closed → Answers g naming first answers stages
      → EndsAs g naming (last_stage first stages).archive last reply end.archive
      → IsIdle g r (record { begin = moment_at g naming lasts stays first; lines = lines_of g naming lasts stays answers stages; last = last; reply = reply; end = moment_at g naming lasts stays end }) before after
  idle_of (Ok u) answers last reply stages end drops run ending = λ idle. idle_lines answers last reply stages end drops run ending idle
  idle_of (Err f) answers last reply stages end drops run ending = tt

  ended_of : (r : Result (Unit {0}) LifeFault) (rest : List ℕ) (last : Said) → EndsWhole rest last → IsEnded r rest last
  ended_of (Ok u) rest last ends = ends
  ended_of (Err f) rest last ends = tt

  module _ (read more written unwritten : List ℕ) (stages : List (Stage D)) (end : Stage D) (consumed : Consumes t.input t.input' (read ++ more)) (appended : Appends t.taken t.taken' written) (drops : DropsStreams g end.archive closed) (found : IsFoundAfterAStop g first stages end closed) where
    -- a script that was answered to its end
    whole_safe : (r : Result (Unit {0}) LifeFault) → IsAll r more t.input' unwritten → AnswersAll g naming read (written ++ unwritten) first stages end → IsCrashSafe (Unit {0}) LifeFault g naming t before after r
    whole_safe r all answers =
        let told = all_told g naming read (written ++ unwritten) first stages end closed answers drops in
        crash_safe r read more written unwritten stages end consumed appended drops found all (whole_run naming read (written ++ unwritten) first stages end closed answers drops) told.0 told.1 told.2 told.3.0 (ended_of r told.3.0.rest told.1 told.3.1)
        (idle_of r told.0 told.1 told.2 stages end drops told.3.0.had.answered told.4)

    -- one that could not be read on
    front_safe : (f : LifeFault) → AnswersWhole g naming read (written ++ unwritten) first stages end → IsCrashSafe (Unit {0}) LifeFault g naming t before after (Err f)
    front_safe f answers =
        let told = whole_told g naming read (written ++ unwritten) first stages end closed answers drops in
        crash_safe (Err f) read more written unwritten stages end consumed appended drops found tt (front_run naming read (written ++ unwritten) first stages end closed answers drops) told.0 told.1 told.2 told.3 tt tt

  pub ended_safe : (r : Result (Unit {0}) SessionFault) → SessionEnds g naming t first closed r → IsCrashSafe (Unit {0}) LifeFault g naming t before after (life_of r)
  ended_safe (Ok u) e =
      whole_safe e.0 [] e.1 [] e.2 e.3 (nothing_more t.input t.input' e.0 e.4) e.6 e.8 e.9 (Ok u) (refl, e.5, refl)
      (whole_text e.1 (λ (x : List ℕ). AnswersAll g naming e.0 x first e.2 e.3) e.7)
  ended_safe (Err ReadFailed) e =
      front_safe e.0 [] e.1 [] e.2 e.3 (nothing_more t.input t.input' e.0 e.4) e.5 e.7 e.8 (life.Session ReadFailed)
      (whole_text e.1 (λ (x : List ℕ). AnswersWhole g naming e.0 x first e.2 e.3) e.6)
  ended_safe (Err TooManyReads) e =
      front_safe e.0 [] e.1 [] e.2 e.3 (nothing_more t.input t.input' e.0 e.4) e.5 e.7 e.8 (life.Session TooManyReads)
      (whole_text e.1 (λ (x : List ℕ). AnswersWhole g naming e.0 x first e.2 e.3) e.6)
  ended_safe (Err WriteFailed) e =
      ⊎_elim (λ all. whole_safe e.read e.more e.out e.rest e.stages e.end e.consumed e.appended e.drops e.found (Err (life.Session WriteFailed)) tt all.0)
      (λ whole. front_safe e.read e.more e.out e.rest e.stages e.end e.consumed e.appended e.drops e.found (life.Session WriteFailed) whole.0) e.carried

module _ {D : Type 0} (g : disk.Ghosts D) (lasts : LastingLaws g) (stays : (d : D) → IsTrue (g.is_honest d) → g.may_leave d (g.seen d)) (only : (d : D) (c : List ℕ) → g.left_since d (g.clock d) c → g.may_leave d c) (counts : (d : D) (t : ℕ) (c : List ℕ) → t ≤ g.clock d → g.may_leave d c → g.left_since d t c) (nothing_else : NothingElseIsLeft g) (whole_run : WholeIsARun g) (front_run : FrontIsARun g) where
  pub sessions_safe : SessionsAreCrashSafe g
  sessions_safe limit naming t before after (Ok u) lived = λ honest.
      ended_safe g lasts stays only counts nothing_else whole_run front_run limit naming t before after lived.opened lived.closed lived.opening lived.disk honest (Ok u) lived.goes
  sessions_safe limit naming t before after (Err (life.Session f)) lived = λ honest.
      ended_safe g lasts stays only counts nothing_else whole_run front_run limit naming t before after lived.opened lived.closed lived.opening lived.disk honest (Err f) lived.goes
  sessions_safe limit naming t before after (Err (life.Open f)) lived = λ honest.
      (lived.0.opening.seen honest, λ left was. (lived.0.opening.any_moment honest).each left was)
