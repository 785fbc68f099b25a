-- A store, step by step, and what a stop of the machine leaves of it.
use Rattle.std.proofs.Common.{◌≡◌, ◌≢◌, ◌⊎◌, inl, inr, ⊎_elim, ℕ, Bool, true, false, cond, List, [], ◌∷◌, ◌++◌, length, map, Option, Some, None, Result, Ok, Err, refl, sym, ap, subst, ◌∙◌, arith, append_assoc, length-append}
use Rattle.std.proofs.lemmas.Bool.{false≢true, true≢false, eqb-false}
use Rattle.std.proofs.lemmas.List.{append-nil, length-map}
use Rattle.std.specs.Prelude.{codes, option_map, IsTrue, ◌<◌, ◌≤◌, if◌then◌else◌}
use Rattle.std.specs.List.{AllByRecursion, filter, flat_map}
use Rattle.std.specs.Result.{result_ok}
use Rattle.std.specs.Io.KnownBytes.{Appends}
use Rattle.disk_model.specs.declared.disk.Disk as disk
use Rattle.intake.specs.declared.faults.ArchiveFault.{ArchiveFault}
use Rattle.intake.specs.StayLaws.{stays_as, stays_then}
use Rattle.intake.specs.Calls.{ChangesNoCase, OpenCall, BeginCall, AbandonCall, FinishCall, DeleteCall}
use Rattle.intake.specs.Contents.{Contents, Taken, empty_taken, zero_block}
use Rattle.intake.specs.Durable.{Durable, durable_of, flagged, labelled, with_case, found_case}
use Rattle.intake.specs.Growth.{IsDiskFault}
use Rattle.intake.specs.Guarding.{MayBeStored}
use Rattle.intake.specs.Marks.{FoundAfterAStop, NothingElseIsLeft, IsRunOfMarks, IsMarkSettled}
use Rattle.intake.specs.Parts.{Parts, state_of, contents_of, stream_facts, taken_in}
use Rattle.intake.specs.Slots.{stream_at}
use Rattle.intake.specs.State.{ArchiveState, StreamFacts}
use Rattle.intake.specs.Step.{HasCase, DeleteStep, longer}
use Rattle.intake.specs.Step as step
use Rattle.retention.specs.Rule.{IsDecision}
use Rattle.retention.specs.declared.Brief.{Brief}
use Rattle.retention.specs.declared.Policy.{Policy}
use Rattle.std.specs.Borrow.{Bor}
use Rattle.stream_names.specs.Commands.{stream_found}
use Rattle.stream_names.specs.declared.names.NewStream.{NewStream}
use Rattle.script_lines.specs.Said.{end_of, delete_of, pin_of, label_of}
use Rattle.archive_replies.specs.Reasons.{reason_of}
use Rattle.script_streams.specs.Replies.{no_reply, ok_reply}
use Rattle.inspector_cli.specs.declared.session.Order.{Order}
use Rattle.inspector_cli.specs.declared.session.SessionFault.{SessionFault}
use Rattle.inspector_cli.specs.declared.session.SessionFault.TheVariants.{ReadFailed, WriteFailed, TooManyReads}
use Rattle.inspector_cli.specs.declared.session.LifeFault.{LifeFault}
use Rattle.inspector_cli.specs.declared.session.LifeFault.TheVariants as life
use Rattle.inspector_cli.specs.declared.session.StoreOutcome.{StoreOutcome}
use Rattle.inspector_cli.specs.declared.stated.Stated.{Stated}
use Rattle.inspector_cli.specs.declared.store.TakeStop.{TakeStop}
use Rattle.inspector_cli.specs.declared.store.TakeStop.TheVariants.{File, Refused, Cut, Differs}
use Rattle.inspector_cli.specs.Headline.{AreSafe, FindsSince, HasFlag, Leads, LeadsOn, Moment, WouldLeave, brief_of}
use Rattle.archive_replies.specs.Texts.{dropped_line, end_reply, plain_reply}
use Rattle.inspector_cli.specs.Fitting.{Going, IsGoing, IsNext, IsShort, NoneMayGo, TakesWhile, cut_of, going_text, gone_text, may_go}
use Rattle.intake.specs.declared.faults.ArchiveFault.TheVariants.{SpaceFull}
use Rattle.inspector_cli.specs.Bursts.{admitted, is_over}
use Rattle.inspector_cli.specs.declared.burst.Burst.{Burst}
use Rattle.inspector_cli.specs.Life.{OpensThen, StoresOver}
use Rattle.intake.specs.Opened.{IsOpened}
use Rattle.inspector_cli.specs.Reply.{Begins, Ends, Takes}
use Rattle.inspector_cli.specs.Session.{Streams}
use Rattle.inspector_cli.specs.Stages.{Stage, Moves, MayLeave, mark_at, marks_of}
use Rattle.inspector_cli.specs.StoreHeadline.{Gone, GoInTurn, IsCutShort, case_in, gone_line, moments_of, PrintsStored, AddsCase, StoresOrNot, StoreCourse, IsStoreCourse, IsTold, IsAdmittedSafe, IsStoreSafe, StoresAreCrashSafe, BeginsEmpty, no_stream}
use Rattle.inspector_cli.specs.Storing.{GoneStages, difference_reason, FillsFile, FileReplies, KeepsOf, cut_text, RestReplies, RetiresFirst, IsChosen, PinsCase, LabelsCase, Options, Stores, StoreEnds, retire_line, said_pin, said_label, stated_in}
use Rattle.inspector_cli.proofs.CaseLemmas.{is_found, briefs_are, cases_are}
use Rattle.inspector_cli.proofs.ClearLemmas.{first_apart, plain_told, retire_told, retire_stops}
use Rattle.inspector_cli.proofs.KeptLemmas.{LastingLaws}
use Rattle.inspector_cli.proofs.SlotLemmas.{at_set, some_same}
use Rattle.inspector_cli.proofs.SafeLemmas.{are_safe, leads_on, moment, since_before, since_opening}
use Rattle.inspector_cli.proofs.StageLemmas.{Laws, Reaches, stage_of, begins_stays, ends_moves}
use Rattle.inspector_cli.proofs.StoreLemmas.{Filling, earlier, filling, filling_runs, retiring_moves, pin_moves, label_moves, set_there}
use Rattle.inspector_cli.proofs.FitLemmas.{answered, on}
use Rattle.inspector_cli.specs.Told.{is_no}
use Rattle.journal_layout.specs.Case.{Case}

abbrev first_byte : List ℕ → ℕ
first_byte [] = 0
first_byte (b ∷ bs) = b

ok_apart : (reason : List ℕ) → ok_reply ≡ no_reply reason → ⊥
ok_apart reason is = eqb-false (first_byte ok_reply) (first_byte (no_reply reason)) refl (ap first_byte is)

abbrev IsNone : Option ℕ → Type 0
IsNone None = Unit {0}
IsNone (Some n) = ⊥

none_apart : (n : ℕ) → None ≡ Some n → ⊥
none_apart n is = subst IsNone is tt

module _ {D : Type 0} (g : disk.Ghosts D) (order : Order) (lasts : LastingLaws g) where
  -- the stream has taken these bytes since it began
  record HasTaken (a : Parts D) (stream : StreamFacts) (raw : List ℕ) : Type 0 where
    blocks : List ℕ
    there : stream_at (state_of a).streams 0 ≡ Some (record stream { len = length raw; blocks = blocks })
    bytes : IsTrue (g.is_honest a.disk) → (free : List ℕ) × (stream_at (contents_of g.seen a).taken 0 ≡ Some (record { bytes = raw; free = free }))

  has_begun : (retired mid : Parts D) (stream : StreamFacts) → stream.len ≡ 0 → BeginCall g retired 0 stream (Ok tt) mid → HasTaken mid stream []
  has_begun retired mid stream none begun = record {
    blocks = stream.blocks;
    there =
        ap (λ (b : ArchiveState). stream_at b.streams 0) begun.step.1 ∙ set_there (state_of retired).streams 0 (Some stream) begun.step.0.1
        ∙ ap (λ (k : ℕ). Some (record stream { len = k })) none;
    bytes = λ honest. (
      zero_block,
      ap (λ (c : Contents). stream_at c.taken 0) begun.bytes ∙ set_there (contents_of g.seen retired).taken 0 (Some empty_taken) (slots_alike retired begun.step.0.1),
    );
  }
    where
      slots_alike : (a : Parts D) → 0 < length (state_of a).streams → 0 < length (contents_of g.seen a).taken
      slots_alike a below =
          let x = length-map a.streams (option_map stream_facts) in
          let y = length-map a.streams (option_map (taken_in a.journal (g.seen a.disk))) in
          omega (arith, x, y, below)

  has_more : (a b : Parts D) (stream : StreamFacts) (so_far raw : List ℕ) → HasTaken a stream so_far → Takes g a 0 raw (Ok tt) b → HasTaken b stream (so_far ++ raw)
  has_more a b stream so_far raw has takes = record {
    blocks = takes.step.3;
    there =
        ap (λ (x : ArchiveState). stream_at x.streams 0) takes.step.4
        ∙ at_set (state_of a).streams 0 takes.step.0 (Some (longer takes.step.0 (length raw) takes.step.3)) takes.step.1.1
        ∙ ap (λ (x : StreamFacts). Some (longer x (length raw) takes.step.3)) (some_same takes.step.0 (record stream { len = length so_far; blocks = has.blocks }) (sym takes.step.1.1 ∙ has.there))
        ∙ ap (λ (k : ℕ). Some (record stream { len = k; blocks = takes.step.3 })) (sym (length-append so_far raw));
    bytes = λ honest. more_bytes (sym takes.stays.honesty ∙ honest);
  }
    where
      more_bytes : IsTrue (g.is_honest a.disk) → (free : List ℕ) × (stream_at (contents_of g.seen b).taken 0 ≡ Some (record { bytes = so_far ++ raw; free = free }))
      more_bytes honest =
          let t = takes.bytes honest in
          let h = has.bytes honest in (
            t.1,
            ap (λ (c : Contents). stream_at c.taken 0) t.3
                ∙ at_set (contents_of g.seen a).taken 0 t.0 (Some (record { bytes = t.0.bytes ++ raw; free = t.1 })) t.2
                ∙ ap (λ (x : Taken). Some (record { bytes = x.bytes ++ raw; free = t.1 })) (some_same t.0 (record { bytes = so_far; free = h.0 }) (sym t.2 ∙ h.1)),
          )

  has_still : (a b : Parts D) (stream : StreamFacts) (raw : List ℕ) (seq : ℕ) (u : Unit {0}) → HasTaken a stream raw → DeleteCall g a seq (Ok u) b → HasTaken b stream raw
  has_still a b stream raw seq u has call = record {
    blocks = has.blocks;
    there = ap (λ (x : ArchiveState). stream_at x.streams 0) call.step.4 ∙ has.there;
    bytes = λ honest.
        (let was : IsTrue (g.is_honest a.disk) = sym call.changes.disk.honesty ∙ honest in
        let h = has.bytes was in
        (h.0, ap (λ (c : Contents). stream_at c.taken 0) (call.bytes was) ∙ h.1));
  }

  -- so it is while cases go
  has_while : (gone : List (Going D)) (a filled : Parts D) (stream : StreamFacts) (so_far raw : List ℕ) → HasTaken a stream so_far → TakesWhile g order a raw gone (Ok tt) filled → HasTaken filled stream (so_far ++ raw)
  has_while [] a filled stream so_far raw has takes = has_more a filled stream so_far raw has takes
  has_while (w ∷ ws) a filled stream so_far raw has takes =
      let went = answered w.answer ws takes.1 w.after filled (TakesWhile g order w.after takes.1 ws (Ok tt) filled) takes.5 in
      let deletes = subst (λ (r : Result (Unit {0}) ArchiveFault). DeleteCall g w.before w.seq r w.after) went.1 takes.4.deletes in
      subst (HasTaken filled stream)
      (append_assoc so_far takes.0 takes.1 ∙ ap (λ (x : List ℕ). so_far ++ x) (sym takes.2))
      (has_while ws w.after filled stream (so_far ++ takes.0) takes.1
      (has_still w.before w.after stream (so_far ++ takes.0) w.seq went.0 (has_more a w.before stream so_far takes.0 has takes.3) deletes)
      (on w.answer ws takes.1 w.after filled (TakesWhile g order w.after takes.1 ws (Ok tt) filled) takes.5))

  module _ (filled : Parts D) (stream : StreamFacts) (raw : List ℕ) (has : HasTaken filled stream raw) where
    facts_are : (s : StreamFacts) → stream_at (state_of filled).streams 0 ≡ Some s → s ≡ record stream { len = length raw; blocks = has.blocks }
    facts_are s at = some_same s (record stream { len = length raw; blocks = has.blocks }) (sym at ∙ has.there)

    bytes_are : IsTrue (g.is_honest filled.disk) → (t : Taken) → stream_at (contents_of g.seen filled).taken 0 ≡ Some t → t.bytes ≡ raw
    bytes_are honest t at = let h = has.bytes honest in ap (λ (x : Taken). x.bytes) (some_same t (record { bytes = raw; free = h.0 }) (sym at ∙ h.1))

  -- why a stream was not begun
  not_begun : (old mid : Parts D) (found : Result StreamFacts (List ℕ)) (first : List ℕ) → Begins g old 0 found first mid false → (reason : List ℕ) × (first ≡ no_reply reason)
  not_begun old mid (Err reason) first begins = (reason, begins.0)
  not_begun old mid (Ok stream) first (Ok u, call, told, accepts) = absurd (true≢false (sym accepts))
  not_begun old mid (Ok stream) first (Err f, call, told, accepts) = (reason_of f, told)

  -- a stream begins only in an archive that is not stopped
  awake_then : (old mid : Parts D) (found : Result StreamFacts (List ℕ)) (first : List ℕ) → Begins g old 0 found first mid true → (state_of old).stopped ≡ false
  awake_then old mid (Err reason) first begins = absurd (true≢false begins.2)
  awake_then old mid (Ok stream) first (Ok u, call, told, accepts) = call.step.0.0
  awake_then old mid (Ok stream) first (Err f, call, told, accepts) = absurd (true≢false accepts)

  -- where the retirement was answered `no Disk` the archive is stopped
  retiring_stops : (old new : Parts D) (policy : Option Policy) (told : List ℕ) (made : Bool) → RetiresFirst g old policy told new made → told ≡ no_reply (codes "Disk") → (state_of new).stopped ≡ true
  retiring_stops old new None told made makes is = absurd (first_apart [] refl (sym makes.0 ∙ is))
  retiring_stops old new (Some policy) told made ((r, call, answered), done) is = retire_stops (state_of old) (state_of new) policy r call.step (retire_told r (sym answered ∙ is))

  -- the case that the stream becomes
  adds_case : (found : Result StreamFacts (List ℕ)) (want : Stated) (file file' : Option (List ℕ)) (cut : Option ℕ) (raw : List ℕ) (retired mid : Parts D) (gone : List (Going D)) (filled : Parts D) (first : List ℕ) (x y : Durable) (n : ℕ) → BeginsEmpty found → Begins g retired 0 found first mid true
      → KeepsOf want file file' cut raw → TakesWhile g order mid raw gone (Ok tt) filled → IsTrue (g.is_honest filled.disk) → x ≡ durable_of g.seen filled → n ≡ x.next
      → MayBeStored (state_of filled) (contents_of g.seen filled) (durable_of g.seen filled) 0 y → AddsCase found want file file' cut x n y
  adds_case (Ok stream) want file file' cut raw retired mid gone filled first x y n none (Ok u, call, told, accepts) reads takes honest same number may =
      let has : HasTaken filled stream raw = has_while gone mid filled stream [] raw (has_begun retired mid stream none call) takes in
      record {
        stream = stream;
        begun = refl;
        image = raw;
        read = reads;
        blocks = may.0;
        number = number;
        adds =
            may.1.5
            ∙ ap (λ (d : Durable). with_case d may.1.0 may.0 may.1.1.bytes) (sym same)
            ∙ ap (λ (s : StreamFacts). with_case x s may.0 may.1.1.bytes) (facts_are filled stream raw has may.1.0 may.1.2)
            ∙ ap (λ (b : List ℕ). with_case x (record stream { len = length raw }) may.0 b) (bytes_are filled stream raw has honest may.1.1 may.1.3);
      }
  adds_case (Ok stream) want file file' cut raw retired mid gone filled first x y n none (Err f, call, told, accepts) reads takes honest same number may = absurd (true≢false accepts)
  adds_case (Err reason) want file file' cut raw retired mid gone filled first x y n none begins reads takes honest same number may = absurd (true≢false begins.2)

  -- what the archive holds when a case goes, and then
  deleted_leads : (old new : Parts D) (seq : ℕ) (r : Result (Unit {0}) ArchiveFault) → IsTrue (g.is_honest old.disk) → DeleteCall g old seq r new
      → Leads no_stream [] (delete_of seq) (plain_reply r) (durable_of g.seen old) (durable_of g.seen new)
  deleted_leads old new seq (Ok u) honest call =
      let f = is_found old.journal.standing.shape (g.seen old.disk) old.journal.standing.cases seq call.step.0 call.step.1.1 in
      inl ((found_case old.journal.standing.shape (g.seen old.disk) call.step.0, f.0, f.1, call.step.2), refl, lasts.delete old new seq u honest call)
  deleted_leads old new seq (Err f) honest call = inr (reason_of f, refl, lasts.refusals old new f honest (inr (inl (seq, call))))

  -- a case whose deletion the disk failed was there, and not pinned
  deleted_would : (old new : Parts D) (seq : ℕ) (r : Result (Unit {0}) ArchiveFault) (x : Durable) → DeleteCall g old seq r new → plain_reply r ≡ no_reply (codes "Disk") → MayLeave g old (delete_of seq) x
      → WouldLeave no_stream [] (delete_of seq) (durable_of g.seen old) x
  deleted_would old new seq r x call told may = (refl, ok_reply, (fault_has r (plain_told r told) call.step, refl, may))
    where
      fault_has : (r : Result (Unit {0}) ArchiveFault) → IsDiskFault r → DeleteStep (state_of old) seq r (state_of new) → HasFlag (durable_of g.seen old) seq false
      fault_has (Ok u) fault step = absurd fault
      fault_has (Err f) fault step =
          let d = subst (λ (e : ArchiveFault). DeleteStep (state_of old) seq (Err e) (state_of new)) fault step in
          let there = is_found old.journal.standing.shape (g.seen old.disk) old.journal.standing.cases seq d.0 d.1.1 in
          (found_case old.journal.standing.shape (g.seen old.disk) d.0, there.0, there.1, d.2)

  -- the case that goes next, of those that the archive holds
  next_held : (a : Parts D) (seq : ℕ) → IsNext order (state_of a).cases seq → IsNext order (map case_in (durable_of g.seen a).cases) seq
  next_held a seq next = subst (λ (cs : List Case). IsNext order cs seq) (cases_are a.journal.standing.shape (g.seen a.disk) a.journal.standing.cases) next

  -- where none goes next, all cases that the archive holds are pinned
  none_held : (a : Parts D) → NoneMayGo (state_of a) → filter may_go (map case_in (durable_of g.seen a).cases) ≡ []
  none_held a none = subst (λ (cs : List Case). filter may_go cs ≡ []) (cases_are a.journal.standing.shape (g.seen a.disk) a.journal.standing.cases) none

  -- what goes, as the course tells it
  abbrev gone_of : List (Going D) → List (Stage D) → List (Gone D)
  gone_of (w ∷ ws) (s ∷ t ∷ ss) = record { before = moment g s; seq = w.seq; reply = plain_reply w.answer; after = moment g t } ∷ gone_of ws ss
  gone_of _ _ = []

  going_honest : (gone : List (Going D)) (old : Stage D) (stages : List (Stage D)) (filled : Stage D) → GoneStages g order old gone stages filled → IsTrue (g.is_honest old.archive.disk) → IsTrue (g.is_honest filled.archive.disk)
  going_honest [] old [] filled all honest = all.0.honesty ∙ honest
  going_honest [] old (s ∷ ss) filled all honest = absurd all
  going_honest (w ∷ ws) old [] filled all honest = absurd all
  going_honest (w ∷ ws) old (s ∷ []) filled all honest = absurd all
  going_honest (w ∷ ws) old (s ∷ t ∷ ss) filled all honest = going_honest ws t ss filled all.6 (all.4.passes.honesty ∙ (all.0.honesty ∙ honest))

  -- from stage to stage a case goes
  goes_on : (w : Going D) (s t : Stage D) → s.archive ≡ w.before → t.archive ≡ w.after → IsTrue (g.is_honest s.archive.disk) → IsGoing g order w → Moves g s (delete_of w.seq) (plain_reply w.answer) t
      → IsNext order (map case_in (moment g s).holds.cases) w.seq × LeadsOn no_stream [] (moment g s) (delete_of w.seq) (plain_reply w.answer) (moment g t)
  goes_on w s t from to honest going moves =
      let call : DeleteCall g s.archive w.seq w.answer t.archive =
      subst (λ (a : Parts D). DeleteCall g a w.seq w.answer t.archive) (sym from) (subst (λ (a : Parts D). DeleteCall g w.before w.seq w.answer a) (sym to) going.deletes)
      in (
        next_held s.archive w.seq (subst (λ (a : Parts D). IsNext order (state_of a).cases w.seq) (sym from) going.next),
        leads_on g no_stream [] s t (delete_of w.seq) (plain_reply w.answer) (deleted_leads s.archive t.archive w.seq w.answer honest call)
            (λ x told may. deleted_would s.archive t.archive w.seq w.answer x call told may) moves,
      )

  go_in_turn : (gone : List (Going D)) (old : Stage D) (stages : List (Stage D)) (filled : Stage D) → GoneStages g order old gone stages filled → IsTrue (g.is_honest old.archive.disk) → GoInTurn order (moment g old) (gone_of gone stages) (moment g filled)
  go_in_turn [] old [] filled all honest = (all.0.durable honest, all.1)
  go_in_turn [] old (s ∷ ss) filled all honest = absurd all
  go_in_turn (w ∷ ws) old [] filled all honest = absurd all
  go_in_turn (w ∷ ws) old (s ∷ []) filled all honest = absurd all
  go_in_turn (w ∷ ws) old (s ∷ t ∷ ss) filled all honest =
      let here : IsTrue (g.is_honest s.archive.disk) = all.0.honesty ∙ honest in
      let one = goes_on w s t all.2 all.5 here all.3 all.4 in
      (all.0.durable honest, all.1, one.0, one.1, go_in_turn ws t ss filled all.6 (all.4.passes.honesty ∙ here))

  -- the moments of the course are those of the stages
  moments_are : (gone : List (Going D)) (old : Stage D) (stages : List (Stage D)) (filled : Stage D) (later : List (Stage D)) (end : Moment D) → GoneStages g order old gone stages filled
      → map (λ (s : Stage D). moment g s) (stages ++ later) ++ end ∷ [] ≡ moments_of (gone_of gone stages) ++ (map (λ (s : Stage D). moment g s) later ++ end ∷ [])
  moments_are [] old [] filled later end all = refl
  moments_are [] old (s ∷ ss) filled later end all = absurd all
  moments_are (w ∷ ws) old [] filled later end all = absurd all
  moments_are (w ∷ ws) old (s ∷ []) filled later end all = absurd all
  moments_are (w ∷ ws) old (s ∷ t ∷ ss) filled later end all = ap (λ (ms : List (Moment D)). moment g s ∷ moment g t ∷ ms) (moments_are ws t ss filled later end all.6)

  line_of : (seq : ℕ) (r : Result (Unit {0}) ArchiveFault) → (if is_no (plain_reply r) then [] else dropped_line seq) ≡ gone_text seq r
  line_of seq (Ok u) = refl
  line_of seq (Err f) = refl

  -- and so is what is told of it
  lines_are : (gone : List (Going D)) (old : Stage D) (stages : List (Stage D)) (filled : Stage D) → GoneStages g order old gone stages filled → flat_map going_text gone ≡ flat_map gone_line (gone_of gone stages)
  lines_are [] old [] filled all = refl
  lines_are [] old (s ∷ ss) filled all = absurd all
  lines_are (w ∷ ws) old [] filled all = absurd all
  lines_are (w ∷ ws) old (s ∷ []) filled all = absurd all
  lines_are (w ∷ ws) old (s ∷ t ∷ ss) filled all =
      ap (λ (x : List ℕ). x ++ flat_map going_text ws) (sym (line_of w.seq w.answer))
      ∙ ap (λ (x : List ℕ). (if is_no (plain_reply w.answer) then [] else dropped_line w.seq) ++ x) (lines_are ws t ss filled all.6)

  -- where all bytes are taken, no deletion was refused, so nothing is in doubt anew
  surely_gone : (s t : Stage D) (seq : ℕ) (u : Unit {0}) → Moves g s (delete_of seq) (plain_reply (Ok u)) t → t.in_doubt ≡ s.in_doubt
  surely_gone s t seq u moves =
      let none : moves.doubts ≡ [] = ⊎_elim (λ is. is) (λ may. absurd (ok_apart (codes "Disk") may.0)) moves.doubted in
      moves.in_doubt ∙ ap (λ (ds : List Durable). ds ++ s.in_doubt) none

  surely_filled : (gone : List (Going D)) (old : Stage D) (a filled : Parts D) (raw : List ℕ) (stages : List (Stage D)) (doubt : List Durable) → TakesWhile g order a raw gone (Ok tt) filled → GoneStages g order old gone stages (stage_of filled doubt) → doubt ≡ old.in_doubt
  surely_filled [] old a filled raw [] doubt takes all = all.1
  surely_filled [] old a filled raw (s ∷ ss) doubt takes all = absurd all
  surely_filled (w ∷ ws) old a filled raw [] doubt takes all = absurd all
  surely_filled (w ∷ ws) old a filled raw (s ∷ []) doubt takes all = absurd all
  surely_filled (w ∷ ws) old a filled raw (s ∷ t ∷ ss) doubt takes all =
      let went = answered w.answer ws takes.1 w.after filled (TakesWhile g order w.after takes.1 ws (Ok tt) filled) takes.5 in
      surely_filled ws t w.after filled takes.1 ss doubt (on w.answer ws takes.1 w.after filled (TakesWhile g order w.after takes.1 ws (Ok tt) filled) takes.5) all.6
      ∙ surely_gone s t w.seq went.0 (subst (λ (r : Result (Unit {0}) ArchiveFault). Moves g s (delete_of w.seq) (plain_reply r) t) went.1 all.4) ∙ all.1

  module _ (laws : Laws g) (found : Result StreamFacts (List ℕ)) (none : BeginsEmpty found) (most : Option ℕ) (want : Stated) (file file' : Option (List ℕ)) (fails fails' : ℕ) (retired : Stage D) (honest : IsTrue (g.is_honest retired.archive.disk)) where
    -- whether the case is stored, and what is in doubt
    record Stored (gone : List (Going D)) (cut : Option ℕ) (filled ended : Parts D) (first rest : List ℕ) (stored : Option ℕ) : Type 0 where
      filling : Filling g order gone retired filled
      more : List Durable
      moves : Moves g (stage_of filled filling.1) (end_of 0) rest (stage_of ended (more ++ filling.1))
      stores : StoresOrNot found want file file' cut (durable_of g.seen filled) stored (durable_of g.seen ended)
      states : PrintsStored stored first rest
      awake : (n : ℕ) → stored ≡ Some n → ((state_of retired.archive).stopped ≡ false) × (filling.1 ≡ retired.in_doubt)
      doubted :
          (moves.doubts ≡ [])
          ⊎ ((rest ≡ no_reply (codes "Disk")) × AllByRecursion (λ (z : Durable). (n : ℕ) × AddsCase found want file file' cut (durable_of g.seen filled) n z) moves.doubts)

    -- no case is stored, and the archive stays as it was
    none_stored : (gone : List (Going D)) (cut : Option ℕ) (filled ended : Parts D) (first rest : List ℕ) (stored : Option ℕ) → Filling g order gone retired filled → ended ≡ filled → stored ≡ None → PrintsStored None first rest → Stored gone cut filled ended first rest stored
    none_stored gone cut filled ended first rest stored filling same nothing states = record {
      filling = filling;
      awake = λ n is. absurd (none_apart n (sym nothing ∙ is));
      states = subst (λ (o : Option ℕ). PrintsStored o first rest) (sym nothing) states;
      more = [];
      moves = record { doubts = []; in_doubt = refl; doubted = inl refl; passes = laws.stays filled ended filling.1 (stays_as g filled ended same) };
      stores =
          subst (λ (o : Option ℕ). StoresOrNot found want file file' cut (durable_of g.seen filled) o (durable_of g.seen ended)) (sym nothing) (ap (durable_of g.seen) same);
      doubted = inl refl;
    }

    all_add : (mid : Parts D) (gone : List (Going D)) (cut : Option ℕ) (raw : List ℕ) (filled : Parts D) (first : List ℕ) → Begins g retired.archive 0 found first mid true → KeepsOf want file file' cut raw → TakesWhile g order mid raw gone (Ok tt) filled → IsTrue (g.is_honest filled.disk)
        → (xs : List Durable) → AllByRecursion (MayLeave g filled (end_of 0)) xs
        → AllByRecursion (λ (z : Durable). (n : ℕ) × AddsCase found want file file' cut (durable_of g.seen filled) n z) xs
    all_add mid gone cut raw filled first begins reads takes there [] all = tt
    all_add mid gone cut raw filled first begins reads takes there (z ∷ zs) all = (
      ((durable_of g.seen filled).next, adds_case found want file file' cut raw retired.archive mid gone filled first (durable_of g.seen filled) z _ none begins reads takes there refl refl all.0),
      all_add mid gone cut raw filled first begins reads takes there zs all.1,
    )

    -- the bytes that are kept are taken, and the stream is ended
    is_ended : (mid : Parts D) (gone : List (Going D)) (cut : Option ℕ) (raw : List ℕ) (filled ended : Parts D) (first rest : List ℕ) (stored : Option ℕ) → Begins g retired.archive 0 found first mid true → ChangesNoCase g retired.archive mid
        → KeepsOf want file file' cut raw → TakesWhile g order mid raw gone (Ok tt) filled → Ends g filled 0 rest ended stored → Stored gone cut filled ended first rest stored
    is_ended mid gone cut raw filled ended first rest stored begins begun reads takes (r, call, told, is) =
        let f : Filling g order gone retired filled = earlier g order gone retired mid filled begun (filling g order laws gone (stage_of mid retired.in_doubt) raw (Ok tt) filled takes) in
        let here : IsTrue (g.is_honest filled.disk) = going_honest gone retired f.0 (stage_of filled f.1) f.2 honest in
        let moves = ends_moves g laws (stage_of filled f.1) ended 0 rest stored (r, call, told, is) in
        record {
          filling = f;
          more = moves.0;
          moves = moves.1;
          stores = ends r call is here;
          states = states r told is;
          awake = λ n some. (awake_then retired.archive mid found first begins, surely_filled gone retired mid filled raw f.0 f.1 takes f.2);
          doubted = ⊎_elim (λ nothing. inl nothing) (λ may. inr (may.0, all_add mid gone cut raw filled first begins reads takes here moves.1.doubts may.1)) moves.1.doubted;
        }
      where
        states : (r : Result ℕ ArchiveFault) → rest ≡ end_reply r → stored ≡ result_ok r → PrintsStored stored first rest
        states (Ok seq) told is = subst (λ (o : Option ℕ). PrintsStored o first rest) (sym is) told
        states (Err f) told is = subst (λ (o : Option ℕ). PrintsStored o first rest) (sym is) (inl (reason_of f, told))

        ends : (r : Result ℕ ArchiveFault) → FinishCall g filled 0 r ended → stored ≡ result_ok r → IsTrue (g.is_honest filled.disk)
            → StoresOrNot found want file file' cut (durable_of g.seen filled) stored (durable_of g.seen ended)
        ends (Ok seq) call is here =
            subst (λ (o : Option ℕ). StoresOrNot found want file file' cut (durable_of g.seen filled) o (durable_of g.seen ended)) (sym is)
            (adds_case found want file file' cut raw retired.archive mid gone filled first (durable_of g.seen filled) (durable_of g.seen ended) seq none begins reads takes here refl call.step.6 (lasts.finish filled ended 0 seq here call))
        ends (Err f) call is here =
            subst (λ (o : Option ℕ). StoresOrNot found want file file' cut (durable_of g.seen filled) o (durable_of g.seen ended)) (sym is)
            (lasts.refusals filled ended f here (inl (0, call)))

    is_stored : (mid : Parts D) (gone : List (Going D)) (cut : Option ℕ) (filled ended : Parts D) (first : List ℕ) (accepted : Bool) (rest : List ℕ) (stored : Option ℕ) → Begins g retired.archive 0 found first mid accepted → ChangesNoCase g retired.archive mid
        → RestReplies g order most want file file' fails fails' mid accepted gone cut filled rest ended stored → Stored gone cut filled ended first rest stored
    is_stored mid gone cut filled ended first false rest stored begins begun goes =
        none_stored gone cut filled ended first rest stored
        (subst (λ (l : List (Going D)). Filling g order l retired filled) (sym goes.6) ([], retired.in_doubt, (stays_then g retired.archive mid filled begun (stays_as g mid filled goes.2), refl)))
        (goes.4 ∙ sym goes.2) goes.5
        (inr (goes.3, not_begun retired.archive mid found first begins))
    is_stored mid gone cut filled ended first true rest stored begins begun (taken, takes, replies, is) =
        by taken takes replies is
      where
        none_refused : (raw : List ℕ) (v : Result (Unit {0}) ArchiveFault) (reason : List ℕ) → TakesWhile g order mid raw gone v filled → (rest ≡ no_reply reason) × (ended ≡ filled) × (stored ≡ None) → Stored gone cut filled ended first rest stored
        none_refused raw v reason takes replies =
            none_stored gone cut filled ended first rest stored (earlier g order gone retired mid filled begun (filling g order laws gone (stage_of mid retired.in_doubt) raw v filled takes)) replies.1 replies.2 (inl (reason, replies.0))

        by : (taken : Result (Unit {0}) TakeStop) → FillsFile most want file file' fails fails' (λ raw v. TakesWhile g order mid raw gone v filled) taken → FileReplies g filled taken rest ended stored → cut ≡ cut_of taken
            → Stored gone cut filled ended first rest stored
        by (Ok u) takes replies is =
            subst (λ (o : Option ℕ). Stored gone o filled ended first rest stored) (sym is)
            (is_ended mid gone None takes.0 filled ended first rest stored begins begun (takes.1, takes.2, takes.4) takes.3 replies)
        by (Err (Cut kept)) takes replies is =
            subst (λ (o : Option ℕ). Stored gone o filled ended first rest stored) (sym is)
            (is_ended mid gone (Some kept) takes.0 filled ended first rest stored begins begun takes.1 takes.2 replies)
        by (Err (Differs f)) takes replies is = none_refused takes.0 (Ok tt) (difference_reason f) takes.2 replies
        by (Err File) takes replies is = none_refused takes.0 (Ok tt) (codes "File") takes.3 replies
        by (Err (Refused f)) (inl takes) replies is = none_refused takes.0 (Err f) (reason_of f) takes.2 replies
        by (Err (Refused f)) (inr takes) replies is = none_refused takes.3 (Err f) (reason_of f) takes.5 replies

  decided : (old : Parts D) (policy : Policy) (dropped : List ℕ) (unmet : Bool) → IsDecision policy (map step.brief_of (state_of old).cases) dropped unmet → IsDecision policy (map brief_of (durable_of g.seen old).cases) dropped unmet
  decided old policy dropped unmet decision =
      subst (λ (bs : List Brief). IsDecision policy bs dropped unmet) (briefs_are old.journal.standing.shape (g.seen old.disk) old.journal.standing.cases) decision

  label_set : (old new : Parts D) (seq : ℕ) (label told : List ℕ) → told ≡ ok_reply
      → (c : Case) × HasCase (state_of old) seq c
      × (((c.label ≡ label) × (durable_of g.seen new ≡ durable_of g.seen old)) ⊎ ((c.label ≢ label) × (durable_of g.seen new ≡ labelled (durable_of g.seen old) seq label)))
      → Leads no_stream [] (label_of seq label) told (durable_of g.seen old) (durable_of g.seen new)
  label_set old new seq label told is p =
      inl (
        is,
        ⊎_elim
            (λ same.
            (let f = is_found old.journal.standing.shape (g.seen old.disk) old.journal.standing.cases seq p.0 p.1.1 in
            inr ((found_case old.journal.standing.shape (g.seen old.disk) p.0, f.0, f.1, same.0), same.1)))
            (λ set. inl set.1) p.2,
      )

  flag_set : (old new : Parts D) (seq : ℕ) (flag : Bool) (told : List ℕ) → told ≡ ok_reply
      → (c : Case) × HasCase (state_of old) seq c
      × (((c.pinned ≡ flag) × (durable_of g.seen new ≡ durable_of g.seen old)) ⊎ ((c.pinned ≢ flag) × (durable_of g.seen new ≡ flagged (durable_of g.seen old) seq flag)))
      → Leads no_stream [] (pin_of seq flag) told (durable_of g.seen old) (durable_of g.seen new)
  flag_set old new seq flag told is p =
      inl (
        is,
        ⊎_elim
            (λ same.
            (let f = is_found old.journal.standing.shape (g.seen old.disk) old.journal.standing.cases seq p.0 p.1.1 in
            inr ((found_case old.journal.standing.shape (g.seen old.disk) p.0, f.0, f.1, same.0), same.1)))
            (λ set. inl set.1) p.2,
      )

  -- a line is carried out, or refused
  retiring_leads : (old new : Parts D) (policy : Option Policy) (told : List ℕ) (made : Bool) → IsTrue (g.is_honest old.disk) → RetiresFirst g old policy told new made → Leads no_stream [] (retire_line policy) told (durable_of g.seen old) (durable_of g.seen new)
  retiring_leads old new None told made honest makes = (makes.0, ap (durable_of g.seen) makes.1)
  retiring_leads old new (Some policy) told made honest ((Ok d, call, is), done) = inl (d.dropped.items, d.unmet, decided old policy d.dropped.items d.unmet call.step.1, is, lasts.retire old new policy d honest call)
  retiring_leads old new (Some policy) told made honest ((Err f, call, is), done) = inr (reason_of f, is, lasts.refusals old new f honest (inr (inr (inr (inl (policy, call))))))

  retiring_would : (old : Parts D) (policy : Option Policy) (x : Durable) → MayLeave g old (retire_line policy) x → WouldLeave no_stream [] (retire_line policy) (durable_of g.seen old) x
  retiring_would old None x may = absurd may
  retiring_would old (Some policy) x may = (refl, _, (may.0, may.1, decided old policy may.0 may.1 may.2.1, refl, may.3))

  label_leads : (old new : Parts D) (stored : Option ℕ) (label : Option (List ℕ)) (told : List ℕ) (done : Bool) → IsTrue (g.is_honest old.disk) → LabelsCase g old stored label told new done
      → Leads no_stream [] (said_label stored label) told (durable_of g.seen old) (durable_of g.seen new)
  label_leads old new (Some seq) (Some label) told done honest ((Ok u, call, is), did) = label_set old new seq label told is (lasts.label old new seq label u honest call)
  label_leads old new (Some seq) (Some label) told done honest ((Err f, call, is), did) = inr (reason_of f, is, lasts.refusals old new f honest (inr (inr (inr (inr (inl (seq, label, call)))))))
  label_leads old new (Some seq) None told done honest labels = (labels.0, ap (durable_of g.seen) labels.1)
  label_leads old new None label told done honest labels = (labels.0, ap (durable_of g.seen) labels.1)

  label_would : (old : Parts D) (stored : Option ℕ) (label : Option (List ℕ)) (x : Durable) → MayLeave g old (said_label stored label) x → WouldLeave no_stream [] (said_label stored label) (durable_of g.seen old) x
  label_would old (Some seq) (Some label) x may = (refl, ok_reply, (refl, inl may))
  label_would old (Some seq) None x may = absurd may
  label_would old None label x may = absurd may

  pin_leads : (old new : Parts D) (stored : Option ℕ) (pin : Bool) (told : List ℕ) (done : Bool) → IsTrue (g.is_honest old.disk) → PinsCase g old stored pin told new done
      → Leads no_stream [] (said_pin stored pin) told (durable_of g.seen old) (durable_of g.seen new)
  pin_leads old new (Some seq) true told done honest ((Ok u, call, is), did) = flag_set old new seq true told is (lasts.pin old new seq true u honest call)
  pin_leads old new (Some seq) true told done honest ((Err f, call, is), did) = inr (reason_of f, is, lasts.refusals old new f honest (inr (inr (inl (seq, true, call)))))
  pin_leads old new (Some seq) false told done honest pins = (pins.0, ap (durable_of g.seen) pins.1)
  pin_leads old new None pin told done honest pins = (pins.0, ap (durable_of g.seen) pins.1)

  pin_would : (old : Parts D) (stored : Option ℕ) (pin : Bool) (x : Durable) → MayLeave g old (said_pin stored pin) x → WouldLeave no_stream [] (said_pin stored pin) (durable_of g.seen old) x
  pin_would old (Some seq) true x may = (refl, ok_reply, (refl, inl may))
  pin_would old (Some seq) false x may = absurd may
  pin_would old None pin x may = absurd may

-- the same answer of a life
abbrev pub life_of : Result StoreOutcome SessionFault → Result StoreOutcome LifeFault
life_of (Ok outcome) = Ok outcome
life_of (Err f) = Err (life.Session f)

-- a stream that a line or the words of a command begin has no bytes yet
pub found_empty : (r : Result NewStream (Bor (List ℕ))) → BeginsEmpty (stream_found r)
found_empty (Ok stream) = refl
found_empty (Err reason) = tt

-- where a file is cut
cut_short : {D : Type 0} (g : disk.Ghosts D) (order : Order) (fit : Bool) (most : Option ℕ) (old : Parts D) (gone : List (Going D)) (cut : Option ℕ) → IsShort g order fit most old gone cut → IsCutShort most cut
cut_short g order fit most old gone None short = tt
cut_short g order fit most old gone (Some kept) short = (short.n, short.asked, short.within, ⊎_elim (λ is. inl is) (λ wall. inr wall.1) short.no_more)

is_chosen : (s : ArchiveState) (asked : Option Policy) (found : Result StreamFacts (List ℕ)) (policy : Option Policy) → IsChosen s asked found policy → (policy ≡ asked) ⊎ (policy ≡ None)
is_chosen s asked found None chosen = inr refl
is_chosen s asked found (Some policy) chosen = inl (sym chosen)

module _ {D : Type 0} (g : disk.Ghosts D) (lasts : LastingLaws g) (laws : Laws g) (law : FoundAfterAStop g) (nothing_else : NothingElseIsLeft g) (stays : (d : D) → IsTrue (g.is_honest d) → g.may_leave d (g.seen d))
    (limit : ℕ) (t : Streams) (asked : Option Policy) (found : Result StreamFacts (List ℕ)) (options : Options) (none : BeginsEmpty found) (before after : D) (opened closed : Parts D) (opening : OpenCall g limit before (Ok opened)) (disk : after ≡ closed.disk) (honest : IsTrue (g.is_honest before)) where
  abbrev first : Stage D
  first = record { archive = opened; in_doubt = [] }

  module _ (r : Result StoreOutcome LifeFault) (written unwritten : List ℕ) (end : Parts D) (outcome : StoreOutcome) (s : Stores g t.input t.input' t.fails t.fails' opened asked found options (written ++ unwritten) end outcome) (dropped : Result (Unit {0}) ArchiveFault)
      (drops : AbandonCall g end 0 dropped closed) (appended : Appends t.taken t.taken' written) (told : IsTold r outcome.stored unwritten) where
    there : IsTrue (g.is_honest opened.disk)
    there = opening.honesty ∙ honest

    retired_then : Reaches g laws first s.retired (retire_line s.retires_first.policy) s.told
    retired_then = retiring_moves g options.order laws first s.retired s.retires_first.policy s.told outcome.retired_first s.retires_first.retires_first

    abbrev retired : Stage D
    retired = stage_of s.retired (retired_then.0 ++ [])

    retiring_honest : IsTrue (g.is_honest s.retired.disk)
    retiring_honest = retired_then.1.passes.honesty ∙ there

    begun : ChangesNoCase g s.retired s.stores.mid
    begun = begins_stays g s.retired s.stores.mid 0 found s.stores.first s.stores.accepted s.stores.begins

    stored : Stored g options.order lasts laws found none options.cut (stated_in options) t.input t.input' t.fails t.fails' retired retiring_honest s.stores.gone s.stores.cut s.stores.filled s.ended s.stores.first s.stores.rest outcome.stored
    stored = is_stored g options.order lasts laws found none options.cut (stated_in options) t.input t.input' t.fails t.fails' retired retiring_honest s.stores.mid s.stores.gone s.stores.cut s.stores.filled s.ended s.stores.first s.stores.accepted s.stores.rest outcome.stored s.stores.begins begun s.stores.goes_on

    -- nothing is in doubt where the archive is not stopped
    retiring_clear : (state_of s.retired).stopped ≡ false → retired.in_doubt ≡ []
    retiring_clear awake =
        let none : retired_then.1.doubts ≡ [] =
        ⊎_elim (λ is. is)
        (λ may. absurd (false≢true (sym awake ∙ retiring_stops g options.order lasts opened s.retired s.retires_first.policy s.told outcome.retired_first s.retires_first.retires_first may.0))) retired_then.1.doubted
        in
        retired_then.1.in_doubt ∙ ap (λ (ds : List Durable). ds ++ []) none

    abbrev filled : Stage D
    filled = stage_of s.stores.filled stored.filling.1

    abbrev ended : Stage D
    ended = stage_of s.ended (stored.more ++ stored.filling.1)

    abbrev gone : List (Gone D)
    gone = gone_of g options.order lasts s.stores.gone stored.filling.0

    label_given : Reaches g laws ended s.labelled (said_label outcome.stored options.label) s.named
    label_given = label_moves g options.order laws ended s.labelled outcome.stored options.label s.named outcome.labelled s.labels

    abbrev labelled_then : Stage D
    labelled_then = stage_of s.labelled (label_given.0 ++ ended.in_doubt)

    pin_given : Reaches g laws labelled_then end (said_pin outcome.stored options.pin) s.last
    pin_given = pin_moves g options.order laws labelled_then end outcome.stored options.pin s.last outcome.pinned s.pins

    abbrev last : Stage D
    last = stage_of end (pin_given.0 ++ labelled_then.in_doubt)

    ended_honest : IsTrue (g.is_honest s.ended.disk)
    ended_honest = stored.moves.passes.honesty ∙ going_honest g options.order lasts s.stores.gone retired stored.filling.0 filled stored.filling.2 retiring_honest

    labelled_honest : IsTrue (g.is_honest s.labelled.disk)
    labelled_honest = label_given.1.passes.honesty ∙ ended_honest

    end_honest : IsTrue (g.is_honest end.disk)
    end_honest = pin_given.1.passes.honesty ∙ labelled_honest

    abbrev stages : List (Stage D)
    stages = retired ∷ (stored.filling.0 ++ (filled ∷ ended ∷ labelled_then ∷ []))

    moments_same : map (λ (x : Stage D). moment g x) stages ++ moment g last ∷ [] ≡ moment g retired ∷ (moments_of gone ++ (moment g filled ∷ moment g ended ∷ moment g labelled_then ∷ moment g last ∷ []))
    moments_same = ap (λ (ms : List (Moment D)). moment g retired ∷ ms) (moments_are g options.order lasts s.stores.gone retired stored.filling.0 filled (filled ∷ ended ∷ labelled_then ∷ []) (moment g last) stored.filling.2)

    run : IsRunOfMarks g (mark_at g.seen first) (marks_of g.seen stages last closed)
    run = (
      retired_then.1.passes,
      filling_runs g options.order laws s.stores.gone retired stored.filling.0 filled (ended ∷ labelled_then ∷ []) _ stored.filling.2 (stored.moves.passes, (label_given.1.passes, (pin_given.1.passes, (laws.stays end closed last.in_doubt drops.stays, tt)))),
    )

    settled : IsMarkSettled g (mark_at g.seen first)
    settled c may = (durable_of g.seen opened, opening.settled honest c may, inl refl)

    abbrev course : StoreCourse D
    course = record {
      begin = moment g first;
      policy = s.retires_first.policy;
      told = s.told;
      retired = moment g retired;
      gone = gone;
      filled = moment g filled;
      cut = s.stores.cut;
      first = s.stores.first;
      reply = s.stores.rest;
      stored = outcome.stored;
      ended = moment g ended;
      labels = s.named;
      labelled = moment g labelled_then;
      pins = s.last;
      end = moment g last;
    }

    is_course : IsStoreCourse asked found options t.input t.input' course
    is_course = record {
      clear = refl;
      chosen = is_chosen (state_of opened) asked found s.retires_first.policy s.retires_first.chosen;
      retires_first =
          leads_on g no_stream [] first retired (retire_line s.retires_first.policy) s.told (retiring_leads g options.order lasts opened s.retired s.retires_first.policy s.told outcome.retired_first there s.retires_first.retires_first)
          (λ x disk may. retiring_would g options.order lasts opened s.retires_first.policy x may) retired_then.1;
      goes = go_in_turn g options.order lasts s.stores.gone retired stored.filling.0 filled stored.filling.2 retiring_honest;
      unasked = λ no. ap (λ (l : List (Going D)). gone_of g options.order lasts l stored.filling.0) (s.stores.unasked no);
      stores = stored.stores;
      sure = λ n is. (let sure = stored.awake n is in sure.1 ∙ retiring_clear sure.0);
      states = stored.states;
      spent = λ fits refused. none_held g options.order lasts s.stores.filled (s.stores.spent fits SpaceFull refused);
      short = cut_short g options.order options.fit options.cut s.stores.mid s.stores.gone s.stores.cut s.stores.short;
      doubts = stored.moves.doubts;
      in_doubt = stored.moves.in_doubt;
      doubted = stored.doubted;
      gives_label =
          leads_on g no_stream [] ended labelled_then (said_label outcome.stored options.label) s.named (label_leads g options.order lasts s.ended s.labelled outcome.stored options.label s.named outcome.labelled ended_honest s.labels)
          (λ x disk may. label_would g options.order lasts s.ended outcome.stored options.label x may) label_given.1;
      gives_pin =
          leads_on g no_stream [] labelled_then last (said_pin outcome.stored options.pin) s.last (pin_leads g options.order lasts s.labelled end outcome.stored options.pin s.last outcome.pinned labelled_honest s.pins)
          (λ x disk may. pin_would g options.order lasts s.labelled outcome.stored options.pin x may) pin_given.1;
    }

    -- it begins with what the opening found
    pub store_safe : (s : IsStoreSafe g t asked found options before after r) × (s.course.begin.holds ≡ durable_of g.seen opened)
    store_safe = (
      record {
        course = course;
        found_again = λ x stands. opening.found_again x honest stands;
        is = is_course;
        written = written;
        unwritten = unwritten;
        appended = appended;
        text =
            s.all ∙ ap (λ (x : List ℕ). s.told ++ (x ++ (s.named ++ s.last))) s.stores.text
            ∙ ap (λ (x : List ℕ). s.told ++ ((s.stores.first ++ (x ++ (cut_text s.stores.cut outcome.stored ++ s.stores.rest))) ++ (s.named ++ s.last))) (lines_are g options.order lasts s.stores.gone retired stored.filling.0 filled stored.filling.2);
        disk = disk ∙ drops.disk;
        answered = told;
        opening =
            subst
            (λ (d : D). (left : List ℕ) → g.left_since d (g.clock before) left → g.may_leave before left ⊎ FindsSince left (moment g first) (moment g retired ∷ (moments_of gone ++ (moment g filled ∷ moment g ended ∷ moment g labelled_then ∷ moment g last ∷ [])))) (sym disk)
            (subst (λ (ms : List (Moment D)). (left : List ℕ) → g.left_since closed.disk (g.clock before) left → g.may_leave before left ⊎ FindsSince left (moment g first) ms) moments_same
            (since_opening g stays last closed end_honest drops.stays nothing_else first stages there run before (opening.any_moment honest)));
        earlier =
            subst
            (λ (d : D). (time : ℕ) (left : List ℕ) → time ≤ g.clock before → g.left_since d time left → g.left_since before time left ⊎ (g.may_leave before left ⊎ FindsSince left (moment g first) (moment g retired ∷ (moments_of gone ++ (moment g filled ∷ moment g ended ∷ moment g labelled_then ∷ moment g last ∷ []))))) (sym disk)
            (subst (λ (ms : List (Moment D)). (time : ℕ) (left : List ℕ) → time ≤ g.clock before → g.left_since closed.disk time left → g.left_since before time left ⊎ (g.may_leave before left ⊎ FindsSince left (moment g first) ms)) moments_same
            (since_before g stays last closed end_honest drops.stays nothing_else first stages there run before (opening.any_moment honest)));
        safe =
            subst (λ (d : D). AreSafe g d (moment g first) (moment g retired ∷ (moments_of gone ++ (moment g filled ∷ moment g ended ∷ moment g labelled_then ∷ moment g last ∷ [])))) (sym disk)
            (subst (AreSafe g closed.disk (moment g first)) moments_same
            (are_safe g stays last closed end_honest drops.stays first stages there settled run (law (mark_at g.seen first) (marks_of g.seen stages last closed) there settled run)));
      },
      refl,
    )

  pub ended_safe : (r : Result StoreOutcome SessionFault) → StoreEnds g t first asked found options closed r → (s : IsStoreSafe g t asked found options before after (life_of r)) × (s.course.begin.holds ≡ durable_of g.seen opened)
  ended_safe (Ok outcome) e =
      store_safe (Ok outcome) e.0 [] e.1.archive outcome
      (subst (λ (x : List ℕ). Stores g t.input t.input' t.fails t.fails' opened asked found options x e.1.archive outcome) (sym (append-nil e.0)) e.3) e.2 e.4 e.5 (refl, refl)
  ended_safe (Err WriteFailed) e = store_safe (Err (life.Session WriteFailed)) e.0 e.1 e.2.archive e.3 e.5 e.4 e.6 e.7 tt
  ended_safe (Err ReadFailed) e = absurd e
  ended_safe (Err TooManyReads) e = absurd e

-- a stream that is admitted has no bytes yet
admitted_empty : (burst : Option Burst) (stopped : Bool) (cases : List Case) (found : Result StreamFacts (List ℕ)) → BeginsEmpty found → BeginsEmpty (admitted burst stopped cases found)
admitted_empty None stopped cases found empty = empty
admitted_empty (Some burst) stopped cases (Err reason) empty = tt
admitted_empty (Some burst) stopped cases (Ok stream) empty =
    elim (is_over burst stopped cases stream) as (λ t. BeginsEmpty (cond t (Err (codes "Burst")) (Ok stream))) [ true ↦ tt | false ↦ empty ]

-- what an archive that was just opened admits, by what it holds
admitted_by : {D : Type 0} (g : disk.Ghosts D) (limit : ℕ) (opened : Parts D) (burst : Option Burst) (found : Result StreamFacts (List ℕ)) (held : Durable) → IsOpened limit opened → held ≡ durable_of g.seen opened
    → admitted burst (state_of opened).stopped (state_of opened).cases found ≡ admitted burst false (map case_in held.cases) found
admitted_by g limit opened burst found held is same =
    ap (λ (t : Bool). admitted burst t (state_of opened).cases found) is.runs
    ∙ ap (λ (cs : List Case). admitted burst false cs found) (cases_are opened.journal.standing.shape (g.seen opened.disk) opened.journal.standing.cases)
    ∙ ap (λ (x : Durable). admitted burst false (map case_in x.cases) found) (sym same)

module _ {D : Type 0} (g : disk.Ghosts D) (lasts : LastingLaws g) (laws : Laws g) (law : FoundAfterAStop g) (nothing_else : NothingElseIsLeft g) (stays : (d : D) → IsTrue (g.is_honest d) → g.may_leave d (g.seen d)) where
  -- the answer of a store over an archive that was just opened
  opened_safe : (limit : ℕ) (t : Streams) (asked : Option Policy) (found : Result StreamFacts (List ℕ)) (options : Options) (before after : D) (r : Result StoreOutcome SessionFault) → BeginsEmpty found
      → OpensThen g limit before after (StoresOver g asked found options t r) → IsTrue (g.is_honest before) → IsAdmittedSafe g t asked found options before after (life_of r)
  opened_safe limit t asked found options before after r none lived honest =
      let stream : Result StreamFacts (List ℕ) = admitted options.burst (state_of lived.opened).stopped (state_of lived.opened).cases found in
      let empty : BeginsEmpty stream = admitted_empty options.burst (state_of lived.opened).stopped (state_of lived.opened).cases found none in
      let safe = ended_safe g lasts laws law nothing_else stays limit t asked stream options empty before after lived.opened lived.closed lived.opening lived.disk honest r lived.goes in
      (stream, safe.0, admitted_by g limit lived.opened options.burst found safe.0.course.begin.holds lived.opening.state safe.1)

  pub stores_safe : StoresAreCrashSafe g
  stores_safe limit t asked found options before after (Ok outcome) none lived = λ honest. opened_safe limit t asked found options before after (Ok outcome) none lived honest
  stores_safe limit t asked found options before after (Err (life.Session f)) none lived = λ honest. opened_safe limit t asked found options before after (Err f) none lived honest
  stores_safe limit t asked found options before after (Err (life.Open f)) none lived = λ honest.
      (lived.0.opening.seen honest, λ left was. (lived.0.opening.any_moment honest).each left was)
