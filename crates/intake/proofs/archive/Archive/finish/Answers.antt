use Rattle.std.proofs.Common.{◌≡◌, false}
use Rattle.journal_layout.specs.Case.{numbered}
use Rattle.arrayvec.specs.ArrayVec.{ArrayVec}
use Rattle.intake.specs.Names.{ForgetsName, AreTaken}
use Rattle.intake.proofs.NameLemmas.{taken_dropped, taken_stored, taken_still, still_there}
use Rattle.std.proofs.Common.{rules, arith, ◌∙◌, ap, sym, subst, Option, Err, List, ℕ, []}
use Rattle.intake.specs.Parts.{Parts, StreamParts, state_of, contents_of}
use Rattle.intake.specs.StreamView.{parts_of}
use Rattle.extents.specs.FreeSet.{free_count}
use Rattle.intake.specs.Balance.{AreHeld, Balances}
use Rattle.intake.specs.Growth.{ChangesFree}
use Rattle.intake.specs.Step.{FinishStep}
use Rattle.journal_layout.specs.Case.{Case, case_of}
use Rattle.journal_layout.specs.Soundness.{IsStorable}
use Rattle.journal_layout.specs.declared.shape.Shape.{Shape}
use Rattle.journal_layout.specs.Layout.{data_start}
use Rattle.intake.proofs.FinishLemmas.{runs_may, seal_err, seal_not_stopped, seal_not_missing, storable, sound_not_stored, refused_step, stored_step, sound_with_case, closed_case}
use Rattle.intake.specs.Closing.{ClosesBytes, ClosesPadded}
use Rattle.intake.proofs.UntouchedLemmas.{seal_spares, append_spares, never_stopped}
use Rattle.intake.proofs.StoreLemmas.{unstored_bytes, stored_bytes, stored_padded}
use Rattle.intake.proofs.CountLemmas.{still_held, balance_then}
use Rattle.intake.proofs.SoundLemmas.{stream_held}
use Rattle.intake.proofs.AdvanceLemmas.{none_set, sound_refused, refused_bytes}
use Rattle.journal_layout.specs.Rewriting.{appended}
use Rattle.journal_layout.specs.Standing.{store_of}
use Rattle.case_journal.specs.Journaled.{Journaled}
use Rattle.intake.specs.Durable.{Durable, durable_in}
use Rattle.intake.proofs.LeaveLemmas.{new_behind}
use Rattle.intake.proofs.CrashLemmas.{grow_rests, rests_leaves, stored_adds, unstored_adds, stored_doubt, stored_is}
use Rattle.intake.proofs.ChangeLemmas.{sound_stands, changes_none}
use Rattle.std.proofs.lemmas.Grind.{common_steps}
use Rattle.intake.proofs.FrontLemmas.{free_before, front_kept, front_spared, same_front, same_superblock}
use Rattle.intake.proofs.archive.Archive.finish.Goals as goal

pub release-requires : goal.release-requires
release-requires g c =
    still_held c.self.inside.free c.seal-sealed.new.free c.in-Some.stream.runs c.seal-sealed.new.stream.runs
    (stream_held g.D.Disk c.self.inside.disk c.self.inside.journal c.self.inside.settings.limit c.self.inside.free c.self.inside.slots c.args.slot _ (c.self.invariant.sound.runs c.if-self.false) (sym c.in-Some.ensures.stream))
    c.in-Err.ensures.balance

pub invariant_of-self-in-Err : goal.invariant_of-self-in-Err
invariant_of-self-in-Err g c =
    record {
      sound =
          sound_refused g.D.Disk c.self.inside.disk c.seal-sealed.new.disk c.self.inside.journal c.self.inside.settings.limit c.self.inside.free c.release.new.free c.self.inside.slots c.take.new.self c.end_streams-self-inside.new.slots c.args.slot _ c.self.inside.stopped c.end_streams-self-inside.result c.in-Err.fault
          c.self.invariant.sound c.if-self.false (sym c.in-Some.ensures.stream) c.in-Some.ensures.slots
          (grow_rests g.D.Disk c.self.inside.disk c.seal-sealed.new.disk c.self.inside.journal c.self.inside.settings.limit c.self.inside.free c.self.inside.slots (c.self.invariant.sound.runs c.if-self.false) (c.in-Err.ensures.rests c.self.inside.journal (sym c.shape-shape.ensures))).guards
          (balance_then c.self.inside.free c.seal-sealed.new.free c.release.new.free c.in-Some.stream.runs c.seal-sealed.new.stream.runs _ c.in-Err.ensures.balance c.release.ensures)
          c.end_streams-self-inside.ensures;
      taken = λ on. taken_still c.in-Err.fault c.self.inside.journal.standing.cases c.take.new.self c.end_streams-self-inside.new.slots c.end_streams-self-inside.result c.forget_name.new.names c.end_streams-self-inside.ensures
          (taken_dropped c.self.inside.journal.standing.cases c.self.inside.slots c.take.new.self c.args.slot _ c.self.inside.names c.forget_name.new.names (c.self.invariant.taken c.if-self.false) (sym c.in-Some.ensures.stream) c.in-Some.ensures.slots
          (subst (λ (n : ArrayVec ℕ). ForgetsName n.items c.self.inside.names c.forget_name.new.names) c.in-Err.ensures.name c.forget_name.ensures))
          on;
    }

pub append_case-requires-clause-storable : goal.append_case-requires-clause-storable
append_case-requires-clause-storable g c =
    subst (IsStorable c.self.inside.journal.standing.shape.data_blocks c.self.inside.journal.standing.cases) (sym c.into_entry-entry.ensures)
    (storable g.D.Disk c.self.inside.disk c.seal-sealed.new.disk c.self.inside.journal c.self.inside.settings.limit c.self.inside.free c.self.inside.slots c.args.slot (parts_of c.in-Some.block c.in-Some.stream) c.self.inside.stopped
    (c.self.invariant.sound.runs c.if-self.false) c.if-self.false (sym c.in-Some.ensures.stream)
    c.seal-sealed.new.free (parts_of c.seal-sealed.new.block c.seal-sealed.new.stream) c.in_default-sealed.field-0 c.in_default-sealed.ensures.step c.in_default-sealed.ensures.balance)

pub append_case-requires-clause-held : goal.append_case-requires-clause-held
append_case-requires-clause-held g c =
    subst (AreHeld c.seal-sealed.new.free) (sym (ap (λ (x : Case). x.blocks) c.into_entry-entry.ensures))
    (still_held c.self.inside.free c.seal-sealed.new.free c.in-Some.stream.runs c.seal-sealed.new.stream.runs
    (stream_held g.D.Disk c.self.inside.disk c.self.inside.journal c.self.inside.settings.limit c.self.inside.free c.self.inside.slots c.args.slot _ (c.self.invariant.sound.runs c.if-self.false) (sym c.in-Some.ensures.stream))
    c.in_default-sealed.ensures.balance)

pub invariant_of-self-in-Err-append_case : goal.invariant_of-self-in-Err-append_case
invariant_of-self-in-Err-append_case g c =
    record {
      sound =
          sound_not_stored g.D.Disk c.self.inside.disk c.append_case.new.disk c.self.inside.journal c.self.inside.settings.limit c.self.inside.free c.self.inside.slots c.args.slot (parts_of c.in-Some.block c.in-Some.stream) c.self.inside.stopped
          (c.self.invariant.sound.runs c.if-self.false) c.if-self.false (sym c.in-Some.ensures.stream)
          c.append_case.new.journal c.end_streams-self-inside-in-Err-append_case.result c.append_case.new.free c.take.new.self c.end_streams-self-inside-in-Err-append_case.new.slots c.in-Err-append_case.fault (case_of c.into_entry-entry.result) c.self.invariant.sound
          c.in-Some.ensures.slots c.end_streams-self-inside-in-Err-append_case.ensures c.in-Err-append_case.ensures.step c.in-Err-append_case.ensures.guards
          (balance_then c.self.inside.free c.seal-sealed.new.free c.append_case.new.free c.in-Some.stream.runs c.seal-sealed.new.stream.runs _ c.in_default-sealed.ensures.balance
          (subst (λ (x : List ℕ). Balances c.seal-sealed.new.free x c.append_case.new.free []) (ap (λ (x : Case). x.blocks) c.into_entry-entry.ensures) c.in-Err-append_case.ensures.free));
      taken = subst (λ (cs : List Case). c.end_streams-self-inside-in-Err-append_case.result ≡ false → AreTaken cs c.end_streams-self-inside-in-Err-append_case.new.slots c.append_case.new.names) (sym (still_there c.self.inside.journal c.append_case.new.journal (case_of c.into_entry-entry.result) c.in-Err-append_case.fault c.in-Err-append_case.ensures.step))
          (taken_still c.in-Err-append_case.fault c.self.inside.journal.standing.cases c.take.new.self c.end_streams-self-inside-in-Err-append_case.new.slots c.end_streams-self-inside-in-Err-append_case.result c.append_case.new.names c.end_streams-self-inside-in-Err-append_case.ensures
          (taken_dropped c.self.inside.journal.standing.cases c.self.inside.slots c.take.new.self c.args.slot _ c.self.inside.names c.append_case.new.names (c.self.invariant.taken c.if-self.false) (sym c.in-Some.ensures.stream) c.in-Some.ensures.slots
          (subst (λ (n : ArrayVec ℕ). ForgetsName n.items c.self.inside.names c.append_case.new.names) c.in_default-sealed.ensures.name
          (subst (λ (x : Case). ForgetsName x.origin.name c.self.inside.names c.append_case.new.names) c.into_entry-entry.ensures c.in-Err-append_case.ensures.names))));
    }

pub invariant_of-self-in-Ok : goal.invariant_of-self-in-Ok
invariant_of-self-in-Ok g c =
    record {
      sound =
          sound_with_case g.D.Disk c.self.inside.disk c.append_case.new.disk c.self.inside.journal c.self.inside.settings.limit c.self.inside.free c.self.inside.slots c.args.slot (parts_of c.in-Some.block c.in-Some.stream) c.self.inside.stopped
          (c.self.invariant.sound.runs c.if-self.false) c.if-self.false (sym c.in-Some.ensures.stream)
          c.append_case.new.journal c.seal-sealed.new.free c.append_case.new.free c.take.new.self (parts_of c.seal-sealed.new.block c.seal-sealed.new.stream) c.in_default-sealed.field-0 c.in-Ok.seq (case_of c.into_entry-entry.result)
          c.self.invariant.sound c.in-Some.ensures.slots c.in_default-sealed.ensures.step c.in_default-sealed.ensures.balance c.in-Ok.ensures.free c.into_entry-entry.ensures c.in-Ok.ensures.step c.in-Ok.ensures.guards;
      taken = λ on. subst (AreTaken c.append_case.new.journal.standing.cases c.take.new.self) (sym c.in-Ok.ensures.names)
          (subst (λ (k : Journaled). AreTaken k.standing.cases c.take.new.self c.self.inside.names) (sym c.in-Ok.ensures.step.4)
          (taken_stored c.self.inside.journal.standing.cases c.self.inside.slots c.take.new.self c.args.slot _ (numbered c.self.inside.journal.standing.next (case_of c.into_entry-entry.result)) c.self.inside.names (c.self.invariant.taken on) (sym c.in-Some.ensures.stream) c.in-Some.ensures.slots
          (ap (λ (x : Case). x.origin.name) c.into_entry-entry.ensures ∙ ap (λ (n : ArrayVec ℕ). n.items) c.in_default-sealed.ensures.name)));
    }

pub returns-then-self : goal.returns-then-self
returns-then-self g c = record {
  step = search rules;
  bytes = search rules;
  blocks = [];
  changes = changes_none g.D.Disk ℕ c.self.inside.disk c.self.inside.journal c.self.inside.settings.limit c.self.inside.free c.self.inside.slots c.self.inside.stopped _ _ _ c.self.invariant.sound c.self.view_is (λ fault. cc);
  padded = λ honest. tt;
  untouched = search rules;
  superblock = same_superblock g.D.Disk _ _ (search rules);
  front = same_front g.D.Disk c.args.self.now.journal.standing.shape _ _ (search rules);
}

pub returns-in_default : goal.returns-in_default
returns-in_default g c = record {
  step = grind (arith, common_steps);
  bytes = λ honest.
      rw (← c.self.view_is)
      (ap (λ (x : List (Option StreamParts)). contents_of g.D.Disk.seen (record {
        disk = c.self.inside.disk;
        journal = c.self.inside.journal;
        limit = c.self.inside.settings.limit;
        streams = x;
        stopped = c.self.inside.stopped;
      }))
      (c.in_default.ensures.slots ∙ none_set c.self.inside.slots c.args.slot (sym c.in_default.ensures.stream)));
  blocks = [];
  changes = record { disk = record { cause = search rules; later = search rules; honesty = search rules; size = search rules }; crash = search rules; stands = search rules };
  padded = λ honest. tt;
  untouched = search rules;
  superblock = same_superblock g.D.Disk _ _ (search rules);
  front = same_front g.D.Disk c.args.self.now.journal.standing.shape _ _ (search rules);
}

pub returns-in-Err : goal.returns-in-Err
returns-in-Err g c = record {
  step = subst (λ (a : Parts g.row.D.Denot). FinishStep (state_of a) c.args.slot (Err c.in-Err.fault)
      (state_of (record { disk = c.seal-sealed.new.disk; journal = c.self.inside.journal; limit = c.self.inside.settings.limit; streams = c.end_streams-self-inside.new.slots; stopped = c.end_streams-self-inside.result })))
      c.self.view_is
      (seal_err g.D.Disk c.self.inside.disk c.seal-sealed.new.disk c.self.inside.journal c.self.inside.settings.limit c.self.inside.free c.self.inside.slots c.args.slot (parts_of c.in-Some.block c.in-Some.stream) c.self.inside.stopped
      (c.self.invariant.sound.runs c.if-self.false) c.if-self.false (sym c.in-Some.ensures.stream)
      c.end_streams-self-inside.result c.take.new.self c.end_streams-self-inside.new.slots (parts_of c.seal-sealed.new.block c.seal-sealed.new.stream) c.in-Err.fault
      c.in-Some.ensures.slots c.end_streams-self-inside.ensures c.in-Err.ensures.step);
  bytes = λ honest.
      let real = rw (← c.self.view_is) at honest in
      let running = c.self.invariant.sound.runs c.if-self.false in
      rw (← c.self.view_is)
      (refused_bytes g.D.Disk c.self.inside.disk c.seal-sealed.new.disk c.self.inside.journal c.self.inside.settings.limit c.self.inside.free c.self.inside.slots c.args.slot c.self.inside.stopped c.end_streams-self-inside.result
      running
      (subst (λ (x : Shape). ChangesFree x c.self.inside.free (g.D.Disk.seen c.self.inside.disk) (g.D.Disk.seen c.seal-sealed.new.disk)) c.shape-shape.ensures (c.in-Err.ensures.others real))
      c.in-Err.fault c.take.new.self c.end_streams-self-inside.new.slots c.in-Some.ensures.slots c.end_streams-self-inside.ensures
      (seal_not_stopped g.D.Disk c.self.inside.disk c.seal-sealed.new.disk c.self.inside.journal c.self.inside.settings.limit c.self.inside.free c.self.inside.slots c.args.slot (parts_of c.in-Some.block c.in-Some.stream) c.self.inside.stopped
      (c.self.invariant.sound.runs c.if-self.false) c.if-self.false (sym c.in-Some.ensures.stream) (parts_of c.seal-sealed.new.block c.seal-sealed.new.stream) c.in-Err.fault c.in-Err.ensures.step)
      (seal_not_missing g.D.Disk c.self.inside.disk c.seal-sealed.new.disk c.self.inside.journal c.self.inside.settings.limit c.self.inside.free c.self.inside.slots c.args.slot (parts_of c.in-Some.block c.in-Some.stream) c.self.inside.stopped
      (c.self.invariant.sound.runs c.if-self.false) c.if-self.false (sym c.in-Some.ensures.stream) (parts_of c.seal-sealed.new.block c.seal-sealed.new.stream) c.in-Err.fault c.in-Err.ensures.step));
  blocks = [];
  changes = record {
    disk = record { cause = search rules; later = search rules; honesty = search rules; size = search rules };
    crash = λ honest.
        let real = rw (← c.self.view_is) at honest in
        rw (← c.self.view_is)
        (rests_leaves g.D.Disk c.self.inside.disk c.seal-sealed.new.disk c.self.inside.journal c.self.inside.settings.limit c.self.inside.free c.self.inside.slots (c.self.invariant.sound.runs c.if-self.false) ℕ (Err c.in-Err.fault) _ _
        (grow_rests g.D.Disk c.self.inside.disk c.seal-sealed.new.disk c.self.inside.journal c.self.inside.settings.limit c.self.inside.free c.self.inside.slots (c.self.invariant.sound.runs c.if-self.false) (c.in-Err.ensures.rests c.self.inside.journal (sym c.shape-shape.ensures))) real);
    stands = sound_stands g.D.Disk c.seal-sealed.new.disk c.self.inside.journal c.self.inside.settings.limit c.release.new.free c.end_streams-self-inside.new.slots c.end_streams-self-inside.result (invariant_of-self-in-Err g c).sound;
  };
  padded = λ honest. tt;
  superblock = λ honest.
      let real = rw (← c.self.view_is) at honest in
      rw (← c.self.view_is)
      (free_before c.self.inside.journal.standing.shape c.self.inside.free (g.D.Disk.seen c.self.inside.disk) (g.D.Disk.seen c.seal-sealed.new.disk) 4096 (omega arith)
      (subst (λ (x : Shape). ChangesFree x c.self.inside.free (g.D.Disk.seen c.self.inside.disk) (g.D.Disk.seen c.seal-sealed.new.disk)) c.shape-shape.ensures (c.in-Err.ensures.others real)));
  front = front_kept g.D.Disk c.args.self.now.journal.standing.shape c.in-Err.fault c.args.self.now.disk c.seal-sealed.new.disk
      (λ honest.
      (let real = rw (← c.self.view_is) at honest in
      rw (← c.self.view_is)
      (free_before c.self.inside.journal.standing.shape c.self.inside.free (g.D.Disk.seen c.self.inside.disk) (g.D.Disk.seen c.seal-sealed.new.disk) (data_start c.self.inside.journal.standing.shape) (omega arith)
      (subst (λ (x : Shape). ChangesFree x c.self.inside.free (g.D.Disk.seen c.self.inside.disk) (g.D.Disk.seen c.seal-sealed.new.disk)) c.shape-shape.ensures (c.in-Err.ensures.others real)))));
  untouched = rw (← c.self.view_is) (seal_spares (free_count c.self.inside.free) (parts_of c.in-Some.block c.in-Some.stream) (parts_of c.seal-sealed.new.block c.seal-sealed.new.stream) c.in-Err.fault _ _ c.in-Err.ensures.step c.in-Err.ensures.untouched);
}

pub returns : goal.returns
returns g c = record {
  step = subst (λ (a : Parts g.row.D.Denot). FinishStep (state_of a) c.args.slot (Err c.in-Err-append_case.fault)
      (state_of (record { disk = c.append_case.new.disk; journal = c.append_case.new.journal; limit = c.self.inside.settings.limit; streams = c.end_streams-self-inside-in-Err-append_case.new.slots; stopped = c.end_streams-self-inside-in-Err-append_case.result })))
      c.self.view_is
      (refused_step g.D.Disk c.self.inside.disk c.append_case.new.disk c.self.inside.journal c.self.inside.settings.limit c.self.inside.free c.self.inside.slots c.args.slot (parts_of c.in-Some.block c.in-Some.stream) c.self.inside.stopped
      (c.self.invariant.sound.runs c.if-self.false) c.if-self.false (sym c.in-Some.ensures.stream)
      c.append_case.new.journal c.end_streams-self-inside-in-Err-append_case.result c.take.new.self c.end_streams-self-inside-in-Err-append_case.new.slots (parts_of c.seal-sealed.new.block c.seal-sealed.new.stream) c.in_default-sealed.field-0 c.in-Err-append_case.fault _
      c.in-Some.ensures.slots c.end_streams-self-inside-in-Err-append_case.ensures c.in_default-sealed.ensures.step c.in_default-sealed.ensures.lowest c.into_entry-entry.ensures c.in-Err-append_case.ensures.step);
  bytes = λ honest.
      let real = rw (← c.self.view_is) at honest in
      let still = c.in_default-sealed.ensures.disk.honesty ∙ real in
      rw (← c.self.view_is)
      (unstored_bytes g.D.Disk c.self.inside.disk c.seal-sealed.new.disk c.append_case.new.disk c.self.inside.journal c.append_case.new.journal c.self.inside.settings.limit c.self.inside.free c.self.inside.slots c.args.slot c.self.inside.stopped c.end_streams-self-inside-in-Err-append_case.result
      (c.self.invariant.sound.runs c.if-self.false) (subst (λ (x : Shape). ChangesFree x c.self.inside.free (g.D.Disk.seen c.self.inside.disk) (g.D.Disk.seen c.seal-sealed.new.disk)) c.shape-shape.ensures (c.in_default-sealed.ensures.others real)) (c.in-Err-append_case.ensures.outside still)
      c.in-Err-append_case.fault (case_of c.into_entry-entry.result) c.take.new.self c.end_streams-self-inside-in-Err-append_case.new.slots c.in-Some.ensures.slots c.end_streams-self-inside-in-Err-append_case.ensures c.in-Err-append_case.ensures.step);
  blocks = c.seal-sealed.new.stream.runs;
  changes = record {
    disk = record { cause = search rules; later = search rules; honesty = search rules; size = search rules };
    crash = λ honest.
        let real = rw (← c.self.view_is) at honest in
        let still = c.in_default-sealed.ensures.disk.honesty ∙ real in
        let j = c.self.inside.journal in
        let running = c.self.invariant.sound.runs c.if-self.false in
        let s = parts_of c.in-Some.block c.in-Some.stream in
        let rests = grow_rests g.D.Disk c.self.inside.disk c.seal-sealed.new.disk c.self.inside.journal c.self.inside.settings.limit c.self.inside.free c.self.inside.slots (c.self.invariant.sound.runs c.if-self.false) (c.in_default-sealed.ensures.rests j (sym c.shape-shape.ensures)) in
        let y : Durable = durable_in (g.D.Disk.seen c.seal-sealed.new.disk) (appended j.standing (store_of j.standing (case_of c.into_entry-entry.result))) in
        rw (← c.self.view_is)
        (unstored_adds g.D.Disk c.self.inside.disk c.seal-sealed.new.disk c.append_case.new.disk j running.journal rests real y _ _ c.in-Err-append_case.fault
        (stored_doubt g.D.Disk c.self.inside.disk j c.self.inside.settings.limit c.self.inside.slots c.self.inside.stopped c.args.slot s c.seal-sealed.new.stream.runs y (sym c.in-Some.ensures.stream)
        (runs_may g.D.Disk c.self.inside.disk c.append_case.new.disk j c.self.inside.settings.limit c.self.inside.free c.self.inside.slots c.args.slot s c.self.inside.stopped running c.if-self.false (sym c.in-Some.ensures.stream) (parts_of c.seal-sealed.new.block c.seal-sealed.new.stream) c.in_default-sealed.field-0 c.in_default-sealed.ensures.step)
        (stored_is g.D.Disk c.self.inside.disk c.seal-sealed.new.disk j s c.seal-sealed.new.stream.runs (case_of c.into_entry-entry.result)
        (c.into_entry-entry.ensures ∙ closed_case g.D.Disk c.self.inside.disk c.append_case.new.disk j c.self.inside.settings.limit c.self.inside.free c.self.inside.slots c.args.slot s c.self.inside.stopped running c.if-self.false (sym c.in-Some.ensures.stream) (parts_of c.seal-sealed.new.block c.seal-sealed.new.stream) c.in_default-sealed.field-0 c.in_default-sealed.ensures.step)
        (subst (λ (x : Shape). ClosesBytes x s c.seal-sealed.new.stream.runs (g.D.Disk.seen c.self.inside.disk) (g.D.Disk.seen c.seal-sealed.new.disk)) c.shape-shape.ensures (c.in_default-sealed.ensures.bytes real))
        (rests.same running.journal real)))
        (c.in-Err-append_case.ensures.any_moment still));
    stands = sound_stands g.D.Disk c.append_case.new.disk c.append_case.new.journal c.self.inside.settings.limit c.append_case.new.free c.end_streams-self-inside-in-Err-append_case.new.slots c.end_streams-self-inside-in-Err-append_case.result (sound_not_stored g.D.Disk c.self.inside.disk c.append_case.new.disk c.self.inside.journal c.self.inside.settings.limit c.self.inside.free c.self.inside.slots c.args.slot (parts_of c.in-Some.block c.in-Some.stream) c.self.inside.stopped
        (c.self.invariant.sound.runs c.if-self.false) c.if-self.false (sym c.in-Some.ensures.stream)
        c.append_case.new.journal c.end_streams-self-inside-in-Err-append_case.result c.append_case.new.free c.take.new.self c.end_streams-self-inside-in-Err-append_case.new.slots c.in-Err-append_case.fault (case_of c.into_entry-entry.result) c.self.invariant.sound
        c.in-Some.ensures.slots c.end_streams-self-inside-in-Err-append_case.ensures c.in-Err-append_case.ensures.step c.in-Err-append_case.ensures.guards
        (balance_then c.self.inside.free c.seal-sealed.new.free c.append_case.new.free c.in-Some.stream.runs c.seal-sealed.new.stream.runs _ c.in_default-sealed.ensures.balance
        (subst (λ (x : List ℕ). Balances c.seal-sealed.new.free x c.append_case.new.free []) (ap (λ (x : Case). x.blocks) c.into_entry-entry.ensures) c.in-Err-append_case.ensures.free)));
  };
  padded = λ honest. tt;
  superblock = λ honest.
      let real = rw (← c.self.view_is) at honest in
      let still = c.in_default-sealed.ensures.disk.honesty ∙ real in
      rw (← c.self.view_is)
      ((c.in-Err-append_case.ensures.outside still).before
      ∙ (free_before c.self.inside.journal.standing.shape c.self.inside.free (g.D.Disk.seen c.self.inside.disk) (g.D.Disk.seen c.seal-sealed.new.disk) 4096 (omega arith)
      (subst (λ (x : Shape). ChangesFree x c.self.inside.free (g.D.Disk.seen c.self.inside.disk) (g.D.Disk.seen c.seal-sealed.new.disk)) c.shape-shape.ensures (c.in_default-sealed.ensures.others real))));
  front = front_spared g.D.Disk c.args.self.now.journal.standing.shape c.in-Err-append_case.fault c.args.self.now.disk c.seal-sealed.new.disk c.append_case.new.disk
      (λ honest.
      (let real = rw (← c.self.view_is) at honest in
      rw (← c.self.view_is)
      (free_before c.self.inside.journal.standing.shape c.self.inside.free (g.D.Disk.seen c.self.inside.disk) (g.D.Disk.seen c.seal-sealed.new.disk) (data_start c.self.inside.journal.standing.shape) (omega arith)
      (subst (λ (x : Shape). ChangesFree x c.self.inside.free (g.D.Disk.seen c.self.inside.disk) (g.D.Disk.seen c.seal-sealed.new.disk)) c.shape-shape.ensures (c.in_default-sealed.ensures.others real)))))
      c.in-Err-append_case.ensures.spared;
  untouched = append_spares c.in-Err-append_case.ensures.step.0 c.in-Err-append_case.fault _ _ c.in-Err-append_case.ensures.step.1 (never_stopped c.self.inside.journal (case_of c.into_entry-entry.result) c.in-Err-append_case.ensures.step.0 c.append_case.new.journal (c.self.invariant.sound.runs c.if-self.false).journal c.in-Err-append_case.ensures.step.2);
}

pub returns-in-Ok : goal.returns-in-Ok
returns-in-Ok g c = record {
  step = rw (← c.self.view_is)
      (stored_step g.D.Disk c.self.inside.disk c.append_case.new.disk c.self.inside.journal c.self.inside.settings.limit c.self.inside.free c.self.inside.slots c.args.slot (parts_of c.in-Some.block c.in-Some.stream) c.self.inside.stopped
      (c.self.invariant.sound.runs c.if-self.false) c.if-self.false (sym c.in-Some.ensures.stream)
      c.append_case.new.journal c.take.new.self (parts_of c.seal-sealed.new.block c.seal-sealed.new.stream) c.in_default-sealed.field-0 c.in-Ok.seq (case_of c.into_entry-entry.result)
      c.in-Some.ensures.slots c.in_default-sealed.ensures.step c.in_default-sealed.ensures.lowest c.into_entry-entry.ensures c.in-Ok.ensures.step);
  bytes = λ honest.
      let real = rw (← c.self.view_is) at honest in
      let still = c.in_default-sealed.ensures.disk.honesty ∙ real in
      let is_case = c.into_entry-entry.ensures in
      rw (← c.self.view_is)
      (stored_bytes g.D.Disk c.self.inside.disk c.seal-sealed.new.disk c.append_case.new.disk c.self.inside.journal c.append_case.new.journal c.self.inside.settings.limit c.self.inside.free c.self.inside.slots c.args.slot c.self.inside.stopped c.self.inside.stopped
      (c.self.invariant.sound.runs c.if-self.false) (subst (λ (x : Shape). ChangesFree x c.self.inside.free (g.D.Disk.seen c.self.inside.disk) (g.D.Disk.seen c.seal-sealed.new.disk)) c.shape-shape.ensures (c.in_default-sealed.ensures.others real)) (c.in-Ok.ensures.outside still)
      (parts_of c.in-Some.block c.in-Some.stream) (case_of c.into_entry-entry.result) c.in-Ok.seq c.take.new.self (sym c.in-Some.ensures.stream) c.in-Some.ensures.slots c.in-Ok.ensures.step.4
      (ap (λ (x : Case). x.len) (is_case ∙ closed_case g.D.Disk c.self.inside.disk c.append_case.new.disk c.self.inside.journal c.self.inside.settings.limit c.self.inside.free c.self.inside.slots c.args.slot (parts_of c.in-Some.block c.in-Some.stream) c.self.inside.stopped (c.self.invariant.sound.runs c.if-self.false) c.if-self.false (sym c.in-Some.ensures.stream) (parts_of c.seal-sealed.new.block c.seal-sealed.new.stream) c.in_default-sealed.field-0 c.in_default-sealed.ensures.step))
      (subst (λ (x : Shape). ClosesBytes x (parts_of c.in-Some.block c.in-Some.stream) (case_of c.into_entry-entry.result).blocks (g.D.Disk.seen c.self.inside.disk) (g.D.Disk.seen c.seal-sealed.new.disk)) c.shape-shape.ensures
      (subst (λ (x : List ℕ). ClosesBytes c.shape-shape.result (parts_of c.in-Some.block c.in-Some.stream) x (g.D.Disk.seen c.self.inside.disk) (g.D.Disk.seen c.seal-sealed.new.disk)) (sym (ap (λ (x : Case). x.blocks) is_case)) (c.in_default-sealed.ensures.bytes real))));
  blocks = c.seal-sealed.new.stream.runs;
  changes = record {
    disk = record { cause = search rules; later = search rules; honesty = search rules; size = search rules };
    crash = λ honest.
        let real = rw (← c.self.view_is) at honest in
        let still = c.in_default-sealed.ensures.disk.honesty ∙ real in
        let j = c.self.inside.journal in
        let r = store_of j.standing (case_of c.into_entry-entry.result) in
        rw (← c.self.view_is)
        (stored_adds g.D.Disk c.self.inside.disk c.seal-sealed.new.disk c.append_case.new.disk j (c.self.invariant.sound.runs c.if-self.false).journal
        (grow_rests g.D.Disk c.self.inside.disk c.seal-sealed.new.disk c.self.inside.journal c.self.inside.settings.limit c.self.inside.free c.self.inside.slots (c.self.invariant.sound.runs c.if-self.false) (c.in_default-sealed.ensures.rests j (sym c.shape-shape.ensures))) real
        (durable_in (g.D.Disk.seen c.seal-sealed.new.disk) (appended j.standing r)) _ (λ z. Unit {0}) c.in-Ok.seq
        (ap (λ (k : Journaled). durable_in (g.D.Disk.seen c.append_case.new.disk) k.standing) c.in-Ok.ensures.step.4
        ∙ new_behind g.D.Disk c.seal-sealed.new.disk c.append_case.new.disk j r (g.D.Disk.seen c.seal-sealed.new.disk) (g.D.Disk.seen c.append_case.new.disk) (c.in-Ok.ensures.outside still))
        (c.in-Ok.ensures.any_moment still));
    stands = sound_stands g.D.Disk c.append_case.new.disk c.append_case.new.journal c.self.inside.settings.limit c.append_case.new.free c.take.new.self c.self.inside.stopped (invariant_of-self-in-Ok g c).sound;
  };
  padded = λ honest.
      let real = rw (← c.self.view_is) at honest in
      let still = c.in_default-sealed.ensures.disk.honesty ∙ real in
      rw (← c.self.view_is)
      (stored_padded g.D.Disk c.self.inside.disk c.seal-sealed.new.disk c.append_case.new.disk c.self.inside.journal c.append_case.new.journal c.self.inside.settings.limit c.self.inside.free c.self.inside.slots c.args.slot c.self.inside.stopped c.self.inside.stopped
      (c.self.invariant.sound.runs c.if-self.false) (subst (λ (x : Shape). ChangesFree x c.self.inside.free (g.D.Disk.seen c.self.inside.disk) (g.D.Disk.seen c.seal-sealed.new.disk)) c.shape-shape.ensures (c.in_default-sealed.ensures.others real)) (c.in-Ok.ensures.outside still)
      (parts_of c.in-Some.block c.in-Some.stream) (case_of c.into_entry-entry.result) c.in-Ok.seq c.take.new.self (sym c.in-Some.ensures.stream) c.in-Ok.ensures.step.4
      (subst (λ (x : Shape). ClosesPadded x (parts_of c.in-Some.block c.in-Some.stream) (case_of c.into_entry-entry.result).blocks (g.D.Disk.seen c.self.inside.disk) (g.D.Disk.seen c.seal-sealed.new.disk)) c.shape-shape.ensures
      (subst (λ (x : List ℕ). ClosesPadded c.shape-shape.result (parts_of c.in-Some.block c.in-Some.stream) x (g.D.Disk.seen c.self.inside.disk) (g.D.Disk.seen c.seal-sealed.new.disk)) (sym (ap (λ (x : Case). x.blocks) c.into_entry-entry.ensures)) (c.in_default-sealed.ensures.padded real))));
  superblock = λ honest.
      let real = rw (← c.self.view_is) at honest in
      let still = c.in_default-sealed.ensures.disk.honesty ∙ real in
      rw (← c.self.view_is)
      ((c.in-Ok.ensures.outside still).before
      ∙ (free_before c.self.inside.journal.standing.shape c.self.inside.free (g.D.Disk.seen c.self.inside.disk) (g.D.Disk.seen c.seal-sealed.new.disk) 4096 (omega arith)
      (subst (λ (x : Shape). ChangesFree x c.self.inside.free (g.D.Disk.seen c.self.inside.disk) (g.D.Disk.seen c.seal-sealed.new.disk)) c.shape-shape.ensures (c.in_default-sealed.ensures.others real))));
  front = tt;
  untouched = tt;
}

pub append_case-requires-clause-guards : goal.append_case-requires-clause-guards
append_case-requires-clause-guards g c =
    (grow_rests g.D.Disk c.self.inside.disk c.seal-sealed.new.disk c.self.inside.journal c.self.inside.settings.limit c.self.inside.free c.self.inside.slots (c.self.invariant.sound.runs c.if-self.false)
    (c.in_default-sealed.ensures.rests c.self.inside.journal (sym c.shape-shape.ensures))).guards
