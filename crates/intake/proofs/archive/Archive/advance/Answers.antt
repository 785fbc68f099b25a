use Rattle.std.proofs.Common.{ℕ}
use Rattle.arrayvec.specs.ArrayVec.{ArrayVec}
use Rattle.intake.specs.Names.{ForgetsName}
use Rattle.intake.proofs.NameLemmas.{taken_dropped, taken_grown, taken_still}
use Rattle.std.proofs.Common.{rules, arith, ◌∙◌, ap, sym, subst, Option, Err, List}
use Rattle.journal_layout.specs.declared.shape.Shape.{Shape}
use Rattle.journal_layout.specs.Layout.{data_start}
use Rattle.intake.specs.Growth.{ChangesFree}
use Rattle.intake.specs.Parts.{Parts, StreamParts, state_of, contents_of}
use Rattle.intake.specs.Step.{AdvanceStep}
use Rattle.intake.specs.StreamView.{parts_of}
use Rattle.intake.proofs.CountLemmas.{still_held, balance_then}
use Rattle.intake.proofs.SoundLemmas.{stream_held}
use Rattle.intake.proofs.AdvanceLemmas.{put_back, none_set, sound_refused, refused_bytes, sound_grown, advance_ok, advance_ok_bytes, advance_err, not_stopped, not_missing, fits_in}
use Rattle.intake.proofs.CrashLemmas.{grow_rests, grow_moments, grow_durable}
use Rattle.intake.proofs.UntouchedLemmas.{needs_none}
use Rattle.std.proofs.lemmas.Grind.{common_steps}
use Rattle.intake.proofs.FrontLemmas.{free_before, same_front}
use Rattle.intake.proofs.archive.Archive.advance.Goals as goal

pub release-requires : goal.release-requires
release-requires g c =
    still_held c.self.inside.free c.grow-grown.new.free c.in-Some.stream.runs c.grow-grown.new.stream.runs
    (stream_held g.D.Disk c.self.inside.disk c.self.inside.journal c.self.inside.settings.limit c.self.inside.free c.self.inside.slots c.args.slot _ (c.self.invariant.sound.runs c.if-self.false) (sym c.in-Some.ensures.stream))
    c.in-Err.ensures.balance

pub invariant_of-self-in-Err : goal.invariant_of-self-in-Err
invariant_of-self-in-Err g c =
    record {
      sound =
          sound_refused g.D.Disk c.self.inside.disk c.grow-grown.new.disk c.self.inside.journal c.self.inside.settings.limit c.self.inside.free c.release.new.free c.self.inside.slots c.take.new.self c.end_streams-self-inside.new.slots c.args.slot _ c.self.inside.stopped c.end_streams-self-inside.result c.in-Err.fault
          c.self.invariant.sound c.if-self.false (sym c.in-Some.ensures.stream) c.in-Some.ensures.slots
          (grow_rests g.D.Disk c.self.inside.disk c.grow-grown.new.disk c.self.inside.journal c.self.inside.settings.limit c.self.inside.free c.self.inside.slots (c.self.invariant.sound.runs c.if-self.false) (c.in-Err.ensures.rests c.self.inside.journal (sym c.shape-shape.ensures))).guards
          (balance_then c.self.inside.free c.grow-grown.new.free c.release.new.free c.in-Some.stream.runs c.grow-grown.new.stream.runs _ c.in-Err.ensures.balance c.release.ensures)
          c.end_streams-self-inside.ensures;
      taken = λ on. taken_still c.in-Err.fault c.self.inside.journal.standing.cases c.take.new.self c.end_streams-self-inside.new.slots c.end_streams-self-inside.result c.forget_name.new.names c.end_streams-self-inside.ensures
          (taken_dropped c.self.inside.journal.standing.cases c.self.inside.slots c.take.new.self c.args.slot _ c.self.inside.names c.forget_name.new.names (c.self.invariant.taken c.if-self.false) (sym c.in-Some.ensures.stream) c.in-Some.ensures.slots
          (subst (λ (n : ArrayVec ℕ). ForgetsName n.items c.self.inside.names c.forget_name.new.names) c.in-Err.ensures.name c.forget_name.ensures))
          on;
    }

pub invariant_of-self-2 : goal.invariant_of-self-2
invariant_of-self-2 g c =
    record {
      sound =
          sound_grown g.D.Disk c.self.inside.disk c.grow-grown.new.disk c.self.inside.journal c.self.inside.settings.limit c.self.inside.free c.self.inside.slots c.args.slot c.args.n (parts_of c.in-Some.block c.in-Some.stream) c.self.inside.stopped
          (c.self.invariant.sound.runs c.if-self.false) c.if-self.false (sym c.in-Some.ensures.stream)
          c.grow-grown.new.free c.take.new.self c.put.new.self (parts_of c.grow-grown.new.block c.grow-grown.new.stream) c.in_default-grown.field-0 c.self.invariant.sound c.in-Some.ensures.slots c.put.ensures
          (fits_in g.D.Disk c.self.inside.disk c.grow-grown.new.disk c.self.inside.journal c.self.inside.settings.limit c.self.inside.free c.self.inside.slots c.args.slot c.args.n (parts_of c.in-Some.block c.in-Some.stream) c.self.inside.stopped (c.self.invariant.sound.runs c.if-self.false) c.if-self.false (sym c.in-Some.ensures.stream) (rw (← c.self.view_is) at c.requires))
          c.in_default-grown.ensures.step c.in_default-grown.ensures.small
          (grow_rests g.D.Disk c.self.inside.disk c.grow-grown.new.disk c.self.inside.journal c.self.inside.settings.limit c.self.inside.free c.self.inside.slots (c.self.invariant.sound.runs c.if-self.false) (c.in_default-grown.ensures.rests c.self.inside.journal (sym c.shape-shape.ensures))).guards
          c.in_default-grown.ensures.balance;
      taken = λ on. taken_grown c.self.inside.journal.standing.cases c.self.inside.slots c.put.new.self c.args.slot (parts_of c.in-Some.block c.in-Some.stream) (parts_of c.grow-grown.new.block c.grow-grown.new.stream) c.self.inside.names (c.self.invariant.taken on) (sym c.in-Some.ensures.stream)
          (put_back g.D.Disk c.self.inside.disk c.grow-grown.new.disk c.self.inside.journal c.self.inside.settings.limit c.self.inside.free c.self.inside.slots c.args.slot c.args.n (parts_of c.in-Some.block c.in-Some.stream) c.self.inside.stopped (c.self.invariant.sound.runs c.if-self.false) c.if-self.false (sym c.in-Some.ensures.stream)
          c.take.new.self c.put.new.self (parts_of c.grow-grown.new.block c.grow-grown.new.stream) c.in-Some.ensures.slots c.put.ensures)
          (ap (λ (n : ArrayVec ℕ). n.items) c.in_default-grown.ensures.name);
    }

pub returns-in_default : goal.returns-in_default
returns-in_default g c = record {
  step = grind (arith, common_steps);
  bytes = λ honest.
      rw (← c.self.view_is)
      (ap (λ (x : List (Option StreamParts)). contents_of g.D.Disk.seen (record {
        disk = c.self.inside.disk;
        journal = c.self.inside.journal;
        limit = c.self.inside.settings.limit;
        streams = x;
        stopped = c.self.inside.stopped;
      }))
      (c.in_default.ensures.slots ∙ none_set c.self.inside.slots c.args.slot (sym c.in_default.ensures.stream)));
  cause = search rules;
  stays = record { honesty = search rules; later = search rules; size = search rules; crash = search rules; durable = search rules };
  untouched = search rules;
  front = same_front g.D.Disk c.args.self.now.journal.standing.shape _ _ (search rules);
}

pub returns-in-Err : goal.returns-in-Err
returns-in-Err g c = record {
  step = subst (λ (a : Parts g.row.D.Denot). AdvanceStep (state_of a) c.args.slot c.args.n (Err c.in-Err.fault)
      (state_of (record { disk = c.grow-grown.new.disk; journal = c.self.inside.journal; limit = c.self.inside.settings.limit; streams = c.end_streams-self-inside.new.slots; stopped = c.end_streams-self-inside.result })))
      c.self.view_is
      (advance_err g.D.Disk c.self.inside.disk c.grow-grown.new.disk c.self.inside.journal c.self.inside.settings.limit c.self.inside.free c.self.inside.slots c.args.slot c.args.n (parts_of c.in-Some.block c.in-Some.stream) c.self.inside.stopped
      (c.self.invariant.sound.runs c.if-self.false) c.if-self.false (sym c.in-Some.ensures.stream)
      c.end_streams-self-inside.result c.take.new.self c.end_streams-self-inside.new.slots (parts_of c.grow-grown.new.block c.grow-grown.new.stream) c.in-Err.fault
      c.in-Some.ensures.slots c.end_streams-self-inside.ensures c.in-Err.ensures.step);
  bytes = λ honest.
      let real = rw (← c.self.view_is) at honest in
      let running = c.self.invariant.sound.runs c.if-self.false in
      rw (← c.self.view_is)
      (refused_bytes g.D.Disk c.self.inside.disk c.grow-grown.new.disk c.self.inside.journal c.self.inside.settings.limit c.self.inside.free c.self.inside.slots c.args.slot c.self.inside.stopped c.end_streams-self-inside.result
      running
      (subst (λ (x : Shape). ChangesFree x c.self.inside.free (g.D.Disk.seen c.self.inside.disk) (g.D.Disk.seen c.grow-grown.new.disk)) c.shape-shape.ensures (c.in-Err.ensures.others real))
      c.in-Err.fault c.take.new.self c.end_streams-self-inside.new.slots c.in-Some.ensures.slots c.end_streams-self-inside.ensures
      (not_stopped g.D.Disk c.self.inside.disk c.grow-grown.new.disk c.self.inside.journal c.self.inside.settings.limit c.self.inside.free c.self.inside.slots c.args.slot c.args.n (parts_of c.in-Some.block c.in-Some.stream) c.self.inside.stopped running c.if-self.false (sym c.in-Some.ensures.stream) _ c.in-Err.fault c.in-Err.ensures.step)
      (not_missing g.D.Disk c.self.inside.disk c.grow-grown.new.disk c.self.inside.journal c.self.inside.settings.limit c.self.inside.free c.self.inside.slots c.args.slot c.args.n (parts_of c.in-Some.block c.in-Some.stream) c.self.inside.stopped running c.if-self.false (sym c.in-Some.ensures.stream) _ c.in-Err.fault c.in-Err.ensures.step));
  cause = search rules;
  stays = record {
    honesty = search rules;
    later = search rules;
    size = search rules;
    crash = λ honest.
        let real = rw (← c.self.view_is) at honest in
        rw (← c.self.view_is)
        (grow_moments g.D.Disk c.self.inside.disk c.grow-grown.new.disk c.self.inside.journal c.self.inside.settings.limit c.self.inside.free c.self.inside.slots (c.self.invariant.sound.runs c.if-self.false) (c.in-Err.ensures.rests c.self.inside.journal (sym c.shape-shape.ensures)) real);
    durable = λ honest.
        let real = rw (← c.self.view_is) at honest in
        rw (← c.self.view_is)
        (grow_durable g.D.Disk c.self.inside.disk c.grow-grown.new.disk c.self.inside.journal c.self.inside.settings.limit c.self.inside.free c.self.inside.slots (c.self.invariant.sound.runs c.if-self.false) (c.in-Err.ensures.rests c.self.inside.journal (sym c.shape-shape.ensures)) real);
  };
  front = λ honest.
      let real = rw (← c.self.view_is) at honest in
      rw (← c.self.view_is)
      (free_before c.self.inside.journal.standing.shape c.self.inside.free (g.D.Disk.seen c.self.inside.disk) (g.D.Disk.seen c.grow-grown.new.disk) (data_start c.self.inside.journal.standing.shape) (omega arith)
      (subst (λ (x : Shape). ChangesFree x c.self.inside.free (g.D.Disk.seen c.self.inside.disk) (g.D.Disk.seen c.grow-grown.new.disk)) c.shape-shape.ensures (c.in-Err.ensures.others real)));
  untouched = rw (← c.self.view_is) c.in-Err.ensures.untouched;
}

pub returns : goal.returns
returns g c = record {
  step = rw (← c.self.view_is)
      (advance_ok g.D.Disk c.self.inside.disk c.grow-grown.new.disk c.self.inside.journal c.self.inside.settings.limit c.self.inside.free c.self.inside.slots c.args.slot c.args.n (parts_of c.in-Some.block c.in-Some.stream) c.self.inside.stopped
      (c.self.invariant.sound.runs c.if-self.false) c.if-self.false (sym c.in-Some.ensures.stream)
      c.take.new.self c.put.new.self (parts_of c.grow-grown.new.block c.grow-grown.new.stream) c.in_default-grown.field-0 c.in-Some.ensures.slots c.put.ensures
      (fits_in g.D.Disk c.self.inside.disk c.grow-grown.new.disk c.self.inside.journal c.self.inside.settings.limit c.self.inside.free c.self.inside.slots c.args.slot c.args.n (parts_of c.in-Some.block c.in-Some.stream) c.self.inside.stopped (c.self.invariant.sound.runs c.if-self.false) c.if-self.false (sym c.in-Some.ensures.stream) (rw (← c.self.view_is) at c.requires))
      c.in_default-grown.ensures.step c.in_default-grown.ensures.lowest);
  bytes = λ honest.
      let real = rw (← c.self.view_is) at honest in
      rw (← c.self.view_is)
      (advance_ok_bytes g.D.Disk c.self.inside.disk c.grow-grown.new.disk c.self.inside.journal c.self.inside.settings.limit c.self.inside.free c.self.inside.slots c.args.slot c.args.n (parts_of c.in-Some.block c.in-Some.stream) c.self.inside.stopped
      (c.self.invariant.sound.runs c.if-self.false) c.if-self.false (sym c.in-Some.ensures.stream)
      c.take.new.self c.put.new.self (parts_of c.grow-grown.new.block c.grow-grown.new.stream) c.in_default-grown.field-0
      (subst (λ (x : Shape). ChangesFree x c.self.inside.free (g.D.Disk.seen c.self.inside.disk) (g.D.Disk.seen c.grow-grown.new.disk)) c.shape-shape.ensures (c.in_default-grown.ensures.others real))
      c.in-Some.ensures.slots c.put.ensures
      (c.in_default-grown.ensures.bytes real c.self.inside.journal (sym c.shape-shape.ensures)));
  cause = search rules;
  stays = record {
    honesty = search rules;
    later = search rules;
    size = search rules;
    crash = λ honest.
        let real = rw (← c.self.view_is) at honest in
        rw (← c.self.view_is)
        (grow_moments g.D.Disk c.self.inside.disk c.grow-grown.new.disk c.self.inside.journal c.self.inside.settings.limit c.self.inside.free c.self.inside.slots (c.self.invariant.sound.runs c.if-self.false) (c.in_default-grown.ensures.rests c.self.inside.journal (sym c.shape-shape.ensures)) real);
    durable = λ honest.
        let real = rw (← c.self.view_is) at honest in
        rw (← c.self.view_is)
        (grow_durable g.D.Disk c.self.inside.disk c.grow-grown.new.disk c.self.inside.journal c.self.inside.settings.limit c.self.inside.free c.self.inside.slots (c.self.invariant.sound.runs c.if-self.false) (c.in_default-grown.ensures.rests c.self.inside.journal (sym c.shape-shape.ensures)) real);
  };
  front = λ honest.
      let real = rw (← c.self.view_is) at honest in
      rw (← c.self.view_is)
      (free_before c.self.inside.journal.standing.shape c.self.inside.free (g.D.Disk.seen c.self.inside.disk) (g.D.Disk.seen c.grow-grown.new.disk) (data_start c.self.inside.journal.standing.shape) (omega arith)
      (subst (λ (x : Shape). ChangesFree x c.self.inside.free (g.D.Disk.seen c.self.inside.disk) (g.D.Disk.seen c.grow-grown.new.disk)) c.shape-shape.ensures (c.in_default-grown.ensures.others real)));
  untouched = rw (← c.self.view_is)
      (λ t is none. c.in_default-grown.ensures.idle (needs_none c.self.inside.slots c.args.slot c.args.n (parts_of c.in-Some.block c.in-Some.stream) t (sym c.in-Some.ensures.stream) is none));
}
