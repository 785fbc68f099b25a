use Rattle.intake.proofs.NameLemmas.{taken_still}
use Rattle.std.proofs.Common.{rules, ◌≡◌, ◌∙◌, ◌≤◌, ap, sym, refl, subst, arith, List, ℕ, Some, Err, Vec, Global}
use Rattle.journal_layout.specs.Case.{case_of}
use Rattle.journal_layout.specs.declared.shape.Shape.{Shape}
use Rattle.intake.specs.Blocks.{image_in}
use Rattle.intake.specs.Contents.{UnmovedBytes}
use Rattle.intake.specs.Parts.{Parts, state_of, contents_of}
use Rattle.intake.specs.Reading.{LiesIn}
use Rattle.intake.specs.Sound.{case_blocks}
use Rattle.intake.specs.Step.{ImageStep}
use Rattle.intake.proofs.ImageLemmas.{case_lies, read_moments, sound_read, sound_unread, has_case, image_refused, bytes_same, bytes_refused, bytes_of_case, long_as}
use Rattle.intake.proofs.archive.Archive.image.Goals as goal

pub read_image-requires-clause-lies : goal.read_image-requires-clause-lies
read_image-requires-clause-lies g c =
    let running = c.self.invariant.sound.runs c.if-self.false in
    let all : case_blocks c.self.inside.journal.standing.cases ≤ c.self.inside.journal.standing.shape.data_blocks = (let t = running.total in omega (arith, t)) in
    subst (λ (s : Shape). LiesIn s.data_blocks c.in-Some.stored.now.runs c.in-Some.stored.now.length) (sym c.shape-shape.ensures)
    (case_lies c.self.inside.journal.standing.shape.data_blocks c.self.inside.journal.standing.cases c.self.inside.journal.standing.next c.args.seq (case_of c.in-Some.stored.now) running.cases all c.in-Some.ensures)

pub invariant_of-self : goal.invariant_of-self
invariant_of-self g c =
    record {
      sound =
          sound_read g.D.Disk c.self.inside.disk c.read_image.new.disk c.self.inside.journal c.self.inside.settings.limit c.self.inside.free c.self.inside.slots c.self.inside.stopped
          c.self.invariant.sound c.if-self.false c.read_image.ensures.quiet;
      taken = c.self.invariant.taken;
    }

pub invariant_of-self-in-Err : goal.invariant_of-self-in-Err
invariant_of-self-in-Err g c =
    record {
      sound =
          sound_unread g.D.Disk c.self.inside.disk c.read_image.new.disk c.self.inside.journal c.self.inside.settings.limit c.self.inside.free c.self.inside.slots c.end_streams-self-inside.new.slots c.self.inside.stopped c.end_streams-self-inside.result
          c.in-Err.fault c.self.invariant.sound c.if-self.false c.read_image.ensures.quiet c.in-Err.ensures.reply c.end_streams-self-inside.ensures;
      taken = taken_still c.in-Err.fault c.self.inside.journal.standing.cases c.self.inside.slots c.end_streams-self-inside.new.slots c.end_streams-self-inside.result c.self.inside.names c.end_streams-self-inside.ensures (c.self.invariant.taken c.if-self.false);
    }

pub returns-in_default : goal.returns-in_default
returns-in_default g c = record {
  step = rw (← c.self.view_is) (c.if-self.false, (sym c.in_default.ensures), refl);
  bytes = search rules;
  cause = search rules;
  long = search rules;
  quiet = search rules;
  stays = record { honesty = search rules; later = search rules; size = search rules; crash = search rules; durable = search rules };
  untouched = search rules;
}

pub returns-in-Ok : goal.returns-in-Ok
returns-in-Ok g c = record {
  step = rw (← c.self.view_is) (
    (case_of c.in-Some.stored.now),
    has_case g.D.Disk.seen c.self.inside.disk c.read_image.new.disk c.self.inside.journal c.self.inside.settings.limit c.self.inside.slots c.self.inside.slots c.self.inside.stopped c.self.inside.stopped
        c.args.seq (case_of c.in-Some.stored.now) c.if-self.false c.in-Some.ensures,
    refl,
  );
  bytes = λ honest.
      let real = rw (← c.self.view_is) at honest in
      let read : c.in-Ok.image.items ≡ image_in c.self.inside.journal.standing.shape (g.D.Disk.seen c.self.inside.disk) c.in-Some.stored.now.runs c.in-Some.stored.now.length =
      subst (λ (s : Shape). c.in-Ok.image.items ≡ image_in s (g.D.Disk.seen c.self.inside.disk) c.in-Some.stored.now.runs c.in-Some.stored.now.length) c.shape-shape.ensures (c.in-Ok.ensures.bytes real) in
      rw (← c.self.view_is) (
        bytes_of_case g.D.Disk.seen c.self.inside.disk c.read_image.new.disk c.self.inside.journal c.self.inside.settings.limit c.self.inside.slots c.self.inside.slots c.self.inside.stopped c.self.inside.stopped
            c.args.seq (case_of c.in-Some.stored.now) c.in-Some.ensures
            ∙ ap (λ (x : List ℕ). Some x) (sym read),
        bytes_same g.D.Disk.seen c.self.inside.disk c.read_image.new.disk c.self.inside.journal c.self.inside.settings.limit c.self.inside.slots c.self.inside.slots c.self.inside.stopped c.self.inside.stopped
            (c.read_image.ensures.quiet.seen real) refl,
      );
  cause = search rules;
  long = rw (← c.self.view_is) (λ x at. long_as (state_of (record { disk = c.self.inside.disk; journal = c.self.inside.journal; limit = c.self.inside.settings.limit; streams = c.self.inside.slots; stopped = c.self.inside.stopped })) c.args.seq _ (case_of c.in-Some.stored.now) x
      (has_case g.D.Disk.seen c.self.inside.disk c.read_image.new.disk c.self.inside.journal c.self.inside.settings.limit c.self.inside.slots c.self.inside.slots c.self.inside.stopped c.self.inside.stopped
      c.args.seq (case_of c.in-Some.stored.now) c.if-self.false c.in-Some.ensures) c.in-Ok.ensures.long at);
  quiet = search rules;
  stays = record {
    honesty = search rules;
    later = search rules;
    size = search rules;
    crash = λ honest.
        let real = rw (← c.self.view_is) at honest in
        let running = c.self.invariant.sound.runs c.if-self.false in
        rw (← c.self.view_is) (read_moments g.D.Disk c.self.inside.disk c.read_image.new.disk c.self.inside.journal running.keeps running.journal real c.read_image.ensures.quiet);
    durable = search rules;
  };
  untouched = tt;
}

pub returns-in-Err : goal.returns-in-Err
returns-in-Err g c = record {
  step = subst (λ (a : Parts g.row.D.Denot). ImageStep {T = Vec ℕ Global} (state_of a) c.args.seq (Err c.in-Err.fault)
      (state_of (record { disk = c.read_image.new.disk; journal = c.self.inside.journal; limit = c.self.inside.settings.limit; streams = c.end_streams-self-inside.new.slots; stopped = c.end_streams-self-inside.result })))
      c.self.view_is
      (image_refused g.D.Disk.seen c.self.inside.disk c.read_image.new.disk c.self.inside.journal c.self.inside.settings.limit c.self.inside.slots c.end_streams-self-inside.new.slots c.self.inside.stopped c.end_streams-self-inside.result
      (Vec ℕ Global) c.args.seq (case_of c.in-Some.stored.now) c.in-Err.fault c.if-self.false c.in-Some.ensures c.in-Err.ensures.reply c.end_streams-self-inside.ensures);
  bytes = λ honest.
      let real = rw (← c.self.view_is) at honest in
      subst (λ (a : Parts g.row.D.Denot). UnmovedBytes (contents_of g.D.Disk.seen a) c.in-Err.fault
      (contents_of g.D.Disk.seen (record { disk = c.read_image.new.disk; journal = c.self.inside.journal; limit = c.self.inside.settings.limit; streams = c.end_streams-self-inside.new.slots; stopped = c.end_streams-self-inside.result })))
      c.self.view_is
      (bytes_refused g.D.Disk.seen c.self.inside.disk c.read_image.new.disk c.self.inside.journal c.self.inside.settings.limit c.self.inside.slots c.end_streams-self-inside.new.slots c.self.inside.stopped c.end_streams-self-inside.result
      c.in-Err.fault (c.read_image.ensures.quiet.seen real) c.in-Err.ensures.reply c.end_streams-self-inside.ensures);
  cause = search rules;
  long = search rules;
  quiet = search rules;
  stays = record {
    honesty = search rules;
    later = search rules;
    size = search rules;
    crash = λ honest.
        let real = rw (← c.self.view_is) at honest in
        let running = c.self.invariant.sound.runs c.if-self.false in
        rw (← c.self.view_is) (read_moments g.D.Disk c.self.inside.disk c.read_image.new.disk c.self.inside.journal running.keeps running.journal real c.read_image.ensures.quiet);
    durable = search rules;
  };
  untouched = rw (← c.self.view_is) c.in-Err.ensures.untouched;
}
