use Rattle.std.proofs.Common.{rules, ◌≡◌, ◌∙◌, ◌≤◌, sym, refl, subst, arith, length, List, Some, Err}
use Rattle.disk_model.specs.Places.{part}
use Rattle.extents.specs.Runs.{blocks_of}
use Rattle.extents.specs.declared.run_list.Run.{Run}
use Rattle.journal_layout.specs.Soundness.{case_numbered}
use Rattle.journal_layout.specs.Case.{case_of}
use Rattle.journal_layout.specs.declared.shape.Shape.{Shape}
use Rattle.intake.specs.Blocks.{image_in, joined}
use Rattle.intake.specs.Contents.{UnmovedBytes}
use Rattle.intake.specs.Parts.{Parts, state_of, contents_of}
use Rattle.intake.specs.Reading.{LieWithin}
use Rattle.intake.specs.Sound.{case_blocks}
use Rattle.intake.specs.Step.{ImageStep}
use Rattle.intake.proofs.ImageLemmas.{case_lies, read_moments, sound_read, sound_unread, has_case, image_refused, bytes_same, bytes_refused, bytes_of_case, long_as}
use Rattle.intake.proofs.NameLemmas.{taken_still}
use Rattle.intake.proofs.PartLemmas.{only_disk, not_memory, disk_spares, part_fits, part_in_image, image_long}
use Rattle.intake.proofs.archive.Archive.image_part.Goals as goal

pub returns-in_default : goal.returns-in_default
returns-in_default g c = record {
  step = rw (← c.self.view_is) (c.if-self.false, (sym c.in_default.ensures), refl);
  bytes = search rules;
  count = refl;
  never = search rules;
  cause = search rules;
  quiet = search rules;
  stays = record { honesty = search rules; later = search rules; size = search rules; crash = search rules; durable = search rules };
  untouched = search rules;
}

pub read_part-requires-clause-within : goal.read_part-requires-clause-within
read_part-requires-clause-within g c =
    let running = c.self.invariant.sound.runs c.if-self.false in
    let all : case_blocks c.self.inside.journal.standing.cases ≤ c.self.inside.journal.standing.shape.data_blocks = (let t = running.total in omega (arith, t)) in
    let lies = case_lies c.self.inside.journal.standing.shape.data_blocks c.self.inside.journal.standing.cases c.self.inside.journal.standing.next c.args.seq (case_of c.in-Some.stored.now) running.cases all c.in-Some.ensures in
    subst (λ (s : Shape). LieWithin s.data_blocks c.runs.result.now) (sym c.shape-shape.ensures)
    (subst (λ (rs : List Run). LieWithin c.self.inside.journal.standing.shape.data_blocks rs) (sym c.runs.ensures.shortest) lies.within)

pub read_part-requires-clause-room : goal.read_part-requires-clause-room
read_part-requires-clause-room g c =
    let running = c.self.invariant.sound.runs c.if-self.false in
    let all : case_blocks c.self.inside.journal.standing.cases ≤ c.self.inside.journal.standing.shape.data_blocks = (let t = running.total in omega (arith, t)) in
    let lies = case_lies c.self.inside.journal.standing.shape.data_blocks c.self.inside.journal.standing.cases c.self.inside.journal.standing.next c.args.seq (case_of c.in-Some.stored.now) running.cases all c.in-Some.ensures in
    let fits = c.requires (case_of c.in-Some.stored.now) (subst (λ (a : Parts g.row.D.Denot). case_numbered c.args.seq (state_of a).cases ≡ Some (case_of c.in-Some.stored.now)) c.self.view_is (has_case g.D.Disk.seen c.self.inside.disk c.self.inside.disk c.self.inside.journal c.self.inside.settings.limit c.self.inside.slots c.self.inside.slots c.self.inside.stopped c.self.inside.stopped c.args.seq (case_of c.in-Some.stored.now) c.if-self.false c.in-Some.ensures).1) in
    part_fits c.self.inside.journal.standing.shape.data_blocks c.args.at (length c.args.into.now) c.in-Some.stored.now.length c.runs.result.now c.in-Some.stored.now.runs c.runs.ensures.shortest lies fits

pub invariant_of-self : goal.invariant_of-self
invariant_of-self g c =
    record {
      sound =
          sound_read g.D.Disk c.self.inside.disk c.read_part.new.disk c.self.inside.journal c.self.inside.settings.limit c.self.inside.free c.self.inside.slots c.self.inside.stopped
          c.self.invariant.sound c.if-self.false c.read_part.ensures.quiet;
      taken = c.self.invariant.taken;
    }

pub invariant_of-self-in-Err : goal.invariant_of-self-in-Err
invariant_of-self-in-Err g c =
    record {
      sound =
          sound_unread g.D.Disk c.self.inside.disk c.read_part.new.disk c.self.inside.journal c.self.inside.settings.limit c.self.inside.free c.self.inside.slots c.end_streams-self-inside.new.slots c.self.inside.stopped c.end_streams-self-inside.result
          c.in-Err.fault c.self.invariant.sound c.if-self.false c.read_part.ensures.quiet (only_disk c.in-Err.fault c.in-Err.ensures.reply) c.end_streams-self-inside.ensures;
      taken = taken_still c.in-Err.fault c.self.inside.journal.standing.cases c.self.inside.slots c.end_streams-self-inside.new.slots c.end_streams-self-inside.result c.self.inside.names c.end_streams-self-inside.ensures (c.self.invariant.taken c.if-self.false);
    }

pub returns-in-Ok : goal.returns-in-Ok
returns-in-Ok g c =
    let running = c.self.invariant.sound.runs c.if-self.false in
    let all : case_blocks c.self.inside.journal.standing.cases ≤ c.self.inside.journal.standing.shape.data_blocks = (let t = running.total in omega (arith, t)) in
    let lies = case_lies c.self.inside.journal.standing.shape.data_blocks c.self.inside.journal.standing.cases c.self.inside.journal.standing.next c.args.seq (case_of c.in-Some.stored.now) running.cases all c.in-Some.ensures in
    let fits = c.requires (case_of c.in-Some.stored.now) (subst (λ (a : Parts g.row.D.Denot). case_numbered c.args.seq (state_of a).cases ≡ Some (case_of c.in-Some.stored.now)) c.self.view_is (has_case g.D.Disk.seen c.self.inside.disk c.self.inside.disk c.self.inside.journal c.self.inside.settings.limit c.self.inside.slots c.self.inside.slots c.self.inside.stopped c.self.inside.stopped c.args.seq (case_of c.in-Some.stored.now) c.if-self.false c.in-Some.ensures).1) in
    record {
      step = rw (← c.self.view_is) ((case_of c.in-Some.stored.now), has_case g.D.Disk.seen c.self.inside.disk c.read_part.new.disk c.self.inside.journal c.self.inside.settings.limit c.self.inside.slots c.self.inside.slots c.self.inside.stopped c.self.inside.stopped c.args.seq (case_of c.in-Some.stored.now) c.if-self.false c.in-Some.ensures, refl);
      bytes = λ honest.
          let real = rw (← c.self.view_is) at honest in
          let whole = g.met.D.Disk.whole c.self.inside.disk real ∙ running.keeps.keeps.size in
          let read : c.read_part.new.into ≡ part (joined c.self.inside.journal.standing.shape (g.D.Disk.seen c.self.inside.disk) (blocks_of c.runs.result.now)) c.args.at (length c.args.into.now) =
          subst (λ (s : Shape). c.read_part.new.into ≡ part (joined s (g.D.Disk.seen c.self.inside.disk) (blocks_of c.runs.result.now)) c.args.at (length c.args.into.now)) c.shape-shape.ensures (c.in-Ok.ensures.bytes real) in
          rw (← c.self.view_is) (
            image_in c.self.inside.journal.standing.shape (g.D.Disk.seen c.self.inside.disk) c.in-Some.stored.now.runs c.in-Some.stored.now.length,
            bytes_of_case g.D.Disk.seen c.self.inside.disk c.read_part.new.disk c.self.inside.journal c.self.inside.settings.limit c.self.inside.slots c.self.inside.slots c.self.inside.stopped c.self.inside.stopped
                c.args.seq (case_of c.in-Some.stored.now) c.in-Some.ensures,
            read ∙ part_in_image c.self.inside.journal.standing.shape (g.D.Disk.seen c.self.inside.disk) c.args.at (length c.args.into.now) c.in-Some.stored.now.length c.runs.result.now c.in-Some.stored.now.runs c.runs.ensures.shortest fits,
            λ x at. long_as (state_of (record { disk = c.self.inside.disk; journal = c.self.inside.journal; limit = c.self.inside.settings.limit; streams = c.self.inside.slots; stopped = c.self.inside.stopped })) c.args.seq _ (case_of c.in-Some.stored.now) x
                (has_case g.D.Disk.seen c.self.inside.disk c.read_part.new.disk c.self.inside.journal c.self.inside.settings.limit c.self.inside.slots c.self.inside.slots c.self.inside.stopped c.self.inside.stopped c.args.seq (case_of c.in-Some.stored.now) c.if-self.false c.in-Some.ensures)
                (image_long c.self.inside.journal.standing.shape (g.D.Disk.seen c.self.inside.disk) c.in-Some.stored.now.runs c.in-Some.stored.now.length whole lies) at,
            bytes_same g.D.Disk.seen c.self.inside.disk c.read_part.new.disk c.self.inside.journal c.self.inside.settings.limit c.self.inside.slots c.self.inside.slots c.self.inside.stopped c.self.inside.stopped
                (c.read_part.ensures.quiet.seen real) refl,
          );
      count = c.read_part.auto.into;
      never = search rules;
      cause = search rules;
      quiet = search rules;
      stays = record {
        honesty = search rules;
        later = search rules;
        size = search rules;
        crash = λ honest.
            let real = rw (← c.self.view_is) at honest in
            rw (← c.self.view_is) (read_moments g.D.Disk c.self.inside.disk c.read_part.new.disk c.self.inside.journal running.keeps running.journal real c.read_part.ensures.quiet);
        durable = search rules;
      };
      untouched = tt;
    }

pub returns-in-Err : goal.returns-in-Err
returns-in-Err g c = record {
  step = subst (λ (a : Parts g.row.D.Denot). ImageStep {T = Unit {0}} (state_of a) c.args.seq (Err c.in-Err.fault)
      (state_of (record { disk = c.read_part.new.disk; journal = c.self.inside.journal; limit = c.self.inside.settings.limit; streams = c.end_streams-self-inside.new.slots; stopped = c.end_streams-self-inside.result })))
      c.self.view_is
      (image_refused g.D.Disk.seen c.self.inside.disk c.read_part.new.disk c.self.inside.journal c.self.inside.settings.limit c.self.inside.slots c.end_streams-self-inside.new.slots c.self.inside.stopped c.end_streams-self-inside.result
      (Unit {0}) c.args.seq (case_of c.in-Some.stored.now) c.in-Err.fault c.if-self.false c.in-Some.ensures (only_disk c.in-Err.fault c.in-Err.ensures.reply) c.end_streams-self-inside.ensures);
  bytes = λ honest.
      let real = rw (← c.self.view_is) at honest in
      subst (λ (a : Parts g.row.D.Denot). UnmovedBytes (contents_of g.D.Disk.seen a) c.in-Err.fault
      (contents_of g.D.Disk.seen (record { disk = c.read_part.new.disk; journal = c.self.inside.journal; limit = c.self.inside.settings.limit; streams = c.end_streams-self-inside.new.slots; stopped = c.end_streams-self-inside.result })))
      c.self.view_is
      (bytes_refused g.D.Disk.seen c.self.inside.disk c.read_part.new.disk c.self.inside.journal c.self.inside.settings.limit c.self.inside.slots c.end_streams-self-inside.new.slots c.self.inside.stopped c.end_streams-self-inside.result
      c.in-Err.fault (c.read_part.ensures.quiet.seen real) (only_disk c.in-Err.fault c.in-Err.ensures.reply) c.end_streams-self-inside.ensures);
  count = c.read_part.auto.into;
  never = not_memory c.in-Err.fault c.in-Err.ensures.reply;
  cause = search rules;
  quiet = search rules;
  stays = record {
    honesty = search rules;
    later = search rules;
    size = search rules;
    crash = λ honest.
        let real = rw (← c.self.view_is) at honest in
        let running = c.self.invariant.sound.runs c.if-self.false in
        rw (← c.self.view_is) (read_moments g.D.Disk c.self.inside.disk c.read_part.new.disk c.self.inside.journal running.keeps running.journal real c.read_part.ensures.quiet);
    durable = search rules;
  };
  untouched = disk_spares c.in-Err.fault c.args.self.now.disk c.read_part.new.disk c.in-Err.ensures.reply;
}
