use Rattle.std.proofs.Common.{false}
use Rattle.intake.specs.Names.{AreTaken}
use Rattle.case_journal.specs.Journaled.{Journaled}
use Rattle.intake.proofs.NameLemmas.{names_left, taken_still}
use Rattle.std.proofs.Common.{rules, ◌≡◌, sym, subst, map, List, [], Err}
use Rattle.intake.specs.Balance.{AreFree, Balances}
use Rattle.intake.specs.Contents.{UnmovedBytes}
use Rattle.intake.specs.Ending.{EndsStreams}
use Rattle.intake.specs.Faults.{fault_of}
use Rattle.intake.specs.Parts.{Parts, state_of, contents_of}
use Rattle.intake.specs.Step.{DropStep}
use Rattle.intake.specs.declared.faults.ArchiveFault.{ArchiveFault}
use Rattle.case_journal.specs.declared.faults.JournalFault.TheVariants as journal_fault
use Rattle.journal_layout.specs.Case.{Case}
use Rattle.journal_layout.specs.Folding.{used_blocks}
use Rattle.journal_layout.specs.Live.{gone, seq_of_case}
use Rattle.journal_layout.specs.Record.{Drop}
use Rattle.journal_layout.specs.Soundness.{Rise}
use Rattle.intake.proofs.AfterLemmas.{sound_refusal, refusal_bytes}
use Rattle.intake.proofs.DropLemmas.{drop_held, drop_ok, drop_err, drop_sound_after, drop_bytes, still_cases}
use Rattle.intake.proofs.ListedLemmas.{flags_back, given_free}
use Rattle.intake.proofs.CrashLemmas.{record_ok, record_err}
use Rattle.intake.proofs.DurableLemmas.{durable_dropped}
use Rattle.intake.proofs.LeaveLemmas.{done_guards, refusal_guards, whole_dropped}
use Rattle.intake.specs.Durable.{durable_in, without}
use Rattle.intake.proofs.ChangeLemmas.{sound_stands}
use Rattle.intake.proofs.UntouchedLemmas.{journal_answered, journal_spares}
use Rattle.intake.proofs.archive.Archive.drop_cases.Goals as goal

pub release_listed-requires-clause-order : goal.release_listed-requires-clause-order
release_listed-requires-clause-order g c =
    let on = rw (← c.self.view_is) at c.requires.runs in
    (c.self.invariant.sound.runs on).cases.rise

pub release_listed-requires-clause-held : goal.release_listed-requires-clause-held
release_listed-requires-clause-held g c =
    let on = rw (← c.self.view_is) at c.requires.runs in
    drop_held g.D.Disk c.self.inside.disk c.self.inside.disk c.self.inside.journal c.self.inside.journal c.self.inside.settings.limit c.self.inside.free c.self.inside.slots c.self.inside.slots c.self.inside.stopped c.self.inside.stopped c.args.seqs.now c.self.invariant.sound on

pub hold_listed-requires-clause-order : goal.hold_listed-requires-clause-order
hold_listed-requires-clause-order g c =
    let on = rw (← c.self.view_is) at c.requires.runs in
    subst (λ (cs : List Case). Rise 0 (map seq_of_case cs)) (sym (still_cases c.self.inside.journal c.append_drop.new.self (Drop c.args.seqs.now) c.in-Err.fault c.in-Err.ensures.step))
    (c.self.invariant.sound.runs on).cases.rise

pub hold_listed-requires-clause-free : goal.hold_listed-requires-clause-free
hold_listed-requires-clause-free g c =
    let on = rw (← c.self.view_is) at c.requires.runs in
    subst (λ (cs : List Case). AreFree c.release_listed.new.free (used_blocks (gone c.args.seqs.now cs)))
    (sym (still_cases c.self.inside.journal c.append_drop.new.self (Drop c.args.seqs.now) c.in-Err.fault c.in-Err.ensures.step))
    (given_free c.self.inside.free c.release_listed.new.free (used_blocks (gone c.args.seqs.now c.self.inside.journal.standing.cases))
    (drop_held g.D.Disk c.self.inside.disk c.self.inside.disk c.self.inside.journal c.self.inside.journal c.self.inside.settings.limit c.self.inside.free c.self.inside.slots c.self.inside.slots c.self.inside.stopped c.self.inside.stopped c.args.seqs.now c.self.invariant.sound on) c.release_listed.ensures)

pub invariant_of-self : goal.invariant_of-self
invariant_of-self g c =
    record {
      sound =
          let on = rw (← c.self.view_is) at c.requires.runs in
          let may = rw (← c.self.view_is) at c.requires.may in
          drop_sound_after g.D.Disk c.self.inside.disk c.append_drop.new.disk c.self.inside.journal c.append_drop.new.self c.self.inside.settings.limit c.self.inside.free c.self.inside.slots c.self.inside.slots c.self.inside.stopped c.self.inside.stopped c.args.seqs.now c.self.invariant.sound on c.release_listed.new.free c.in_default.field-0 may c.in_default.ensures.step
          (done_guards g.D.Disk c.self.inside.disk c.append_drop.new.disk c.self.inside.journal c.append_drop.new.self (Drop c.args.seqs.now) c.in_default.ensures.step.2 c.append_drop.ensures.disk.honesty (g.met.D.Disk.counts_now c.append_drop.new.disk) c.append_drop.ensures.keeps
          (λ honest. whole_dropped g.D.Disk c.self.inside.disk c.self.inside.journal c.args.seqs.now (λ b may. (c.self.invariant.sound.runs on).keeps.whole (c.self.invariant.sound.runs on).journal honest b may))
          c.append_drop.ensures.outside c.append_drop.ensures.others)
          c.release_listed.ensures;
      taken = let same = rw (← c.self.view_is) at c.requires.names in
          λ on. subst (λ (k : Journaled). AreTaken k.standing.cases c.self.inside.slots c.forget_names.new.names) (sym c.in_default.ensures.step.2) (names_left c.args.seqs.now c.self.inside.journal.standing.cases c.self.inside.slots c.args.names.now c.self.inside.names c.forget_names.new.names (c.self.invariant.taken on) same c.forget_names.ensures);
    }

pub returns-in_default-clause-step : goal.returns-in_default-clause-step
returns-in_default-clause-step g c =
    let on = rw (← c.self.view_is) at c.requires.runs in
    rw (← c.self.view_is) (drop_ok g.D.Disk c.self.inside.disk c.append_drop.new.disk c.self.inside.journal c.append_drop.new.self c.self.inside.settings.limit c.self.inside.free c.self.inside.slots c.self.inside.slots c.self.inside.stopped c.self.inside.stopped c.args.seqs.now c.self.invariant.sound on tt c.in_default.ensures.step)

pub returns-in_default-clause-bytes : goal.returns-in_default-clause-bytes
returns-in_default-clause-bytes g c honest =
    let on = rw (← c.self.view_is) at c.requires.runs in
    let real = rw (← c.self.view_is) at honest in
    rw (← c.self.view_is) (drop_bytes g.D.Disk c.self.inside.disk c.append_drop.new.disk c.self.inside.journal c.append_drop.new.self c.self.inside.settings.limit c.self.inside.free c.self.inside.slots c.self.inside.slots c.self.inside.stopped c.self.inside.stopped c.args.seqs.now c.self.invariant.sound on tt c.in_default.ensures.step (c.append_drop.ensures.others real))

pub invariant_of-self-2 : goal.invariant_of-self-2
invariant_of-self-2 g c =
    record {
      sound =
          let on = rw (← c.self.view_is) at c.requires.runs in
          sound_refusal g.D.Disk c.self.inside.disk c.append_drop.new.disk c.self.inside.journal c.append_drop.new.self (Drop c.args.seqs.now) c.self.inside.settings.limit c.self.inside.free c.self.inside.slots c.end_streams-self-inside.new.slots c.self.inside.stopped c.end_streams-self-inside.result on
          c.hold_listed.new.free c.in-Err.fault c.self.invariant.sound c.in-Err.ensures.step
          (refusal_guards g.D.Disk c.self.inside.disk c.append_drop.new.disk c.self.inside.journal c.append_drop.new.self (Drop c.args.seqs.now) c.in-Err.fault c.in-Err.ensures.step c.in-Err.ensures.untouched c.append_drop.ensures.keeps (c.self.invariant.sound.runs on).keeps)
          (subst (λ (f : ArchiveFault). EndsStreams f c.self.inside.slots c.end_streams-self-inside.result c.end_streams-self-inside.new.slots) c.from-fault.ensures c.end_streams-self-inside.ensures)
          (λ _. flags_back c.self.inside.free c.release_listed.new.free c.hold_listed.new.free (used_blocks (gone c.args.seqs.now c.self.inside.journal.standing.cases))
          c.release_listed.ensures
          (subst (λ (cs : List Case). Balances c.release_listed.new.free [] c.hold_listed.new.free (used_blocks (gone c.args.seqs.now cs)))
          (still_cases c.self.inside.journal c.append_drop.new.self (Drop c.args.seqs.now) c.in-Err.fault c.in-Err.ensures.step) c.hold_listed.ensures));
      taken = let on = rw (← c.self.view_is) at c.requires.runs in
          subst (λ (cs : List Case). c.end_streams-self-inside.result ≡ false → AreTaken cs c.end_streams-self-inside.new.slots c.self.inside.names) (sym (still_cases c.self.inside.journal c.append_drop.new.self (Drop c.args.seqs.now) c.in-Err.fault c.in-Err.ensures.step))
          (taken_still c.from-fault.result c.self.inside.journal.standing.cases c.self.inside.slots c.end_streams-self-inside.new.slots c.end_streams-self-inside.result c.self.inside.names c.end_streams-self-inside.ensures (c.self.invariant.taken on));
    }

pub returns-clause-step : goal.returns-clause-step
returns-clause-step g c =
    let on = rw (← c.self.view_is) at c.requires.runs in
    subst (λ (f : ArchiveFault). DropStep (state_of c.args.self.now) c.args.seqs.now (Err f) (state_of (record { disk = c.append_drop.new.disk; journal = c.append_drop.new.self; limit = c.self.inside.settings.limit; streams = c.end_streams-self-inside.new.slots; stopped = c.end_streams-self-inside.result }))) (sym c.from-fault.ensures)
    (subst (λ (a : Parts g.row.D.Denot). DropStep (state_of a) c.args.seqs.now (Err (fault_of c.in-Err.fault)) (state_of (record { disk = c.append_drop.new.disk; journal = c.append_drop.new.self; limit = c.self.inside.settings.limit; streams = c.end_streams-self-inside.new.slots; stopped = c.end_streams-self-inside.result }))) c.self.view_is
    (drop_err g.D.Disk c.self.inside.disk c.append_drop.new.disk c.self.inside.journal c.append_drop.new.self c.self.inside.settings.limit c.self.inside.free c.self.inside.slots c.end_streams-self-inside.new.slots c.self.inside.stopped c.end_streams-self-inside.result c.args.seqs.now c.self.invariant.sound on c.in-Err.fault c.in-Err.ensures.step (subst (λ (f : ArchiveFault). EndsStreams f c.self.inside.slots c.end_streams-self-inside.result c.end_streams-self-inside.new.slots) c.from-fault.ensures c.end_streams-self-inside.ensures)))

pub returns-clause-bytes : goal.returns-clause-bytes
returns-clause-bytes g c honest =
    let on = rw (← c.self.view_is) at c.requires.runs in
    let real = rw (← c.self.view_is) at honest in
    subst (λ (f : ArchiveFault). UnmovedBytes (contents_of g.D.Disk.seen c.args.self.now) f (contents_of g.D.Disk.seen (record { disk = c.append_drop.new.disk; journal = c.append_drop.new.self; limit = c.self.inside.settings.limit; streams = c.end_streams-self-inside.new.slots; stopped = c.end_streams-self-inside.result }))) (sym c.from-fault.ensures)
    (subst (λ (a : Parts g.row.D.Denot). UnmovedBytes (contents_of g.D.Disk.seen a) (fault_of c.in-Err.fault) (contents_of g.D.Disk.seen (record { disk = c.append_drop.new.disk; journal = c.append_drop.new.self; limit = c.self.inside.settings.limit; streams = c.end_streams-self-inside.new.slots; stopped = c.end_streams-self-inside.result }))) c.self.view_is
    (refusal_bytes g.D.Disk.seen c.self.inside.disk c.append_drop.new.disk c.self.inside.journal c.self.inside.settings.limit c.self.inside.slots c.self.inside.stopped (c.append_drop.ensures.others real)
    (Drop c.args.seqs.now) c.append_drop.new.self c.in-Err.fault c.end_streams-self-inside.result c.end_streams-self-inside.new.slots (c.self.invariant.sound.runs on).journal c.in-Err.ensures.step
    (subst (λ (f : ArchiveFault). EndsStreams f c.self.inside.slots c.end_streams-self-inside.result c.end_streams-self-inside.new.slots) c.from-fault.ensures c.end_streams-self-inside.ensures)))

pub returns-in_default-clause-changes : goal.returns-in_default-clause-changes
returns-in_default-clause-changes g c =
    record {
      disk = record { cause = search rules; later = search rules; honesty = search rules; size = search rules };
      crash = λ honest.
          let on = rw (← c.self.view_is) at c.requires.runs in
          let real = rw (← c.self.view_is) at honest in
          let running = c.self.invariant.sound.runs on in
          rw (← c.self.view_is)
          (record_ok g.D.Disk c.self.inside.disk c.append_drop.new.disk c.self.inside.journal c.append_drop.new.self (Drop c.args.seqs.now) running.keeps running.journal real
          (whole_dropped g.D.Disk c.self.inside.disk c.self.inside.journal c.args.seqs.now (λ b may. running.keeps.whole running.journal real b may))
          (c.append_drop.ensures.any_moment real running.journal) (c.append_drop.ensures.outside real)
          (λ z. z ≡ without (durable_in (g.D.Disk.seen c.self.inside.disk) c.self.inside.journal.standing) c.args.seqs.now) tt (c.append_drop.ensures.others real) c.in_default.ensures.step.2);
      stands = sound_stands g.D.Disk c.append_drop.new.disk c.append_drop.new.self c.self.inside.settings.limit c.release_listed.new.free c.self.inside.slots c.self.inside.stopped (invariant_of-self g c).sound;
    }

pub returns-clause-changes : goal.returns-clause-changes
returns-clause-changes g c =
    record {
      disk = record { cause = search rules; later = search rules; honesty = search rules; size = search rules };
      crash = λ honest.
          let on = rw (← c.self.view_is) at c.requires.runs in
          let real = rw (← c.self.view_is) at honest in
          let running = c.self.invariant.sound.runs on in
          rw (← c.self.view_is)
          (record_err g.D.Disk c.self.inside.disk c.append_drop.new.disk c.self.inside.journal c.append_drop.new.self (Drop c.args.seqs.now) running.keeps running.journal real
          (whole_dropped g.D.Disk c.self.inside.disk c.self.inside.journal c.args.seqs.now (λ b may. running.keeps.whole running.journal real b may))
          (c.append_drop.ensures.any_moment real running.journal) (c.append_drop.ensures.outside real)
          (λ z. z ≡ without (durable_in (g.D.Disk.seen c.self.inside.disk) c.self.inside.journal.standing) c.args.seqs.now) c.in-Err.fault _ _ c.from-fault.ensures c.in-Err.ensures.untouched (durable_dropped c.self.inside.journal.standing c.args.seqs.now (g.D.Disk.seen c.self.inside.disk)) (g.met.D.Disk.only_now c.self.inside.disk));
      stands = sound_stands g.D.Disk c.append_drop.new.disk c.append_drop.new.self c.self.inside.settings.limit c.hold_listed.new.free c.end_streams-self-inside.new.slots c.end_streams-self-inside.result (invariant_of-self-2 g c).sound;
    }

pub returns-clause-untouched : goal.returns-clause-untouched
returns-clause-untouched g c = rw (← c.self.view_is) (journal_spares (Unit {0}) c.in-Err.fault _ _ _ c.from-fault.ensures c.in-Err.ensures.untouched)

pub returns-in_default-clause-full : goal.returns-in_default-clause-full
returns-in_default-clause-full g c honest e = absurd (cc)

pub returns-clause-full : goal.returns-clause-full
returns-clause-full g c honest e =
    let real = rw (← c.self.view_is) at honest in
    rw (← c.self.view_is) (c.in-Err.ensures.generation (journal_answered (Unit {0}) c.in-Err.fault journal_fault.JournalFull _ c.from-fault.ensures e) real)

pub returns-in_default-clause-superblock : goal.returns-in_default-clause-superblock
returns-in_default-clause-superblock g c = rw (← c.self.view_is) (λ honest. (c.append_drop.ensures.others honest).before)

pub returns-clause-superblock : goal.returns-clause-superblock
returns-clause-superblock g c = rw (← c.self.view_is) (λ honest. (c.append_drop.ensures.others honest).before)
