use Rattle.std.proofs.Common.{◌≡◌, ◌⊎◌, inl, ◌∙◌, ◌+◌, ◌++◌, ◌∷◌, [], ℕ, List, map, sym, ap, subst, arith, Ok, Err}
use Rattle.std.proofs.lemmas.Result.{err_from_is_err_and}
use Rattle.disk_model.specs.MomentLaws.{started}
use Rattle.journal_layout.specs.declared.entry.Entry.{Entry}
use Rattle.journal_layout.specs.Case.{case_of}
use Rattle.journal_layout.specs.Front.{is_known}
use Rattle.disk_model.specs.Places.{part}
use Rattle.journal_layout.specs.Layout.{half_header, half_length}
use Rattle.journal_layout.specs.Record.{Next, spelling}
use Rattle.journal_snapshot.specs.Writing.{written_added, written_entries}
use Rattle.journal_layout.specs.Standing.{folded_of}
use Rattle.journal_layout.specs.Stands.{Stands}
use Rattle.journal_layout.specs.Rewriting.{other_half, other_start, rewritten}
use Rattle.journal_snapshot.specs.Changing.{changed}
use Rattle.journal_snapshot.specs.Filling.{Fills}
use Rattle.journal_snapshot.specs.FillLaws.{fills_nothing}
use Rattle.journal_snapshot.specs.Measuring.{AreShort}
use Rattle.journal_snapshot.specs.Halves.{IsWrittenAs}
use Rattle.journal_layout.specs.declared.shape.Half.{Half}
use Rattle.case_journal.specs.Journaled.{Journaled}
use Rattle.case_journal.specs.Compacting.{SnapshotStep, MeasuresSnapshot}
use Rattle.case_journal.proofs.CompactLemmas.{live_short, fit_refused, write_refused, write_done, anew, half_fills, header_there}
use Rattle.case_journal.proofs.journal.Journal.put_snapshot.Goals as goal

pub measure_snapshot-requires-clause-short : goal.measure_snapshot-requires-clause-short
measure_snapshot-requires-clause-short g c =
    let j = c.self.inside in
    subst AreShort (sym c.as_slice.ensures) (live_short j.shape.data_blocks j.next j.entries.entries c.self.invariant.live)

pub returns-in_err-measure-clause-step : goal.returns-in_err-measure-clause-step
returns-in_err-measure-clause-step g c =
    let p = err_from_is_err_and c.from_residual.result c.from_residual.ensures.1 in
    rw (p.1, p.2)
    (subst (λ (j : Journaled). SnapshotStep j.standing (changed c.args.change.now (folded_of j.standing)) (Err c.in_err-measure.field-0.0)) c.self.view_is
    (fit_refused (record { shape = c.self.inside.shape; half = c.self.inside.half; version = c.self.inside.version; generation = c.self.inside.generation; cases = map case_of c.self.inside.entries.entries; next = c.self.inside.next; used = c.self.inside.used }) c.args.change.now c.as_slice.result.now (ap (map case_of) (sym c.as_slice.ensures)) c.in_err-measure.field-0.0 c.in_err-measure.ensures))

pub returns-in_err-measure-clause-run : goal.returns-in_err-measure-clause-run
returns-in_err-measure-clause-run g c = record {
  moments = λ honest. started g.D.Disk c.args.disk.now (λ b. Stands b c.args.self.now.standing ⊎ Stands b (rewritten c.args.self.now.standing (changed c.args.change.now (folded_of c.args.self.now.standing))))
      (λ b was. inl ((c.requires.keeps.holds c.requires.runs honest).stands b (g.met.D.Disk.only_now c.args.disk.now b was)));
  half = fills_nothing g.D.Disk (other_start c.args.self.now.standing) (half_length c.args.self.now.standing.shape) c.args.disk.now (g.met.D.Disk.only_now c.args.disk.now);
  fills = fills_nothing g.D.Disk 4096 _ c.args.disk.now (g.met.D.Disk.only_now c.args.disk.now);
  doubts = c.requires.keeps.doubts;
  later = omega arith;
}

pub returns-in_err-write_snapshot-clause-step : goal.returns-in_err-write_snapshot-clause-step
returns-in_err-write_snapshot-clause-step g c =
    let p = err_from_is_err_and c.from_residual-in_err-write_snapshot.result c.from_residual-in_err-write_snapshot.ensures.1 in
    rw (p.1, p.2)
    (subst (λ (j : Journaled). SnapshotStep j.standing (changed c.args.change.now (folded_of j.standing)) (Err c.in_err-write_snapshot.field-0.0)) c.self.view_is
    (write_refused (record { shape = c.self.inside.shape; half = c.self.inside.half; version = c.self.inside.version; generation = c.self.inside.generation; cases = map case_of c.self.inside.entries.entries; next = c.self.inside.next; used = c.self.inside.used }) c.args.change.now c.as_slice.result.now (ap (map case_of) (sym c.as_slice.ensures)) c.in_err-write_snapshot.field-0.0 c.in_ok-measure.measure c.in_ok-measure.ensures
    c.in_err-write_snapshot.ensures.only))

pub returns-in_err-write_snapshot-clause-run : goal.returns-in_err-write_snapshot-clause-run
returns-in_err-write_snapshot-clause-run g c =
    let value = c.as_slice.ensures ∙ sym c.as_slice-2.ensures in
    let found = subst (λ (l : List Entry). MeasuresSnapshot c.self.inside.shape c.self.inside.generation c.args.change.now l (Ok c.in_ok-measure.measure)) value c.in_ok-measure.ensures in
    let t = c.target-target in
    let is : IsWrittenAs c.args.self.now.standing (changed c.args.change.now (folded_of c.args.self.now.standing)) t.result c.args.change.now c.as_slice-2.result.now =
    anew _ c.args.self.now c.args.change.now c.as_slice-2.result.now t.result c.in_ok-measure.measure c.self.view_is (ap (map case_of) (sym c.as_slice-2.ensures)) t.ensures.start (t.ensures.version ∙ c.requires.version) t.ensures.generation
    (t.ensures.next ∙ c.requires.next) found (ap is_known t.ensures.version ∙ c.requires.known) c.requires.live c.requires.labels in
    record {
      moments = λ honest. c.write_snapshot.ensures.any_moment c.args.self.now.standing (changed c.args.change.now (folded_of c.args.self.now.standing)) is honest (c.requires.keeps.holds c.requires.runs honest);
      half = subst (λ (k : ℕ). Fills g.D.Disk c.args.disk.now c.write_snapshot.new.disk k (half_length c.args.self.now.standing.shape)) t.ensures.start
          (subst (λ (n : ℕ). Fills g.D.Disk c.args.disk.now c.write_snapshot.new.disk t.result.start n) (c.half_length-half.ensures ∙ ap (λ (j : Journaled). half_length j.standing.shape) c.self.view_is)
          c.write_snapshot.ensures.fills);
      fills = half_fills g.D.Disk c.args.disk.now c.write_snapshot.new.disk c.args.self.now.standing.shape (other_half c.args.self.now.standing.half) t.result.start t.ensures.start
          (subst (λ (n : ℕ). Fills g.D.Disk c.args.disk.now c.write_snapshot.new.disk t.result.start n) (c.half_length-half.ensures ∙ ap (λ (j : Journaled). half_length j.standing.shape) c.self.view_is)
          c.write_snapshot.ensures.fills);
      doubts = λ honest. c.write_snapshot.ensures.doubts c.args.self.now.standing (changed c.args.change.now (folded_of c.args.self.now.standing)) is honest (c.requires.keeps.holds c.requires.runs honest);
      later = c.write_snapshot.ensures.later;
    }

pub returns-clause-step : goal.returns-clause-step
returns-clause-step g c =
    let t = c.target-target in
    let generation : c.self.inside.generation + 1 ≡ t.result.generation = ap (λ (j : Journaled). j.standing.generation + 1) c.self.view_is ∙ sym t.ensures.generation in
    let now = c.args.self.now.standing in
    subst (λ (n : ℕ). SnapshotStep now (changed c.args.change.now (folded_of now)) (Ok (record { half = c.other_half.result; generation = n; used = c.in_ok-measure.measure.used }))) generation
    (subst (λ (j : Journaled). SnapshotStep j.standing (changed c.args.change.now (folded_of j.standing)) (Ok (record { half = c.other_half.result; generation = c.self.inside.generation + 1; used = c.in_ok-measure.measure.used }))) c.self.view_is
    (write_done (record { shape = c.self.inside.shape; half = c.self.inside.half; version = c.self.inside.version; generation = c.self.inside.generation; cases = map case_of c.self.inside.entries.entries; next = c.self.inside.next; used = c.self.inside.used }) c.args.change.now c.as_slice.result.now (ap (map case_of) (sym c.as_slice.ensures)) _ c.in_ok-measure.measure
    (ap (λ (h : Half). record { half = h; generation = c.self.inside.generation + 1; used = c.in_ok-measure.measure.used }) c.other_half.ensures) c.in_ok-measure.ensures))

pub returns-clause-run : goal.returns-clause-run
returns-clause-run g c =
    let value = c.as_slice.ensures ∙ sym c.as_slice-2.ensures in
    let found = subst (λ (l : List Entry). MeasuresSnapshot c.self.inside.shape c.self.inside.generation c.args.change.now l (Ok c.in_ok-measure.measure)) value c.in_ok-measure.ensures in
    let t = c.target-target in
    let is : IsWrittenAs c.args.self.now.standing (changed c.args.change.now (folded_of c.args.self.now.standing)) t.result c.args.change.now c.as_slice-2.result.now =
    anew _ c.args.self.now c.args.change.now c.as_slice-2.result.now t.result c.in_ok-measure.measure c.self.view_is (ap (map case_of) (sym c.as_slice-2.ensures)) t.ensures.start (t.ensures.version ∙ c.requires.version) t.ensures.generation
    (t.ensures.next ∙ c.requires.next) found (ap is_known t.ensures.version ∙ c.requires.known) c.requires.live c.requires.labels in
    record {
      moments = λ honest. c.write_snapshot.ensures.any_moment c.args.self.now.standing (changed c.args.change.now (folded_of c.args.self.now.standing)) is honest (c.requires.keeps.holds c.requires.runs honest);
      half = subst (λ (k : ℕ). Fills g.D.Disk c.args.disk.now c.write_snapshot.new.disk k (half_length c.args.self.now.standing.shape)) t.ensures.start
          (subst (λ (n : ℕ). Fills g.D.Disk c.args.disk.now c.write_snapshot.new.disk t.result.start n) (c.half_length-half.ensures ∙ ap (λ (j : Journaled). half_length j.standing.shape) c.self.view_is)
          c.write_snapshot.ensures.fills);
      fills = half_fills g.D.Disk c.args.disk.now c.write_snapshot.new.disk c.args.self.now.standing.shape (other_half c.args.self.now.standing.half) t.result.start t.ensures.start
          (subst (λ (n : ℕ). Fills g.D.Disk c.args.disk.now c.write_snapshot.new.disk t.result.start n) (c.half_length-half.ensures ∙ ap (λ (j : Journaled). half_length j.standing.shape) c.self.view_is)
          c.write_snapshot.ensures.fills);
      doubts = λ honest. c.write_snapshot.ensures.doubts c.args.self.now.standing (changed c.args.change.now (folded_of c.args.self.now.standing)) is honest (c.requires.keeps.holds c.requires.runs honest);
      later = c.write_snapshot.ensures.later;
    }

pub returns-clause-holds : goal.returns-clause-holds
returns-clause-holds g c honest =
    let value = c.as_slice.ensures ∙ sym c.as_slice-2.ensures in
    let found = subst (λ (l : List Entry). MeasuresSnapshot c.self.inside.shape c.self.inside.generation c.args.change.now l (Ok c.in_ok-measure.measure)) value c.in_ok-measure.ensures in
    let t = c.target-target in
    let is : IsWrittenAs c.args.self.now.standing (changed c.args.change.now (folded_of c.args.self.now.standing)) t.result c.args.change.now c.as_slice-2.result.now =
    anew _ c.args.self.now c.args.change.now c.as_slice-2.result.now t.result c.in_ok-measure.measure c.self.view_is (ap (map case_of) (sym c.as_slice-2.ensures)) t.ensures.start (t.ensures.version ∙ c.requires.version) t.ensures.generation
    (t.ensures.next ∙ c.requires.next) found (ap is_known t.ensures.version ∙ c.requires.known) c.requires.live c.requires.labels in
    rw c.in_ok-write_snapshot.was at (c.write_snapshot.ensures.taken c.args.self.now.standing (changed c.args.change.now (folded_of c.args.self.now.standing)) is honest (c.requires.keeps.holds c.requires.runs honest))

pub returns-clause-header : goal.returns-clause-header
returns-clause-header g c honest =
    let t = c.target-target in
    let there = rw c.in_ok-write_snapshot.was at (c.write_snapshot.ensures.written honest) in
    let is = header_there (g.D.Disk.seen c.write_snapshot.new.disk) (t.result.start + 1) t.result.version t.result.generation (written_entries c.args.change.now c.as_slice-2.result.now) (written_added c.args.change.now) (spelling (Next t.result.next) ++ 0 ∷ []) there in
    ap (λ (p : ℕ). part (g.D.Disk.seen c.write_snapshot.new.disk) (p + 1) 31) (sym t.ensures.start)
    ∙ is
    ∙ ap (λ (v : ℕ). half_header v t.result.generation) t.ensures.version
    ∙ ap (half_header c.args.version) t.ensures.generation
