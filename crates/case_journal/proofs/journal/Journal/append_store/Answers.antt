use Rattle.std.proofs.Common.{◌≡◌, ◌++◌, ◌∷◌, [], ◌^◌, ◌<◌, List, map, ap, ◌∙◌, sym, subst, refl, arith, false}
use Rattle.std.proofs.lemmas.List.{map-append}
use Rattle.journal_layout.specs.declared.entry.Entry.{Entry}
use Rattle.journal_layout.specs.Case.{case_of, numbered}
use Rattle.journal_layout.specs.Record.{Store}
use Rattle.journal_layout.specs.Standing.{Standing, store_of}
use Rattle.journal_layout.specs.Soundness.{IsStorable}
use Rattle.case_journal.specs.Journaled.{Journaled}
use Rattle.case_journal.proofs.KeptLemmas.{kept_stored}
use Rattle.case_journal.proofs.PutLemmas.{nothing_runs, place_lies, refused_keeps}
use Rattle.case_journal.specs.Keeping.{Keeps}
use Rattle.case_journal.specs.Doubting.{DoubtsGates}
use Rattle.case_journal.specs.Compacting.{noted}
use Rattle.case_journal.proofs.journal.Journal.append_store.Goals as goal

pub check_fit-requires-clause-size : goal.check_fit-requires-clause-size
check_fit-requires-clause-size g c = c.store_size-size.ensures c.args.self.now.standing.next

pub returns-in-Err-clause-any_moment : goal.returns-in-Err-clause-any_moment
returns-in-Err-clause-any_moment g c honest runs =
    (nothing_runs g.D.Disk c.args.disk.now c.args.self.now (store_of c.args.self.now.standing (case_of c.args.entry)) (g.met.D.Disk.only_now c.args.disk.now) c.requires.keeps runs).moments honest

pub returns-then-self-from-clause-any_moment : goal.returns-then-self-from-clause-any_moment
returns-then-self-from-clause-any_moment g c honest runs =
    (nothing_runs g.D.Disk c.args.disk.now c.args.self.now (store_of c.args.self.now.standing (case_of c.args.entry)) (g.met.D.Disk.only_now c.args.disk.now) c.requires.keeps runs).moments honest

pub returns-in_default-reserve-clause-any_moment : goal.returns-in_default-reserve-clause-any_moment
returns-in_default-reserve-clause-any_moment g c honest runs =
    (nothing_runs g.D.Disk c.args.disk.now c.args.self.now (store_of c.args.self.now.standing (case_of c.args.entry)) (g.met.D.Disk.only_now c.args.disk.now) c.requires.keeps runs).moments honest

pub returns-in-Err-clause-written : goal.returns-in-Err-clause-written
returns-in-Err-clause-written g c runs =
    (nothing_runs g.D.Disk c.args.disk.now c.args.self.now (store_of c.args.self.now.standing (case_of c.args.entry)) (g.met.D.Disk.only_now c.args.disk.now) c.requires.keeps runs).half

pub returns-then-self-from-clause-written : goal.returns-then-self-from-clause-written
returns-then-self-from-clause-written g c runs =
    (nothing_runs g.D.Disk c.args.disk.now c.args.self.now (store_of c.args.self.now.standing (case_of c.args.entry)) (g.met.D.Disk.only_now c.args.disk.now) c.requires.keeps runs).half

pub returns-in_default-reserve-clause-written : goal.returns-in_default-reserve-clause-written
returns-in_default-reserve-clause-written g c runs =
    (nothing_runs g.D.Disk c.args.disk.now c.args.self.now (store_of c.args.self.now.standing (case_of c.args.entry)) (g.met.D.Disk.only_now c.args.disk.now) c.requires.keeps runs).half

pub put_store-requires-clause-size : goal.put_store-requires-clause-size
put_store-requires-clause-size g c = c.store_size-size.ensures c.self.inside.next

pub invariant_of-self-in-Ok-put_store : goal.invariant_of-self-in-Ok-put_store
invariant_of-self-in-Ok-put_store g c =
    let j = c.self.inside in
    let e : Entry = record c.args.entry { seq = j.next } in
    let case = numbered j.next (case_of c.args.entry) in
    let place = c.in-Ok-put_store.place in
    let raw : Standing =
    record { shape = j.shape; half = j.half; version = j.version; generation = j.generation; cases = map case_of c.reserve.new.self.entries; next = j.next; used = j.used } in
    let step = c.in-Ok-put_store.ensures.step in
    let lies = place_lies raw (Store case) place c.self.invariant.header step.0 step.1 in
    let fit = c.requires.storable in
    let storable : IsStorable c.args.self.now.standing.shape.data_blocks c.args.self.now.standing.cases case =
    record { origin = fit.origin; new_name = fit.new_name; bytes = fit.bytes; enough = fit.enough; spare = fit.spare; no_label = fit.no_label } in
    let left : j.next < 2 ^ 32 = omega arith in
    let pushed : c.push.new.self.entries ≡ j.entries.entries ++ e ∷ [] = c.push.ensures ∙ ap (λ (l : List Entry). l ++ e ∷ []) c.reserve.ensures.entries in
    kept_stored j.shape j.version (map case_of j.entries.entries) j.next j.used c.self.invariant case (map case_of c.push.new.self.entries) place.used lies.0 lies.1 refl
    (omega arith, left, subst (λ (s : Journaled). IsStorable s.standing.shape.data_blocks s.standing.cases case) (sym c.self.view_is) storable) (ap (map case_of) pushed ∙ map-append case_of j.entries.entries (e ∷ []))

pub returns-in-Err-put_store-clause-keeps : goal.returns-in-Err-put_store-clause-keeps
returns-in-Err-put_store-clause-keeps g c =
    let runs : c.args.self.now.stopped ≡ false = ap (λ (x : Journaled). x.stopped) (sym c.self.view_is) ∙ c.if-self.false in
    let run = c.put_store.ensures.run in
    let j = c.self.inside in
    let of : List Entry → Journaled = λ l. record {
      standing = record { shape = j.shape; half = j.half; version = j.version; generation = j.generation; cases = map case_of l; next = j.next; used = j.used };
      stopped = j.stopped;
    } in
    subst (Keeps g.D.Disk c.put_store.new.disk) (sym (c.note_fault.ensures ∙ ap (λ (x : Journaled). noted c.in-Err-put_store.fault x) (ap of c.reserve.ensures.entries ∙ c.self.view_is)))
    (refused_keeps c.args.self.now runs g.D.Disk c.args.disk.now c.put_store.new.disk c.in-Err-put_store.fault c.requires.keeps run.fills.size run.fills.honesty (λ honest. subst (λ (x : Journaled). DoubtsGates g.D.Disk c.put_store.new.disk x.standing.shape) c.self.view_is (run.doubts honest)) c.in-Err-put_store.ensures.untouched)
