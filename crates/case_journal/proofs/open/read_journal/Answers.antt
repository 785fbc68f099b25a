use Rattle.std.proofs.Common.{◌≡◌, ◌+◌, ◌-◌, ◌≤◌, ℕ, List, [], Option, IfSome, option_map, length, map, ap, sym, ◌∙◌, arith, refl, subst}
use Rattle.std.proofs.lemmas.Result.{err_from_is_err_and}
use Rattle.journal_layout.specs.Case.{case_of}
use Rattle.journal_layout.specs.Layout.{half_length}
use Rattle.journal_layout.specs.Folding.{nothing_yet}
use Rattle.journal_layout.specs.Stands.{AreRead, records_area}
use Rattle.journal_records.specs.Said.{said_of, EndsIn, SaysFaulty}
use Rattle.case_journal.proofs.KeptLemmas.{kept_read}
use Rattle.case_journal.proofs.OpenLemmas.{both_shown, faulty_gives, read_gives}
use Rattle.case_journal.proofs.SettleLemmas.{gates_low, low_after}
use Rattle.case_journal.proofs.StandLemmas.{half_ends}
use Rattle.case_journal.proofs.open.read_journal.Goals as goal

pub returns-in_err-read-clause-shows : goal.returns-in_err-read-clause-shows
returns-in_err-read-clause-shows g c b view =
    let one = c.in_ok-front.ensures.shows b view in
    let two = c.in_ok-bytes.ensures.shows one.shown one.view in
    let front = c.in_ok-front.front in
    let shown = both_shown g.D.Disk c.read_front.new.disk c.read_records.new.disk front c.in_ok-bytes.bytes.items b one two c.in_ok-bytes.ensures.long in
    let states = c.in_err-read.ensures.fault in
    let made = err_from_is_err_and c.from_residual-in_err-read.result c.from_residual-in_err-read.ensures.1 in
    rw (made.1, made.2)
    (record {
      shown = two.shown;
      view = two.view;
      gives = faulty_gives g.D.Disk front c.in_ok-bytes.bytes.items two.shown (c.half_start-at.result + 32) c.in_err-read.field-0.0 shown
          (ap (λ (p : ℕ). p + 32) c.half_start-at.ensures)
          (subst (λ (x : List ℕ). SaysFaulty front.shape.data_blocks front.version (c.half_start-at.result + 32) x c.in_err-read.field-0.0) c.deref.ensures.value states);
    })

pub returns-clause-shows : goal.returns-clause-shows
returns-clause-shows g c b view =
    let one = c.in_ok-front.ensures.shows b view in
    let two = c.in_ok-bytes.ensures.shows one.shown one.view in
    let front = c.in_ok-front.front in
    let shown = both_shown g.D.Disk c.read_front.new.disk c.read_records.new.disk front c.in_ok-bytes.bytes.items b one two c.in_ok-bytes.ensures.long in
    let read = c.in_ok-read.ensures.read in
    let bytes = c.deref.ensures.value in
    rw c.new.ensures
    (record {
      shown = two.shown;
      view = two.view;
      gives = read_gives g.D.Disk front c.in_ok-bytes.bytes.items two.shown (map case_of c.in_ok-read.read.entries.items) c.in_ok-read.read.next c.in_ok-read.read.size (32 + c.in_ok-read.read.size) shown
          (subst (λ (x : List ℕ). AreRead front.shape.data_blocks x (nothing_yet front.version) (said_of front.version c.in_ok-read.read) c.in_ok-read.read.size) bytes read) refl;
    })

pub invariant_of-result : goal.invariant_of-result
invariant_of-result g c =
    let front = c.in_ok-front.front in
    let read = c.in_ok-read.read in
    let limits = c.in_ok-front.ensures.shape.0 in
    let some = limits.some_half in
    let bytes = ap length c.deref.ensures.value in
    rw c.new.ensures
    (kept_read front.shape (map case_of read.entries.items) front.version read.next read.size c.deref.result.now limits c.in_ok-front.ensures.known c.in_ok-read.ensures.read
    (omega (arith, c.in_ok-read.ensures.bounds.2, bytes, c.in_ok-bytes.ensures.long, some)))

pub returns-clause-last : goal.returns-clause-last
returns-clause-last g c b view =
    let one = c.in_ok-front.ensures.shows b view in
    let two = c.in_ok-bytes.ensures.shows one.shown one.view in
    let front = c.in_ok-front.front in
    let read = c.in_ok-read.read in
    let shown = both_shown g.D.Disk c.read_front.new.disk c.read_records.new.disk front c.in_ok-bytes.bytes.items b one two c.in_ok-bytes.ensures.long in
    let behind : 32 + read.size - 32 ≡ read.size = omega arith in
    record {
      shown = two.shown;
      view = two.view;
      last_gate = record {
        inside = read.last;
        ends = subst (λ (n : ℕ). EndsIn front.shape.data_blocks front.version (records_area two.shown front.shape front.half) read.last n) (sym behind)
            (subst (λ (x : List ℕ). EndsIn front.shape.data_blocks front.version x read.last read.size) (c.deref.ensures.value ∙ sym shown.area) c.in_ok-read.ensures.last);
        place = c.place_after.ensures ∙ ap (λ (p : ℕ). option_map (λ (n : ℕ). p + 32 + n) read.last) c.half_start-at.ensures;
      };
    }

pub returns-clause-gates : goal.returns-clause-gates
returns-clause-gates g c =
    let front = c.in_ok-front.front in
    let read = c.in_ok-read.read in
    let limits = c.in_ok-front.ensures.shape.0 in
    let some = limits.some_half in
    let size = c.read_records.ensures.quiet.size ∙ c.in_ok-front.ensures.shape.1 in
    let bytes = ap length c.deref.ensures.value in
    let start = c.half_start-at.ensures in
    let ends = half_ends front.shape front.half in
    let used : 32 + read.size + 1 ≤ half_length front.shape = omega (arith, c.in_ok-read.ensures.bounds.2, bytes, c.in_ok-bytes.ensures.long, some) in
    gates_low (record { shape = front.shape; half = front.half; version = front.version; generation = front.generation; cases = []; next = read.next; used = 32 + read.size })
    c.place_after.result (g.D.Disk.size c.read_records.new.disk) limits size used
    (subst (λ (last : Option ℕ). IfSome last (λ (p : ℕ). p + 1 ≤ g.D.Disk.size c.read_records.new.disk)) (sym c.place_after.ensures)
    (low_after (c.half_start-at.result + 32) read.size (g.D.Disk.size c.read_records.new.disk) read.last (omega (arith, start, ends, used, size)) c.in_ok-read.ensures.bounds.3))
