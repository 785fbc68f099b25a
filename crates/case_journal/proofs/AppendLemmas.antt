-- What the append of a case makes of a journal, and what refuses it.
use Rattle.std.proofs.Common.{◌≡◌, inl, inr, ℕ, ◌+◌, ◌^◌, ◌<◌, ◌∙◌, false, nat_lt, Bor, List, [], map, length, ap, ⊎_elim, Ok, Err, arith}
use Rattle.std.proofs.lemmas.Bool.{ltb-false}
use Rattle.std.proofs.lemmas.List.{append-nil}
use Rattle.journal_layout.specs.declared.entry.Entry.{Entry}
use Rattle.journal_layout.specs.Case.{case_of, numbered}
use Rattle.journal_layout.specs.Layout.{half_length}
use Rattle.journal_layout.specs.Record.{Record, Store, record_size, spelling}
use Rattle.journal_layout.specs.SpellLaws.{length-spelling}
use Rattle.journal_layout.specs.Standing.{Standing, folded_of, store_of}
use Rattle.journal_layout.specs.Folding.{after}
use Rattle.journal_layout.specs.Rewriting.{snapshot_size}
use Rattle.journal_snapshot.specs.declared.change.Change.TheVariants as change
use Rattle.journal_snapshot.specs.declared.measure.Measure.{Measure}
use Rattle.journal_snapshot.specs.ChangeLaws.{snapshot_bytes_are}
use Rattle.journal_snapshot.specs.Measuring.{snapshot_bytes}
use Rattle.journal_snapshot.specs.Writing.{written_case, written_added}
use Rattle.case_journal.specs.declared.faults.JournalFault.{JournalFault}
use Rattle.case_journal.specs.declared.faults.JournalFault.TheVariants.{Stopped, JournalFull, NumbersSpent, OutOfMemory, Disk, OldVersion}
use Rattle.case_journal.specs.Append.{RecordFits}
use Rattle.case_journal.specs.Compacting.{MeasuresSnapshot}
use Rattle.case_journal.specs.Putting.{DecidesFit}

-- The room of a case, whose number takes no part in it.
module _ (s : Standing) (es : List Entry) (b : Bor Entry) (same : s.cases ≡ map case_of es) (none : b.now.label.items ≡ []) where
  abbrev stored : Record
  stored = store_of s (case_of b.now)

  long : (n : ℕ) → length (written_added (change.Store n b)) ≡ record_size stored
  long n =
      ap (λ (l : List ℕ). length (written_case n b.now b.now.pinned l)) none
      ∙ ap length (append-nil (spelling (Store (numbered n (case_of b.now)))))
      ∙ length-spelling (Store (numbered n (case_of b.now)))

  size_is : snapshot_bytes (change.Store 0 b) es ≡ snapshot_size (after stored (folded_of s))
  size_is =
      let alike : snapshot_bytes (change.Store 0 b) es ≡ snapshot_bytes (change.Store s.next b) es = omega (arith, long 0, long s.next) in
      alike ∙ snapshot_bytes_are (change.Store s.next b) es (folded_of s) same

  pub overflow_found : (size : ℕ) (f : JournalFault) → size ≡ record_size stored → nat_lt (s.used + size) (half_length s.shape) ≡ false → MeasuresSnapshot s.shape s.generation (change.Store 0 b) es (Err f) → DecidesFit s stored (Err f)
  overflow_found size JournalFull is unfit found =
      let low = ltb-false (s.used + size) (half_length s.shape) unfit in
      (omega (arith, low, is), ⊎_elim (λ short. inl (omega (arith, short, size_is))) (λ last. inr last) found)
  overflow_found size Stopped is unfit found = absurd found
  overflow_found size NumbersSpent is unfit found = absurd found
  overflow_found size OutOfMemory is unfit found = absurd found
  overflow_found size Disk is unfit found = absurd found
  overflow_found size OldVersion is unfit found = absurd found

  pub measure_snapshot_is : (m : Measure) → MeasuresSnapshot s.shape s.generation (change.Store 0 b) es (Ok m) → RecordFits s stored
  measure_snapshot_is m found = inr (omega (arith, found.0.0, found.0.1, size_is), found.1)
