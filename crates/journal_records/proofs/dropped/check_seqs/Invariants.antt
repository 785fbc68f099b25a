use Rattle.std.proofs.Common.{◌≡◌, ◌+◌, ◌-◌, ◌*◌, drop}
use Rattle.journal_layout.specs.Reading.{seqs_at, drop_seqs}
use Rattle.journal_layout.specs.Checks.{first_bad_seq}
use Rattle.journal_records.specs.Live.{cases_of}
use Rattle.journal_records.proofs.dropped.check_seqs.Given as goal

abbrev pub invariant-loop-index : goal.invariant-loop-index
invariant-loop-index l =
    first_bad_seq (cases_of l.live.entries) l.last (12 + 4 * l.index) (seqs_at (drop (12 + 4 * l.index) l.rest) (l.index-end - l.index))
    ≡ first_bad_seq (cases_of l.live.entries) 0 12 (drop_seqs l.rest)
