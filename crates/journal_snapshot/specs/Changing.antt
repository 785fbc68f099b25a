-- The effect of a change on the cases of a journal.
use Rattle.std.specs.Prelude.{ℕ, ◌+◌, Bool, List, [], ◌∷◌, if◌then◌else◌, ◌==◌, Option, Some, None}
use Rattle.std.specs.List.{flat_map}
use Rattle.journal_layout.specs.Case.{Case, case_of, numbered}
use Rattle.journal_layout.specs.Record.{Store, Drop, Pin, Label}
use Rattle.journal_layout.specs.Folding.{Folded, after, is_among}
use Rattle.journal_layout.specs.Soundness.{Rise}
use Rattle.journal_layout.specs.Rewriting.{in_version_two}
use Rattle.journal_snapshot.specs.declared.change.Change.{Change}
use Rattle.journal_snapshot.specs.declared.change.Change.TheVariants as change

-- the cases and the next number after it
abbrev pub changed : Change → Folded → Folded
changed change.Nothing f = f
changed (change.Store seq e) f = after (Store (numbered seq (case_of e.now))) f
changed (change.Drop seqs) f = after (Drop seqs.now) f
changed (change.Pin seq flag) f = after (Pin seq flag) f
changed (change.Label seq label) f = after (Label seq label.now.items) f
changed change.Upgrade f = in_version_two f

-- the numbers of those that end rise
abbrev pub IsOrdered : Change → Type 0
IsOrdered (change.Drop seqs) = Rise 0 seqs.now
IsOrdered _ = Unit {0}

-- whether a case is pinned after it, if it stays
abbrev pub flag_after : Change → Case → Option Bool
flag_after change.Nothing c = Some c.pinned
flag_after (change.Store seq e) c = Some c.pinned
flag_after (change.Drop seqs) c = if is_among seqs.now c.seq then None else Some c.pinned
flag_after (change.Pin seq flag) c = Some (if c.seq == seq then flag else c.pinned)
flag_after (change.Label seq label) c = Some c.pinned
flag_after change.Upgrade c = Some c.pinned

-- the label of a case after it, if it stays
abbrev pub label_after : Change → Case → List ℕ
label_after (change.Label seq label) c = if c.seq == seq then label.now.items else c.label
label_after _ c = c.label

-- the case with this flag, if it has one, and this label
abbrev pub kept_as : Case → Option Bool → List ℕ → List Case
kept_as c None text = []
kept_as c (Some flag) text = record c { pinned = flag; label = text } ∷ []

-- those of these cases that stay
abbrev pub staying : Change → List Case → List Case
staying ch cases = flat_map (λ (c : Case). kept_as c (flag_after ch c) (label_after ch c)) cases

-- the case that comes
abbrev pub added : Change → List Case
added (change.Store seq e) = numbered seq (case_of e.now) ∷ []
added _ = []

-- the number of the next case
abbrev pub next_after_change : Change → ℕ → ℕ
next_after_change (change.Store seq e) next = seq + 1
next_after_change _ next = next
