use Rattle.std.proofs.Common.{◌≡◌, inl, inr, false, ap, sym, ◌∙◌, subst}
use Rattle.std.proofs.lemmas.Bool.{false≢true}
use Rattle.std.specs.BTreeSet.{contains, contains_by}
use Rattle.std.specs.Ordering.{nat_cmp}
use Rattle.extents.specs.RunLaws.{blocks_of_runs}
use Rattle.extents.specs.Runs.{blocks_of}
use Rattle.journal_layout.specs.Case.{Case, case_of}
use Rattle.journal_records.specs.Named.{has_name, key_cmp}
use Rattle.salvage.specs.Contests.{AreUsed, Contests, Knows}
use Rattle.salvage.specs.declared.doubts.Doubts.{Doubts}
use Rattle.salvage.proofs.doubts.Doubts.contest.Goals as goal

-- a case of which neither the number nor the name nor a block is known is contested by none that is
uncontested : (d : Doubts) (one other : Case) → contains nat_cmp d.numbers other.seq ≡ false → has_name d.names other.origin.name ≡ false → AreUsed d.blocks.used.items false other.blocks
    → Knows d one → Contests one other → ⊥
uncontested d one other number name free knows (inl same) = absurd (false≢true (sym number ∙ ap (contains nat_cmp d.numbers) (sym same) ∙ knows.number))
uncontested d one other number name free knows (inr (inl same)) = absurd (false≢true (sym name ∙ ap (has_name d.names) (sym same) ∙ knows.name))
uncontested d one other number name free knows (inr (inr (block, has, has2))) = absurd (false≢true (sym (free block has2) ∙ knows.blocks block has))

pub returns : goal.returns
returns c = λ none one knows contests.
    uncontested c.args.self.now one (case_of c.args.entry.now) (sym c.contains.ensures ∙ c.if-contains.false) (ap (λ k. contains_by (key_cmp k) c.args.self.now.names) (sym c.name_key.ensures) ∙ sym c.contains-2.ensures ∙ c.if-contains-2.false)
    (subst (AreUsed c.args.self.now.blocks.used.items false) (ap blocks_of c.runs.ensures.shortest ∙ blocks_of_runs c.args.entry.now.runs) (c.has_any.ensures none)) knows contests
