-- What is known of the records behind a fault.
use Rattle.std.proofs.Common.{◌≡◌, ◌⊎◌, inl, inr, true, ℕ, List, subst, sym}
use Rattle.std.specs.BTreeSet.{contains}
use Rattle.std.specs.List.{Contains}
use Rattle.std.specs.Ordering.{nat_cmp}
use Rattle.journal_layout.specs.Case.{Case, Origin, case_of}
use Rattle.journal_layout.specs.declared.shape.Shape.{Shape}
use Rattle.journal_records.specs.Named.{has_name}
use Rattle.salvage.specs.Alone.{IsPast, IsWithinOther, between}
use Rattle.salvage.specs.Cases.{IsSameCase}
use Rattle.salvage.specs.Contests.{AreUsed, IsBehind, Knows, OfEachBehind, taken_end, taken_start}
use Rattle.salvage.specs.Doubting.{taken_half}
use Rattle.salvage.specs.Reads.{AreHalvesRead, IsTaken}
use Rattle.salvage.specs.declared.doubts.Doubts.{Doubts}
use Rattle.salvage.specs.declared.records.Dropped.{Dropped}
use Rattle.salvage.specs.declared.records.Read.{Read}

-- the same case is known
same_known : (d : Doubts) (c one : Case) → IsSameCase c one → Knows d c → Knows d one
same_known d c one same knows = record {
  number = subst (λ (n : ℕ). contains nat_cmp d.numbers n ≡ true) same.seq knows.number;
  name = subst (λ (o : Origin). has_name d.names o.name ≡ true) same.image.origin knows.name;
  blocks = subst (AreUsed d.blocks.used.items true) same.image.blocks knows.blocks;
}

-- if the case of each read behind the fault is known, so is that of each record
pub known_behind : (shape : Shape) (bytes : List ℕ) (gate : ℕ) (d : Doubts) (reads : List Read) (drops : List Dropped)
    → ((r : Read) → Contains reads r → IsBehind shape gate r.place.start → Knows d (case_of r.entry)) → AreHalvesRead shape bytes reads drops → OfEachBehind shape bytes gate (Knows d)
known_behind shape bytes gate d reads drops known all opened k place size c is behind stores = heard (all (taken_half shape gate) opened k place is behind.before)
  where
    heard : IsTaken shape.data_blocks (between bytes place (taken_end shape gate)) place reads drops
        ⊎ IsWithinOther shape.data_blocks bytes (taken_end shape gate) place
        ⊎ IsPast shape.data_blocks bytes (taken_start shape gate) (taken_end shape gate) place
        → Knows d c ⊎ IsWithinOther shape.data_blocks bytes (taken_end shape gate) place ⊎ IsPast shape.data_blocks bytes (taken_start shape gate) (taken_end shape gate) place
    heard (inl taken) =
        let at = taken.case size c stores in
        inl (same_known d (case_of at.0.entry) c at.3 (known at.0 at.1 (subst (IsBehind shape gate) (sym at.2) behind)))
    heard (inr other) = inr other
