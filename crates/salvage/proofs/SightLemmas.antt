-- Why the cases of an archive were not found.
use Rattle.std.proofs.Common.{◌≡◌, ◌≢◌, inl, inr, ℕ, List, refl, ap, ◌∙◌, subst, Option, None, Some, Result, Ok, Err}
use Rattle.case_journal.specs.Viewing.{Gives}
use Rattle.journal_layout.specs.ReadingLaws.{stands_once, stands_or_refused}
use Rattle.journal_layout.specs.Standing.{Standing}
use Rattle.journal_layout.specs.Stands.{Stands}
use Rattle.journal_layout.specs.declared.faults.OpenFault.{OpenFault}
use Rattle.journal_layout.specs.declared.faults.OpenFault.TheVariants.{Disk, OutOfMemory, NotAnArchive, UnknownVersion, Damaged}
use Rattle.salvage.specs.Finding.{IsShort, Opens, SeesArchive}
use Rattle.salvage.specs.Readings.{fault_by}
use Rattle.salvage.specs.Showing.{shown}
use Rattle.salvage.specs.Shut.{shut_gate}
use Rattle.salvage.specs.declared.finding.Sight.{Sight}
use Rattle.salvage.specs.declared.shown.Patch.{Patch}

-- what opens is refused for want of the disk or of memory alone
pub opens_short : (b : List ℕ) (patch : Option Patch) → Opens b patch → (fault : OpenFault) → Gives (Err fault) (shown patch b) → IsShort fault
opens_short b patch opens Disk gives = inl refl
opens_short b patch opens OutOfMemory gives = inr refl
opens_short b patch opens NotAnArchive gives = absurd (stands_or_refused (shown patch b) opens.0 NotAnArchive opens.1 gives)
opens_short b patch opens (UnknownVersion v) gives = absurd (stands_or_refused (shown patch b) opens.0 (UnknownVersion v) opens.1 gives)
opens_short b patch opens (Damaged at which) gives = absurd (stands_or_refused (shown patch b) opens.0 (Damaged at which) opens.1 gives)

-- where a record is read on after, something is at fault
pub gate_sound : {X : Type 0} (fault : Option OpenFault) (shut : Option ℕ) (o : Option X) (x : X) → (fault ≡ None → shut ≡ None → o ≡ None) → o ≡ Some x → fault_by fault shut ≡ None → ⊥
gate_sound fault None o x is some sound = (let none = is sound refl in cc)
gate_sound fault (Some g) o x is some sound = cc

pub same_ok : (o p : Option ℕ) → ◌≡◌ {A = Result (Option ℕ) OpenFault} (Ok o) (Ok p) → o ≡ p
same_ok o p is = cc

module _ (b : List ℕ) (sight : Sight) (u : Standing) (sees : SeesArchive b sight) (first : Stands (shown sight.patch b) u) where
  first_stands : sight.fault ≡ None → Stands b u
  first_stands none = subst (λ (p : Option Patch). Stands (shown p b) u) (sees.faultless none) first

  -- the gate that is found is that of what stands
  pub shut_found : (shut : Option ℕ) → (sight.fault ≡ None → Stands b u → shut ≡ shut_gate b u) → (s : Standing) → Stands b s → shut ≡ shut_gate b s
  shut_found shut finds s stands =
      let none = (sees.sound s stands).0 in
      let there = first_stands none in
      finds none there ∙ ap (shut_gate b) (stands_once b u s there stands)

  -- why it was not looked for
  pub shut_short : (fault : OpenFault) → (sight.fault ≡ None → Stands b u → IsShort fault) → (sight.fault ≢ None → ◌≡◌ {A = Result (Option ℕ) OpenFault} (Err fault) (Ok None)) → IsShort fault
  shut_short fault finds refused = by_fault sight.fault refl
    where
      by_fault : (o : Option OpenFault) → sight.fault ≡ o → IsShort fault
      by_fault None is = finds is (first_stands is)
      by_fault (Some f) is = let not : sight.fault ≢ None = λ none. (cc) in let no = refused not in absurd (cc)
