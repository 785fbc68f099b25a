-- What lets an archive open, by the fault of its opening.
use Rattle.std.proofs.Common.{◌≡◌, ◌⊎◌, inl, inr, ℕ, ◌<◌, ◌≤◌, true, List, length, refl, sym, ap, subst, arith, Option, None, Some, Result, Ok, Err}
use Rattle.std.proofs.lemmas.Bool.{cases_lt}
use Rattle.case_journal.specs.Viewing.{Gives}
use Rattle.journal_layout.specs.ReadingLaws.{refused_once, stands_or_refused}
use Rattle.journal_layout.specs.Standing.{Standing}
use Rattle.journal_layout.specs.Stands.{IsRefused, Stands}
use Rattle.journal_layout.specs.declared.faults.Field.{Field}
use Rattle.journal_layout.specs.declared.faults.OpenFault.{OpenFault}
use Rattle.journal_layout.specs.declared.faults.OpenFault.TheVariants.{Disk, OutOfMemory, NotAnArchive, UnknownVersion, Damaged}
use Rattle.salvage.specs.Finding.{FindsPatch, SeesArchive, HasNoGate, IsBehind, IsHalfFound, IsLastGate, IsRecordFound, StandsUntil, closes, gate_of, is_of_front}
use Rattle.salvage.specs.GateLaws.{gate_within, until_kind, until_refused}
use Rattle.salvage.specs.declared.shown.Patch.{Patch}
use Rattle.salvage.proofs.FindLemmas.{found_last}

-- a gate that is found
pub record_found : (b : List ℕ) (fault : OpenFault) (at bound g : ℕ) (o : Option ℕ) → o ≡ Some g → ((place : ℕ) → place ≤ at → place < length b → place ≤ bound) → g < length b
    → IsLastGate b bound (Ok o) → IsRecordFound b at fault (Ok (record { at = g; byte = 0 }))
record_found b fault at bound g o is below within last = of (subst (λ (x : Option ℕ). IsLastGate b bound (Ok x)) is last)
  where
    of : IsLastGate b bound (Ok (Some g)) → IsRecordFound b at fault (Ok (record { at = g; byte = 0 }))
    of found = (
      (found.0.0, found.0.1),
      λ s why until low.
          ap closes (sym (found_last b bound g within found.0 found.1 s why until (below (gate_of s) low (gate_within b s why until)))),
    )

pub record_none : (b : List ℕ) (fault : OpenFault) (at bound : ℕ) (o : Option ℕ) → o ≡ None → ((place : ℕ) → place ≤ at → place < length b → place ≤ bound)
    → IsLastGate b bound (Ok o) → IsRecordFound b at fault (Err fault)
record_none b fault at bound o is below last = of (subst (λ (x : Option ℕ). IsLastGate b bound (Ok x)) is last)
  where
    of : IsLastGate b bound (Ok None) → IsRecordFound b at fault (Err fault)
    of none = inr (refl, λ s why until. behind (gate_of s) (none s why until) (λ low. below (gate_of s) low (gate_within b s why until)))
      where
        behind : (place : ℕ) → bound < place → (place ≤ at → place ≤ bound) → at < place
        behind place high low = by_cases (cases_lt at place)
          where
            by_cases : (at < place) ⊎ (place ≤ at) → at < place
            by_cases (inl past) = past
            by_cases (inr before) = absurd (omega (arith, low before, high))

-- the fault of records that stand until a fault
same_fault : (b : List ℕ) (fault : OpenFault) → IsRefused b fault → (s : Standing) (why : OpenFault) → StandsUntil b s why → (why ≡ fault) × IsBehind (gate_of s) fault
same_fault b fault refused s why until =
    let same : why ≡ fault = refused_once b why fault (until_refused b s why until) refused in
    (same, subst (IsBehind (gate_of s)) same (until_kind b s why until))

front_alone : (b : List ℕ) (at : ℕ) (which : Field) → is_of_front which ≡ true → IsRefused b (Damaged at which) → HasNoGate b
front_alone b at which is refused s why until = let behind = (same_fault b (Damaged at which) refused s why until).1.1 in cc

version_alone : (b : List ℕ) (v : ℕ) → IsRefused b (UnknownVersion v) → HasNoGate b
version_alone b v refused s why until = (same_fault b (UnknownVersion v) refused s why until).1

archive_alone : (b : List ℕ) → IsRefused b NotAnArchive → HasNoGate b
archive_alone b refused s why until = (same_fault b NotAnArchive refused s why until).1

half_finds : (b : List ℕ) (fault : OpenFault) (r : Result Patch OpenFault) → IsRefused b fault → HasNoGate b → IsHalfFound b fault r → FindsPatch b fault r
half_finds b fault (Ok patch) refused none found = (found, refused, λ s why until. absurd (none s why until))
half_finds b fault (Err f) refused none (inl e) = inr (e, none)
half_finds b fault (Err f) refused none (inr short) = inl short

-- the same of the fault that it is
abbrev of_fault : (b : List ℕ) (fault that : OpenFault) (r : Result Patch OpenFault) → fault ≡ that → Gives (Err fault) b → (Gives (Err that) b → FindsPatch b that r) → FindsPatch b fault r
of_fault b fault that r is gives then =
    subst (λ (f : OpenFault). FindsPatch b f r) (sym is) (then (subst (λ (f : OpenFault). Gives (Err f) b) is gives))

pub front_finds : (b : List ℕ) (fault : OpenFault) (at : ℕ) (which : Field) (r : Result Patch OpenFault) → fault ≡ Damaged at which → is_of_front which ≡ true
    → Gives (Err fault) b → IsHalfFound b (Damaged at which) r → FindsPatch b fault r
front_finds b fault at which r is front gives found =
    of_fault b fault (Damaged at which) r is gives (λ refused. half_finds b (Damaged at which) r refused (front_alone b at which front refused) found)

pub version_finds : (b : List ℕ) (fault : OpenFault) (v : ℕ) (r : Result Patch OpenFault) → fault ≡ UnknownVersion v → Gives (Err fault) b
    → IsHalfFound b fault r → FindsPatch b fault r
version_finds b fault v r is gives found =
    of_fault b fault (UnknownVersion v) r is gives
    (λ refused. half_finds b (UnknownVersion v) r refused (version_alone b v refused) (subst (λ (f : OpenFault). IsHalfFound b f r) is found))

record_told : (b : List ℕ) (at : ℕ) (which : Field) (r : Result Patch OpenFault) → IsRefused b (Damaged at which) → IsRecordFound b at (Damaged at which) r → FindsPatch b (Damaged at which) r
record_told b at which (Ok patch) refused found =
    (found.0, refused, λ s why until. let it = same_fault b (Damaged at which) refused s why until in (it.0, found.1 s why until it.1.0))
record_told b at which (Err f) refused (inl short) = inl short
record_told b at which (Err f) refused (inr none) =
    inr (none.0, λ s why until. let it = same_fault b (Damaged at which) refused s why until in omega (arith, it.1.0, none.1 s why until))

pub record_finds : (b : List ℕ) (fault : OpenFault) (at : ℕ) (which : Field) (r : Result Patch OpenFault) → fault ≡ Damaged at which
    → Gives (Err fault) b → IsRecordFound b at (Damaged at which) r → FindsPatch b fault r
record_finds b fault at which r is gives found = of_fault b fault (Damaged at which) r is gives (λ refused. record_told b at which r refused found)

pub default_finds : (b : List ℕ) (fault : OpenFault) → ((at : ℕ) (which : Field) → fault ≡ Damaged at which → ⊥) → Gives (Err fault) b → FindsPatch b fault (Err fault)
default_finds b Disk other gives = inl (inl refl)
default_finds b OutOfMemory other gives = inl (inr refl)
default_finds b NotAnArchive other gives = inr (refl, archive_alone b gives)
default_finds b (UnknownVersion v) other gives = inr (refl, version_alone b v gives)
default_finds b (Damaged at which) other gives = absurd (other at which refl)

-- a sound archive
pub sound_sees : (b : List ℕ) (u : Standing) → Stands b u → SeesArchive b (record { fault = None; patch = None })
sound_sees b u stands = record {
  opens = (u, stands);
  sound = λ s there. (refl, refl);
  faultless = λ none. refl;
  until = λ s fault until. absurd (stands_or_refused b u fault stands (until_refused b s fault until));
}

-- and one that is not
pub faulty_sees : (b : List ℕ) (fault : OpenFault) (patch : Patch) → FindsPatch b fault (Ok patch) → SeesArchive b (record { fault = Some fault; patch = Some patch })
faulty_sees b fault patch found = record {
  opens = found.0;
  sound = λ s there. absurd (stands_or_refused b s fault there found.1);
  faultless = λ none. absurd (cc);
  until = λ s why until. let it = found.2 s why until in (ap (λ (f : OpenFault). Some f) (sym it.0), it.1);
}
