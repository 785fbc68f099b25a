-- Three records byte by byte, as a disk has them: their spelling, and that they
-- are read back as those records. The snapshot of the first one's case follows.
use Rattle.std.proofs.Common.{◌≡◌, ℕ, List, [], ◌∷◌, ◌++◌, refl, false, None, Some}
use Rattle.disk_model.specs.Places.{part}
use Rattle.journal_layout.specs.declared.entry.Kind.TheVariants.{Exec}
use Rattle.journal_layout.specs.declared.faults.Field.TheVariants as named
use Rattle.journal_layout.specs.declared.faults.OpenFault.TheVariants.{Damaged}
use Rattle.journal_layout.specs.Layout.{number_bytes}
use Rattle.journal_layout.specs.Case.{Case}
use Rattle.journal_layout.specs.Record.{Store, Next, Label, spelling, behind_gate, plain, body, store_facts, run_bytes}
use Rattle.journal_layout.specs.Reading.{record_at}
use Rattle.journal_layout.specs.Folding.{Folded, nothing_yet}
use Rattle.journal_layout.specs.Checks.{record_fault}
use Rattle.journal_layout.specs.Rewriting.{snapshot, snapshot_size}

-- case 1, the executable `/bin/cat` of 5 bytes, in block 0
abbrev sample : Case
sample = record {
  seq = 1;
  origin = record { kind = Exec; name = 0x2f ∷ 0x62 ∷ 0x69 ∷ 0x6e ∷ 0x2f ∷ 0x63 ∷ 0x61 ∷ 0x74 ∷ []; pid = 0; signal = 0; time = 0 };
  pinned = false;
  len = 5;
  blocks = 0 ∷ [];
  label = [];
}

abbrev sample_bytes : List ℕ
sample_bytes =
    (0xa5 ∷ 1 ∷ 0 ∷ 0 ∷ 0x40 ∷ 0 ∷ 0 ∷ 0 ∷ 1 ∷ 0 ∷ 0 ∷ 0 ∷ 2 ∷ 0 ∷ 8 ∷ 0 ∷ [])
    ++ (0 ∷ 0 ∷ 0 ∷ 0 ∷ 0 ∷ 0 ∷ 0 ∷ 0 ∷ 0 ∷ 0 ∷ 0 ∷ 0 ∷ 0 ∷ 0 ∷ 0 ∷ 0 ∷ [])
    ++ (5 ∷ 0 ∷ 0 ∷ 0 ∷ 0 ∷ 0 ∷ 0 ∷ 0 ∷ 1 ∷ 0 ∷ 0 ∷ 0 ∷ 0 ∷ 0 ∷ 0 ∷ 0 ∷ [])
    ++ (0 ∷ 0 ∷ 0 ∷ 0 ∷ 1 ∷ 0 ∷ 0 ∷ 0 ∷ 0x2f ∷ 0x62 ∷ 0x69 ∷ 0x6e ∷ 0x2f ∷ 0x63 ∷ 0x61 ∷ 0x74 ∷ [])

sample_spelled : spelling (Store sample) ≡ sample_bytes
unfolding behind_gate plain body store_facts run_bytes number_bytes
sample_spelled = refl

sample_faultless : record_fault 4 4128 (sample_bytes ++ 0 ∷ []) (nothing_yet 1) ≡ None
unfolding record_fault part
sample_faultless = refl

sample_told : record_at (sample_bytes ++ 0 ∷ []) ≡ Store sample
unfolding record_at part
sample_told = refl

-- the next case gets number 1
next_spelled : spelling (Next 1) ≡ 0xa5 ∷ 4 ∷ 0 ∷ 0 ∷ 0x10 ∷ 0 ∷ 0 ∷ 0 ∷ 1 ∷ 0 ∷ 0 ∷ 0 ∷ 0 ∷ 0 ∷ 0 ∷ 0 ∷ []
unfolding behind_gate plain body number_bytes
next_spelled = refl

-- the snapshot of no case, and of the sample alone, if the next case gets number 3
none_said : snapshot_size (nothing_yet 1) ≡ 48
none_said = refl

sample_said : snapshot (record { version = 1; cases = sample ∷ []; next = 3 }) ≡ Store sample ∷ Next 3 ∷ []
sample_said = refl

sample_size : snapshot_size (record { version = 1; cases = sample ∷ []; next = 3 }) ≡ 112
sample_size = refl

-- case 1 has the label `ab`
abbrev label_bytes : ℕ → ℕ → List ℕ
label_bytes kind long =
    (0xa5 ∷ kind ∷ 0 ∷ 0 ∷ 0x20 ∷ 0 ∷ 0 ∷ 0 ∷ 1 ∷ 0 ∷ 0 ∷ 0 ∷ long ∷ 0 ∷ 0 ∷ 0 ∷ [])
    ++ (0x61 ∷ 0x62 ∷ 0 ∷ 0 ∷ 0 ∷ 0 ∷ 0 ∷ 0 ∷ 0 ∷ 0 ∷ 0 ∷ 0 ∷ 0 ∷ 0 ∷ 0 ∷ 0 ∷ [])

abbrev stored : ℕ → Folded
stored version = record { version = version; cases = sample ∷ []; next = 2 }

label_spelled : spelling (Label 1 (0x61 ∷ 0x62 ∷ [])) ≡ label_bytes 5 2
unfolding behind_gate plain body number_bytes
label_spelled = refl

label_faultless : record_fault 4 8304 (label_bytes 5 2 ++ 0 ∷ []) (stored 2) ≡ None
unfolding record_fault part
label_faultless = refl

label_told : record_at (label_bytes 5 2 ++ 0 ∷ []) ≡ Label 1 (0x61 ∷ 0x62 ∷ [])
unfolding record_at part
label_told = refl

-- it may have 64 bytes, in version 2 alone, where the kinds end with it
label_too_long : record_fault 4 8304 (label_bytes 5 65 ++ 0 ∷ []) (stored 2) ≡ Some (Damaged 8316 named.LabelLength)
unfolding record_fault part
label_too_long = refl

label_in_one : record_fault 4 4128 (label_bytes 5 2 ++ 0 ∷ []) (stored 1) ≡ Some (Damaged 4129 named.Kind)
unfolding record_fault part
label_in_one = refl

kind_six : record_fault 4 8304 (label_bytes 6 2 ++ 0 ∷ []) (stored 2) ≡ Some (Damaged 8305 named.Kind)
unfolding record_fault part
kind_six = refl

-- a snapshot has it after the case
labelled_said : snapshot (record { version = 2; cases = record sample { label = 0x61 ∷ 0x62 ∷ [] } ∷ []; next = 2 })
    ≡ Store sample ∷ Label 1 (0x61 ∷ 0x62 ∷ []) ∷ Next 2 ∷ []
labelled_said = refl
