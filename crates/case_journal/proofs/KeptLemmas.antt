-- What an open journal keeps stays, as its cases change and as they are read.
use Rattle.std.proofs.Common.{◌≡◌, ℕ, ◌+◌, ◌≤◌, Bool, true, false, ◌==◌, ◌||◌, List, [], ◌∷◌, ◌++◌, refl, sym, subst, arith}
use Rattle.std.proofs.lemmas.Bool.{eqb-true, both_ways}
use Rattle.journal_layout.specs.declared.shape.Shape.{Shape}
use Rattle.journal_layout.specs.Layout.{IsWithinLimits, half_length}
use Rattle.journal_layout.specs.Front.{is_known}
use Rattle.journal_layout.specs.Case.{Case}
use Rattle.journal_layout.specs.Record.{Store}
use Rattle.journal_layout.specs.Folding.{Folded, nothing_yet, dropped, with_pin, with_label}
use Rattle.journal_layout.specs.Soundness.{IsSound, IsLabel}
use Rattle.journal_layout.specs.Stands.{AreRead}
use Rattle.journal_layout.specs.LabelledLaws.{labelled_stored, labelled_dropped, labelled_pinned, labelled_two, labelled_read}
use Rattle.journal_layout.specs.Live.{AreLive, AreLabelled}
use Rattle.journal_layout.specs.LiveLaws.{live_stored, live_dropped, live_pinned, live_labelled, live_read}
use Rattle.case_journal.specs.Kept.{IsKept}

module _ (shape : Shape) (version : ℕ) (cases : List Case) (next used : ℕ) (kept : IsKept shape version cases next used) where
  -- some cases left out
  pub kept_left : (seqs : List ℕ) (after : List Case) → after ≡ dropped seqs cases → IsKept shape version after next used
  kept_left seqs after is = record {
    limits = kept.limits;
    known = kept.known;
    live = subst (λ (cs : List Case). AreLive shape.data_blocks cs next) (sym is) (live_dropped shape.data_blocks cases next seqs kept.live);
    labels = subst (λ (cs : List Case). AreLabelled version cs) (sym is) (labelled_dropped version seqs cases kept.labels);
    numbers = kept.numbers;
    header = kept.header;
    gate = kept.gate;
  }

  -- a flag set
  pub kept_pinned : (seq : ℕ) (flag : Bool) (after : List Case) → after ≡ with_pin seq flag cases → IsKept shape version after next used
  kept_pinned seq flag after is = record {
    limits = kept.limits;
    known = kept.known;
    live = subst (λ (cs : List Case). AreLive shape.data_blocks cs next) (sym is) (live_pinned shape.data_blocks cases next seq flag kept.live);
    labels = subst (λ (cs : List Case). AreLabelled version cs) (sym is) (labelled_pinned version seq flag cases kept.labels);
    numbers = kept.numbers;
    header = kept.header;
    gate = kept.gate;
  }

  -- a label set, in version 2
  pub kept_labelled : (seq : ℕ) (text : List ℕ) (after : List Case) → version ≡ 2 → IsLabel text → after ≡ with_label seq text cases → IsKept shape version after next used
  kept_labelled seq text after two label is = record {
    limits = kept.limits;
    known = kept.known;
    live = subst (λ (cs : List Case). AreLive shape.data_blocks cs next) (sym is) (live_labelled shape.data_blocks cases next seq text kept.live label);
    labels = labelled_two version after two;
    numbers = kept.numbers;
    header = kept.header;
    gate = kept.gate;
  }

  -- in version 2
  pub kept_in_two : IsKept shape 2 cases next used
  kept_in_two = record {
    limits = kept.limits;
    known = refl;
    live = kept.live;
    labels = labelled_two 2 cases refl;
    numbers = kept.numbers;
    header = kept.header;
    gate = kept.gate;
  }

  -- which is the version where it is not 1
  pub kept_one : (version == 2) ≡ false → version ≡ 1
  kept_one other = of (version == 1) refl kept.known
    where
      of : (t : Bool) → (version == 1) ≡ t → (t || version == 2) ≡ true → version ≡ 1
      of true e known = eqb-true version 1 e
      of false e known = absurd (both_ways (version == 2) other known)

  -- a case more, after which the next record goes elsewhere
  pub kept_stored : (c : Case) (after : List Case) (later : ℕ) → 32 ≤ later → later + 1 ≤ half_length shape → c.seq ≡ next → IsSound shape.data_blocks (record { version = version; cases = cases; next = next }) (Store c)
      → after ≡ cases ++ c ∷ [] → IsKept shape version after (next + 1) later
  kept_stored c after later header gate number sound is =
      let live = live_stored shape.data_blocks cases next c kept.live sound.0 sound.1 sound.2 in
      record {
        limits = kept.limits;
        known = kept.known;
        live = subst (λ (n : ℕ). AreLive shape.data_blocks after (n + 1)) number (subst (λ (cs : List Case). AreLive shape.data_blocks cs (c.seq + 1)) (sym is) live);
        labels = subst (λ (cs : List Case). AreLabelled version cs) (sym is) (labelled_stored version cases c kept.labels sound.2.no_label);
        numbers = (let high = sound.1 in omega arith);
        header = header;
        gate = gate;
      }

-- the cases that are read
pub kept_read : (shape : Shape) (cases : List Case) (version next n : ℕ) (bytes : List ℕ) → IsWithinLimits shape → is_known version ≡ true
    → AreRead shape.data_blocks bytes (nothing_yet version) (record { version = version; cases = cases; next = next }) n → 32 + n + 1 ≤ half_length shape
    → IsKept shape version cases next (32 + n)
kept_read shape cases version next n bytes limits known read in_half =
    let said : Folded = record { version = version; cases = cases; next = next } in
    let live = live_read shape.data_blocks version bytes said n read in
    record {
      limits = limits;
      known = known;
      live = live;
      labels = labelled_read shape.data_blocks version bytes said n read;
      numbers = live.numbers;
      header = omega arith;
      gate = in_half;
    }
