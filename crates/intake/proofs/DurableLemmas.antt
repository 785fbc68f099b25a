-- The images of cases, where the bytes of other places change.
use Rattle.std.proofs.Common.{◌≡◌, ℕ, ◌*◌, ◌+◌, ◌==◌, Bool, true, false, not, cond, List, [], ◌∷◌, ◌++◌, take, map, refl, sym, ap, ◌∙◌, arith}
use Rattle.std.specs.List.{filter}
use Rattle.std.proofs.lemmas.List.{map-append}
use Rattle.std.proofs.lemmas.List.Sums.{sum_by-cons}
use Rattle.disk_model.specs.Places.{SameOutside}
use Rattle.extents.specs.FreeSet.{uses}
use Rattle.journal_layout.specs.declared.shape.Shape.{Shape}
use Rattle.journal_layout.specs.Case.{Case, numbered}
use Rattle.journal_layout.specs.Folding.{is_among, dropped, pinned_as, labelled_as}
use Rattle.journal_layout.specs.Layout.{half_length}
use Rattle.journal_layout.specs.Record.{Drop, Pin, Label}
use Rattle.journal_layout.specs.Rewriting.{appended}
use Rattle.journal_layout.specs.Standing.{Standing, store_of}
use Rattle.case_journal.specs.Journaled.{Journaled}
use Rattle.intake.specs.Blocks.{block_start, image_in}
use Rattle.intake.specs.Durable.{FoundCase, Durable, found_with, found_case, durable_in, durable_of, durable_part, with_images, without, flagged, labelled, upgraded, made_of}
use Rattle.intake.specs.Live.{case_uses}
use Rattle.intake.specs.Parts.{Parts, state_of, contents_of}
use Rattle.intake.proofs.BlockLemmas.{joined_other}
use Rattle.intake.proofs.StoreLemmas.{joined_behind}

-- the image of a case, where bytes hold it
abbrev pub held_image : Shape → List ℕ → Case → List ℕ
held_image shape bytes c = image_in shape bytes c.blocks c.len

-- cases that are found in other bytes
found_spared : (shape : Shape) (k : ℕ) (a b : List ℕ) → SameOutside (block_start shape k) 4096 a b → (cases : List Case) → case_uses cases k ≡ 0 → map (found_case shape b) cases ≡ map (found_case shape a) cases
found_spared shape k a b same [] none = refl
found_spared shape k a b same (c ∷ rest) none =
    let s : case_uses (c ∷ rest) k ≡ uses c.blocks k + case_uses rest k = sum_by-cons (λ (x : Case). uses x.blocks k) c rest in
    ap (λ (x : List ℕ). found_with c (take c.len x) ∷ map (found_case shape b) rest) (joined_other shape k a b same c.blocks (omega (arith, none, s)))
    ∙ ap (λ (l : List FoundCase). found_case shape a c ∷ l) (found_spared shape k a b same rest (omega (arith, none, s)))

-- where a block changes that no case has
pub durable_spared : (s : Standing) (k : ℕ) (a b : List ℕ) → SameOutside (block_start s.shape k) 4096 a b → case_uses s.cases k ≡ 0 → durable_in b s ≡ durable_in a s
durable_spared s k a b same none = ap (λ (l : List FoundCase). record { cases = l; next = s.next; version = s.version }) (found_spared s.shape k a b same s.cases none)

abbrev pub found_in : Shape → List ℕ → List Case → ℕ → ℕ → Durable
found_in shape bytes cases next version = record { cases = map (found_case shape bytes) cases; next = next; version = version }

-- where a half of the journal changes
module _ (j : Journaled) (a b : List ℕ) (same : SameOutside 4096 (2 * half_length j.standing.shape) a b) where
  found_behind : (cases : List Case) → map (found_case j.standing.shape b) cases ≡ map (found_case j.standing.shape a) cases
  found_behind [] = refl
  found_behind (c ∷ rest) =
      ap (λ (x : List ℕ). found_with c (take c.len x) ∷ map (found_case j.standing.shape b) rest) (joined_behind j a b same c.blocks)
      ∙ ap (λ (l : List FoundCase). found_case j.standing.shape a c ∷ l) (found_behind rest)

  pub durable_behind : (cases : List Case) (next version : ℕ) → found_in j.standing.shape b cases next version ≡ found_in j.standing.shape a cases next version
  durable_behind cases next version = ap (λ (l : List FoundCase). record { cases = l; next = next; version = version }) (found_behind cases)

-- what the records do to what is found
found_left : (shape : Shape) (bytes seqs : List ℕ) (cases : List Case)
    → map (found_case shape bytes) (dropped seqs cases) ≡ filter (λ (c : FoundCase). not (is_among seqs c.case.seq)) (map (found_case shape bytes) cases)
found_left shape bytes seqs [] = refl
found_left shape bytes seqs (c ∷ rest) =
    elim (is_among seqs c.seq) as (λ t. map (found_case shape bytes) (cond (not t) (c ∷ dropped seqs rest) (dropped seqs rest))
    ≡ cond (not t) (found_case shape bytes c ∷ filter (λ (x : FoundCase). not (is_among seqs x.case.seq)) (map (found_case shape bytes) rest)) (filter (λ (x : FoundCase). not (is_among seqs x.case.seq)) (map (found_case shape bytes) rest))) [
      | true ↦ found_left shape bytes seqs rest
      | false ↦ ap (λ (l : List FoundCase). found_case shape bytes c ∷ l) (found_left shape bytes seqs rest)
    ]

-- a change of cases that moves no image
pub found_made : (find : Case → List ℕ) (f : Case → Case) → ((c : Case) → find (f c) ≡ find c) → (cases : List Case)
    → map (λ (c : Case). found_with c (find c)) (map f cases) ≡ map (made_of f) (map (λ (c : Case). found_with c (find c)) cases)
found_made find f same [] = refl
found_made find f same (c ∷ rest) =
    ap (λ (i : List ℕ). found_with (f c) i ∷ map (λ (x : Case). found_with x (find x)) (map f rest)) (same c)
    ∙ ap (λ (l : List FoundCase). found_with (f c) (find c) ∷ l) (found_made find f same rest)

pub pin_moves_none : (shape : Shape) (bytes : List ℕ) (seq : ℕ) (flag : Bool) (c : Case) → held_image shape bytes (pinned_as seq flag c) ≡ held_image shape bytes c
pin_moves_none shape bytes seq flag c = elim (c.seq == seq) as (λ t. held_image shape bytes (cond t (record c { pinned = flag }) c) ≡ held_image shape bytes c) [ true ↦ refl | false ↦ refl ]

pub label_moves_none : (shape : Shape) (bytes : List ℕ) (seq : ℕ) (text : List ℕ) (c : Case) → held_image shape bytes (labelled_as seq text c) ≡ held_image shape bytes c
label_moves_none shape bytes seq text c = elim (c.seq == seq) as (λ t. held_image shape bytes (cond t (record c { label = text }) c) ≡ held_image shape bytes c) [ true ↦ refl | false ↦ refl ]

-- and the images of those cases
pub images_made : (find : Case → List ℕ) (f : Case → Case) → ((c : Case) → find (f c) ≡ find c) → (cases : List Case) → map find (map f cases) ≡ map find cases
images_made find f same [] = refl
images_made find f same (c ∷ rest) = ap (λ (i : List ℕ). i ∷ map find (map f rest)) (same c) ∙ ap (λ (l : List (List ℕ)). find c ∷ l) (images_made find f same rest)

pub durable_dropped : (s : Standing) (seqs bytes : List ℕ) → durable_in bytes (appended s (Drop seqs)) ≡ without (durable_in bytes s) seqs
durable_dropped s seqs bytes = ap (λ (l : List FoundCase). record { cases = l; next = s.next; version = s.version }) (found_left s.shape bytes seqs s.cases)

pub durable_pinned : (s : Standing) (seq : ℕ) (flag : Bool) (bytes : List ℕ) → durable_in bytes (appended s (Pin seq flag)) ≡ flagged (durable_in bytes s) seq flag
durable_pinned s seq flag bytes = ap (λ (l : List FoundCase). record { cases = l; next = s.next; version = s.version }) (found_made (held_image s.shape bytes) (pinned_as seq flag) (pin_moves_none s.shape bytes seq flag) s.cases)

pub durable_labelled : (s : Standing) (seq : ℕ) (text bytes : List ℕ) → durable_in bytes (appended s (Label seq text)) ≡ labelled (durable_in bytes s) seq text
durable_labelled s seq text bytes = ap (λ (l : List FoundCase). record { cases = l; next = s.next; version = s.version }) (found_made (held_image s.shape bytes) (labelled_as seq text) (label_moves_none s.shape bytes seq text) s.cases)

-- what is of version 2 is the same once it is in version 2
pub durable_in_two : (s : Standing) (bytes : List ℕ) → s.version ≡ 2 → upgraded (durable_in bytes s) ≡ durable_in bytes s
durable_in_two s bytes two = ap (λ (v : ℕ). record (durable_in bytes s) { version = v }) (sym two)

pub durable_stored : (s : Standing) (c : Case) (bytes : List ℕ)
    → durable_in bytes (appended s (store_of s c)) ≡ record (durable_in bytes s) { cases = map (found_case s.shape bytes) s.cases ++ found_with (numbered s.next c) (image_in s.shape bytes c.blocks c.len) ∷ []; next = s.next + 1 }
durable_stored s c bytes = ap (λ (l : List FoundCase). record { cases = l; next = s.next + 1; version = s.version }) (map-append (found_case s.shape bytes) s.cases (numbered s.next c ∷ []))

-- a state and its bytes say the same
pub found_zipped : (shape : Shape) (bytes : List ℕ) (cases : List Case) → map (found_case shape bytes) cases ≡ with_images cases (map (λ (c : Case). image_in shape bytes c.blocks c.len) cases)
found_zipped shape bytes [] = refl
found_zipped shape bytes (c ∷ rest) = ap (λ (l : List FoundCase). found_case shape bytes c ∷ l) (found_zipped shape bytes rest)

pub durable_is : {D : Type 0} (seen : D → List ℕ) (a : Parts D) → durable_of seen a ≡ durable_part (state_of a) (contents_of seen a)
durable_is seen a = ap (λ (l : List FoundCase). record { cases = l; next = a.journal.standing.next; version = a.journal.standing.version }) (found_zipped a.journal.standing.shape (seen a.disk) a.journal.standing.cases)
