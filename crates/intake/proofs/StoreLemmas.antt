-- The bytes that the append of a case leaves.
use Rattle.std.proofs.Common.{◌≡◌, inr, ℕ, zero, suc, ◌+◌, ◌*◌, ◌%◌, ◌≤◌, Bool, true, false, List, [], ◌∷◌, ◌++◌, take, drop, map, refl, sym, ap, ◌∙◌, subst, arith, Option, None, Some, Ok, Err}
use Rattle.std.specs.Prelude.{option_map, slice_set}
use Rattle.std.proofs.lemmas.List.{map-append}
use Rattle.disk_model.specs.Places.{SameOutside}
use Rattle.disk_model.specs.PartLaws.{part_spared}
use Rattle.disk_model.specs.declared.disk.Disk as disk
use Rattle.journal_layout.specs.declared.shape.Shape.{Shape}
use Rattle.journal_layout.specs.Layout.{half_length, data_start}
use Rattle.journal_layout.specs.Case.{Case, numbered}
use Rattle.journal_layout.specs.Standing.{Standing, store_of}
use Rattle.case_journal.specs.Append.{StoreRefused}
use Rattle.case_journal.specs.Journaled.{Journaled, after_append}
use Rattle.case_journal.specs.declared.faults.JournalFault.{JournalFault}
use Rattle.case_journal.specs.declared.faults.JournalFault.TheVariants as journal_fault
use Rattle.intake.specs.declared.faults.ArchiveFault.{ArchiveFault}
use Rattle.intake.specs.declared.faults.ArchiveFault.TheVariants as fault
use Rattle.intake.specs.Blocks.{block_start, block_bytes, joined, image_in}
use Rattle.intake.specs.Closing.{Appends, ClosesBytes, ClosesPadded, FinishPads}
use Rattle.intake.specs.Contents.{Taken, Contents, RefusedBytes, FinishBytes}
use Rattle.intake.specs.Ending.{EndsStreams}
use Rattle.intake.specs.Faults.{fault_of}
use Rattle.intake.specs.Growth.{ChangesFree}
use Rattle.intake.specs.Parts.{Parts, StreamParts, taken_in, contents_of}
use Rattle.intake.specs.Slots.{stream_at}
use Rattle.intake.specs.Sound.{IsRunning}
use Rattle.intake.proofs.AdvanceLemmas.{contents_moved, refused_bytes}

halves_end : (shape : Shape) → 4096 + 2 * half_length shape ≤ data_start shape
halves_end shape = omega arith

-- the journal's halves lie before the data blocks
module _ (j : Journaled) (a b : List ℕ) (same : SameOutside 4096 (2 * half_length j.standing.shape) a b) where
  pub joined_behind : (blocks : List ℕ) → joined j.standing.shape b blocks ≡ joined j.standing.shape a blocks
  joined_behind [] = refl
  joined_behind (k ∷ rest) =
      let e = halves_end j.standing.shape in
      let here : block_bytes j.standing.shape b k ≡ block_bytes j.standing.shape a k =
      part_spared 4096 (2 * half_length j.standing.shape) a b same (block_start j.standing.shape k) 4096 (inr (omega arith)) in
      ap (λ (x : List ℕ). x ++ joined j.standing.shape b rest) here ∙ ap (λ (x : List ℕ). block_bytes j.standing.shape a k ++ x) (joined_behind rest)

  pub images_behind : (cases : List Case) → map (λ (c : Case). image_in j.standing.shape b c.blocks c.len) cases ≡ map (λ (c : Case). image_in j.standing.shape a c.blocks c.len) cases
  images_behind [] = refl
  images_behind (c ∷ rest) =
      ap (λ (x : List ℕ). take c.len x ∷ map (λ (y : Case). image_in j.standing.shape b y.blocks y.len) rest) (joined_behind c.blocks)
      ∙ ap (λ (xs : List (List ℕ)). image_in j.standing.shape a c.blocks c.len ∷ xs) (images_behind rest)

  pub taken_behind : (streams : List (Option StreamParts)) → map (option_map (taken_in j b)) streams ≡ map (option_map (taken_in j a)) streams
  taken_behind [] = refl
  taken_behind (o ∷ rest) =
      ap (λ (x : Option Taken). x ∷ map (option_map (taken_in j b)) rest) (one o) ∙ ap (λ (xs : List (Option Taken)). option_map (taken_in j a) o ∷ xs) (taken_behind rest)
    where
      one : (x : Option StreamParts) → option_map (taken_in j b) x ≡ option_map (taken_in j a) x
      one None = refl
      one (Some t) = ap (λ (y : List ℕ). Some (record { bytes = y ++ take (t.facts.len % 4096) t.block; free = drop (t.facts.len % 4096) t.block })) (joined_behind t.facts.blocks)

refused_standing : (j j' : Journaled) (c : Case) (jf : JournalFault) → StoreRefused j c jf j' → j'.standing ≡ j.standing
refused_standing j j' c journal_fault.Stopped r = ap (λ (k : Journaled). k.standing) r.1
refused_standing j j' c journal_fault.JournalFull r = ap (λ (k : Journaled). k.standing) r.2
refused_standing j j' c journal_fault.NumbersSpent r = ap (λ (k : Journaled). k.standing) r.3
refused_standing j j' c journal_fault.OutOfMemory r = ap (λ (k : Journaled). k.standing) r.3
refused_standing j j' c journal_fault.Disk r = ap (λ (k : Journaled). k.standing) r.3
refused_standing j j' c journal_fault.OldVersion r = absurd r

runs_on : (j j' : Journaled) (c : Case) (jf : JournalFault) → j.stopped ≡ false → StoreRefused j c jf j' → fault_of jf ≡ fault.Stopped → ⊥
runs_on j j' c journal_fault.Stopped on r e = let f : true ≡ false = sym r.0 ∙ on in cc
runs_on j j' c journal_fault.JournalFull on r e = cc
runs_on j j' c journal_fault.NumbersSpent on r e = cc
runs_on j j' c journal_fault.OutOfMemory on r e = cc
runs_on j j' c journal_fault.Disk on r e = cc
runs_on j j' c journal_fault.OldVersion on r e = absurd r

never_missing : (jf : JournalFault) → fault_of jf ≡ fault.NoStream → ⊥
never_missing journal_fault.Stopped e = cc
never_missing journal_fault.JournalFull e = cc
never_missing journal_fault.NumbersSpent e = cc
never_missing journal_fault.OutOfMemory e = cc
never_missing journal_fault.Disk e = cc
never_missing journal_fault.OldVersion e = cc

module _ {D : Type 0} (g : disk.Ghosts D) (d d1 d2 : D) (j j' : Journaled) (most : ℕ) (flags : List Bool) (streams : List (Option StreamParts)) (slot : ℕ) (b b' : Bool)
    (running : IsRunning g d j most flags streams) (changes : ChangesFree j.standing.shape flags (g.seen d) (g.seen d1))
    (outside : SameOutside 4096 (2 * half_length j.standing.shape) (g.seen d1) (g.seen d2)) where
  abbrev old : Parts D
  old = record { disk = d; journal = j; limit = most; streams = streams; stopped = b }

  behind : (xs : List (Option StreamParts)) → contents_of g.seen (record { disk = d2; journal = j; limit = most; streams = xs; stopped = b' }) ≡ contents_of g.seen (record { disk = d1; journal = j; limit = most; streams = xs; stopped = b' })
  behind xs =
      ap (λ (x : List (List ℕ)). record { images = x; taken = map (option_map (taken_in j (g.seen d2))) xs }) (images_behind j (g.seen d1) (g.seen d2) outside j.standing.cases)
      ∙ ap (λ (x : List (Option Taken)). record { images = map (λ (c : Case). image_in j.standing.shape (g.seen d1) c.blocks c.len) j.standing.cases; taken = x }) (taken_behind j (g.seen d1) (g.seen d2) outside xs)

  pub unstored_bytes : (f : ArchiveFault) (c : Case) (dropped streams' : List (Option StreamParts)) → dropped ≡ slice_set streams slot None → EndsStreams f dropped b' streams' → Appends j c (Err f) j'
      → RefusedBytes (contents_of g.seen old) slot f (contents_of g.seen (record { disk = d2; journal = j'; limit = most; streams = streams'; stopped = b' }))
  unstored_bytes f c dropped streams' gone ends appends =
      subst (λ (x : Contents). RefusedBytes (contents_of g.seen old) slot f x)
      (sym (ap (λ (t : Standing). contents_of g.seen (record { disk = d2; journal = record { standing = t; stopped = j'.stopped }; limit = most; streams = streams'; stopped = b' })) (refused_standing j j' c appends.0 appends.2) ∙ behind streams'))
      (refused_bytes g d d1 j most flags streams slot b b' running changes f dropped streams' gone ends
      (λ e. runs_on j j' c appends.0 running.journal appends.2 (sym appends.1 ∙ e))
      (λ e. never_missing appends.0 (sym appends.1 ∙ e)))

  pub stored_bytes : (s : StreamParts) (c : Case) (seq : ℕ) (streams' : List (Option StreamParts)) → stream_at streams slot ≡ Some s → streams' ≡ slice_set streams slot None → j' ≡ after_append j (store_of j.standing c)
      → c.len ≡ s.facts.len → ClosesBytes j.standing.shape s c.blocks (g.seen d) (g.seen d1)
      → FinishBytes (contents_of g.seen old) slot (Ok seq) (contents_of g.seen (record { disk = d2; journal = j'; limit = most; streams = streams'; stopped = b' }))
  stored_bytes s c seq streams' is gone now long closes =
      let rest = behind (slice_set streams slot None) ∙ contents_moved g d d1 j most flags streams slot b b' running changes None in
      let image : image_in j.standing.shape (g.seen d2) c.blocks c.len ≡ (taken_in j (g.seen d) s).bytes =
      ap (take c.len) (joined_behind j (g.seen d1) (g.seen d2) outside c.blocks) ∙ ap (λ (n : ℕ). take n (joined j.standing.shape (g.seen d1) c.blocks)) long ∙ closes in (
        taken_in j (g.seen d) s,
        taken_at streams slot ∙ ap (option_map (taken_in j (g.seen d))) is,
        ap (λ (k : Journaled). contents_of g.seen (record { disk = d2; journal = k; limit = most; streams = streams'; stopped = b' })) now
            ∙ ap (λ (x : List (Option StreamParts)). contents_of g.seen (record { disk = d2; journal = after_append j (store_of j.standing c); limit = most; streams = x; stopped = b' })) gone
            ∙ ap (λ (x : List (List ℕ)). record { images = x; taken = map (option_map (taken_in j (g.seen d2))) (slice_set streams slot None) })
            (map-append (λ (y : Case). image_in j.standing.shape (g.seen d2) y.blocks y.len) j.standing.cases (numbered j.standing.next c ∷ [])
            ∙ ap (λ (x : List ℕ). map (λ (y : Case). image_in j.standing.shape (g.seen d2) y.blocks y.len) j.standing.cases ++ x ∷ []) image)
            ∙ ap (λ (x : Contents). record { images = x.images ++ (taken_in j (g.seen d) s).bytes ∷ []; taken = x.taken }) rest,
      )
    where
      taken_at : (xs : List (Option StreamParts)) (i : ℕ) → stream_at (map (option_map (taken_in j (g.seen d))) xs) i ≡ option_map (taken_in j (g.seen d)) (stream_at xs i)
      taken_at [] i = refl
      taken_at (o ∷ rest) zero = refl
      taken_at (o ∷ rest) (suc i) = taken_at rest i

  -- behind the bytes of the new case there are zeros
  pub stored_padded : (s : StreamParts) (c : Case) (seq : ℕ) (streams' : List (Option StreamParts)) → stream_at streams slot ≡ Some s → j' ≡ after_append j (store_of j.standing c)
      → ClosesPadded j.standing.shape s c.blocks (g.seen d) (g.seen d1)
      → FinishPads g.seen old slot (Ok seq) (record { disk = d2; journal = j'; limit = most; streams = streams'; stopped = b' })
  stored_padded s c seq streams' is now closes = (
    taken_in j (g.seen d) s,
    numbered j.standing.next c,
    at_slot streams slot ∙ ap (option_map (taken_in j (g.seen d))) is,
    ap (λ (k : Journaled). k.standing.cases) now,
    ap (λ (k : Journaled). joined k.standing.shape (g.seen d2) c.blocks) now ∙ joined_behind j (g.seen d1) (g.seen d2) outside c.blocks ∙ closes,
  )
    where
      at_slot : (xs : List (Option StreamParts)) (i : ℕ) → stream_at (map (option_map (taken_in j (g.seen d))) xs) i ≡ option_map (taken_in j (g.seen d)) (stream_at xs i)
      at_slot [] i = refl
      at_slot (o ∷ rest) zero = refl
      at_slot (o ∷ rest) (suc i) = at_slot rest i
