-- How the image of a case is read from the disk.
use Rattle.std.proofs.Common.{◌≡◌, ℕ, ◌+◌, ◌-◌, ◌≤◌, ◌==◌, Bool, true, false, cond, List, [], ◌∷◌, length, map, refl, sym, ap, ◌∙◌, subst, arith, IsTrue, Option, Some, Err}
use Rattle.std.specs.Prelude.{option_map, nat_lt}
use Rattle.std.specs.List.{All, Contains}
use Rattle.std.proofs.lemmas.List.Elements.{All-nil, All-cons, All-head, All-tail}
use Rattle.std.proofs.lemmas.List.Sums.{get_or-le-sum_by}
use Rattle.disk_model.specs.declared.disk.Disk as disk
use Rattle.extents.specs.FreeLaws.{uses_append, uses_inside}
use Rattle.extents.specs.FreeSet.{uses, one_if}
use Rattle.extents.specs.RunLaws.{runs_have_blocks}
use Rattle.extents.specs.Runs.{run_blocks, blocks_of, runs_of}
use Rattle.extents.specs.declared.run_list.Run.{Run}
use Rattle.journal_layout.specs.Case.{Case}
use Rattle.journal_layout.specs.Live.{AreLive}
use Rattle.journal_layout.specs.LiveCounts.{live_runs}
use Rattle.journal_layout.specs.LiveFinds.{numbered_is, live_whole}
use Rattle.journal_layout.specs.Soundness.{case_numbered}
use Rattle.journal_layout.specs.Stands.{Stands}
use Rattle.case_journal.specs.Journaled.{Journaled}
use Rattle.case_journal.specs.Keeping.{Keeps}
use Rattle.journal_snapshot.specs.Holding.{SameFront}
use Rattle.case_journal.specs.Viewing.{OnlyReads}
use Rattle.intake.specs.Blocks.{image_in}
use Rattle.intake.specs.Contents.{Taken, UnmovedBytes, without_streams, image_at}
use Rattle.disk_model.specs.MomentLaws.{adds, weakened}
use Rattle.disk_model.specs.Moments.{AddsOnly}
use Rattle.intake.specs.Durable.{StandsFor, durable_in}
use Rattle.intake.specs.Ending.{EndsStreams}
use Rattle.intake.specs.Guarding.{Guards}
use Rattle.intake.specs.Parts.{Parts, StreamParts, state_of, stream_facts, taken_in, contents_of}
use Rattle.intake.specs.Reading.{LieWithin, LiesIn, IsReadFault}
use Rattle.intake.specs.Slots.{closed}
use Rattle.intake.specs.Sound.{IsArchiveSound, case_blocks}
use Rattle.intake.specs.State.{ArchiveState, StreamFacts}
use Rattle.intake.specs.Step.{ImageStep, HasCase, halted}
use Rattle.intake.specs.declared.faults.ArchiveFault.{ArchiveFault}
use Rattle.intake.specs.declared.faults.ArchiveFault.TheVariants as fault
use Rattle.intake.proofs.AdvanceLemmas.{closed_map}
use Rattle.intake.proofs.CountLemmas.{in_range}
use Rattle.intake.proofs.RestLemmas.{stands_now}
use Rattle.intake.proofs.SoundLemmas.{sound_halted}
use Rattle.case_journal.specs.DoubtLaws.{quiet_doubts}

-- runs of blocks of which each lies below the limit end no later
runs_within : (limit : ℕ) (runs : List Run) → All (λ (r : Run). 1 ≤ r.count) runs → ((k : ℕ) → uses (blocks_of runs) k ≤ one_if (nat_lt k limit)) → LieWithin limit runs
runs_within limit [] some apart = All-nil (λ (x : Run). x.start + x.count ≤ limit)
runs_within limit (r ∷ rest) some apart =
    All-cons (λ (x : Run). x.start + x.count ≤ limit) r rest here
    (runs_within limit rest (All-tail (λ (x : Run). 1 ≤ x.count) r rest some) (λ k. (let s = uses_append (run_blocks r) (blocks_of rest) k in let h = apart k in omega (arith, s, h))))
  where
    ends : (k : ℕ) → k + 1 ≡ r.start + r.count → 1 ≤ r.count → r.start + r.count ≤ limit
    ends k is one =
        let u = uses_inside r k (omega arith) (omega arith) in
        let s = uses_append (run_blocks r) (blocks_of rest) k in
        let h = apart k in
        let low = in_range k limit (omega (arith, u, s, h)) in
        omega arith

    here : r.start + r.count ≤ limit
    here = let one = All-head (λ (x : Run). 1 ≤ x.count) r rest some in ends (r.start + (r.count - 1)) (omega arith) one

-- where a live case lies
pub case_lies : (limit : ℕ) (cases : List Case) (next seq : ℕ) (c : Case) → AreLive limit cases next → case_blocks cases ≤ limit → Some c ≡ case_numbered seq cases → LiesIn limit c.blocks c.len
case_lies limit cases next seq c live all found =
    let among : Contains cases c = (numbered_is seq cases c (sym found)).1 in
    record {
      within = runs_within limit (runs_of c.blocks) (runs_have_blocks c.blocks) (live_runs limit cases next c live among);
      few = (let h = get_or-le-sum_by (λ (x : Case). length x.blocks) cases among.0 c among.1 in let e = ap (λ (x : Case). length x.blocks) among.2 in omega (arith, h, e, all));
      enough = (live_whole limit cases next c live among).enough;
    }

-- the image of a case stands where the case does
pub image_found : (seq : ℕ) (image : Case → List ℕ) (cases : List Case) → image_at seq cases (map image cases) ≡ option_map image (case_numbered seq cases)
image_found seq image [] = refl
image_found seq image (c ∷ rest) =
    elim (c.seq == seq) as (λ t. cond t (Some (image c)) (image_at seq rest (map image rest)) ≡ option_map image (cond t (Some c) (case_numbered seq rest)))
    [ true ↦ refl | false ↦ image_found seq image rest ]

module _ {D : Type 0} (g : disk.Ghosts D) where
  -- what every crash image has in common with what reads give, it still has after reads
  pub left_quiet : (P : List ℕ → List ℕ → Type 0) (old new : D) → OnlyReads g old new → (IsTrue (g.is_honest old) → (c : List ℕ) → g.may_leave old c → P (g.seen old) c)
      → IsTrue (g.is_honest new) → (c : List ℕ) → g.may_leave new c → P (g.seen new) c
  left_quiet P old new quiet was honest' c may =
      let honest : IsTrue (g.is_honest old) = subst IsTrue quiet.honesty honest' in
      subst (λ (b : List ℕ). P b c) (sym (quiet.seen honest)) (was honest c (quiet.crash honest c may))

  -- a disk that is a journal's still is after reads
  pub keeps_quiet : (old new : D) (j : Journaled) → OnlyReads g old new → Keeps g old j → Keeps g new j
  keeps_quiet old new j quiet keeps = record {
    size = quiet.size ∙ keeps.size;
    doubts = λ honest'. (
        let honest : IsTrue (g.is_honest old) = subst IsTrue quiet.honesty honest' in
        quiet_doubts g old new j.standing.shape (quiet.seen honest) (quiet.crash honest) (keeps.doubts honest));
    holds = λ runs honest. record {
      stands = left_quiet (λ b c. Stands c j.standing) old new quiet (λ was. (keeps.holds runs was).stands) honest;
      front = left_quiet (SameFront j.standing.shape) old new quiet (λ was. (keeps.holds runs was).front) honest;
    };
  }

  -- and so are the images of its cases
  pub guards_quiet : (old new : D) (j : Journaled) → OnlyReads g old new → Guards g old j → Guards g new j
  guards_quiet old new j quiet guards = record {
    keeps = keeps_quiet old new j quiet guards.keeps;
    whole = λ runs honest. left_quiet (λ b c. durable_in c j.standing ≡ durable_in b j.standing) old new quiet (λ was. guards.whole runs was) honest;
  }

  pub read_moments : (old new : D) (j : Journaled) → Guards g old j → j.stopped ≡ false → IsTrue (g.is_honest old) → OnlyReads g old new → AddsOnly g old new (λ c. StandsFor c (durable_in (g.seen old) j.standing))
  read_moments old new j guards runs honest quiet =
      adds g old new (λ c. StandsFor c (durable_in (g.seen old) j.standing))
      (weakened g old new (g.may_leave old) (λ c. StandsFor c (durable_in (g.seen old) j.standing)) (λ c may. stands_now g old j guards runs honest c may) (quiet.moments honest))

  -- an archive stays sound over reads
  pub sound_read : (d d' : D) (j : Journaled) (most : ℕ) (flags : List Bool) (streams : List (Option StreamParts)) (b : Bool)
      → IsArchiveSound g d j most flags streams b → b ≡ false → OnlyReads g d d' → IsArchiveSound g d' j most flags streams b
  sound_read d d' j most flags streams b sound on quiet =
      let was = sound.runs on in
      record {
        shape = sound.shape;
        slots = sound.slots;
        runs = λ _. record {
          journal = was.journal;
          keeps = guards_quiet d d' j quiet was.keeps;
          cases = was.cases;
          streams_fine = was.streams_fine;
          blocks = was.blocks;
          once = was.once;
          total = was.total;
          named = was.named;
        };
        none = sound.none;
        doubts = (guards_quiet d d' j quiet was.keeps).keeps.doubts;
      }

  -- also where they were refused
  pub sound_unread : (d d' : D) (j : Journaled) (most : ℕ) (flags : List Bool) (streams streams' : List (Option StreamParts)) (b b' : Bool) (f : ArchiveFault)
      → IsArchiveSound g d j most flags streams b → b ≡ false → OnlyReads g d d' → IsReadFault f → EndsStreams f streams b' streams' → IsArchiveSound g d' j most flags streams' b'
  sound_unread d d' j most flags streams streams' b b' fault.Disk sound on quiet may ends =
      subst (λ (t : Bool). IsArchiveSound g d' j most flags streams' t) (sym ends.0)
      (subst (λ (x : List (Option StreamParts)). IsArchiveSound g d' j most flags x true) (sym ends.1)
      (sound_halted g d d' j j most flags flags streams streams b sound (guards_quiet d d' j quiet (sound.runs on).keeps) refl refl))
  sound_unread d d' j most flags streams streams' b b' fault.OutOfMemory sound on quiet may ends =
      subst (λ (t : Bool). IsArchiveSound g d' j most flags streams' t) (on ∙ sym ends.0)
      (subst (λ (x : List (Option StreamParts)). IsArchiveSound g d' j most flags x b) (sym ends.1) (sound_read d d' j most flags streams b sound on quiet))
  sound_unread d d' j most flags streams streams' b b' _ sound on quiet may ends = absurd may

-- The archive before and after a reading.
module _ {D : Type 0} (seen : D → List ℕ) (d d' : D) (j : Journaled) (most : ℕ) (streams streams' : List (Option StreamParts)) (b b' : Bool) where
  abbrev old : Parts D
  old = record { disk = d; journal = j; limit = most; streams = streams; stopped = b }

  abbrev new : Parts D
  new = record { disk = d'; journal = j; limit = most; streams = streams'; stopped = b' }

  state_same : b' ≡ b → streams' ≡ streams → state_of new ≡ state_of old
  state_same runs same =
      ap (λ (t : Bool). state_of (record { disk = d'; journal = j; limit = most; streams = streams'; stopped = t })) runs
      ∙ ap (λ (x : List (Option StreamParts)). state_of (record { disk = d'; journal = j; limit = most; streams = x; stopped = b })) same

  state_halted : b' ≡ true → streams' ≡ closed streams → state_of new ≡ halted (state_of old)
  state_halted off same =
      ap (λ (t : Bool). state_of (record { disk = d'; journal = j; limit = most; streams = streams'; stopped = t })) off
      ∙ ap (λ (x : List (Option StreamFacts)). record (state_of old) { streams = x; stopped = true })
      (ap (map (option_map stream_facts)) same ∙ closed_map stream_facts streams)

  pub has_case : (seq : ℕ) (c : Case) → b ≡ false → Some c ≡ case_numbered seq j.standing.cases → HasCase (state_of old) seq c
  has_case seq c on found = (on, sym found)

  -- a refusal
  pub image_refused : (T : Type 0) (seq : ℕ) (c : Case) (f : ArchiveFault) → b ≡ false → Some c ≡ case_numbered seq j.standing.cases → IsReadFault f → EndsStreams f streams b' streams'
      → ImageStep {T = T} (state_of old) seq (Err f) (state_of new)
  image_refused T seq c fault.Disk on found may ends = (c, has_case seq c on found, state_halted ends.0 ends.1)
  image_refused T seq c fault.OutOfMemory on found may ends = (c, has_case seq c on found, state_same (ends.0 ∙ sym on) ends.1)
  image_refused T seq c _ on found may ends = absurd may

  -- the bytes stay
  pub bytes_same : seen d' ≡ seen d → streams' ≡ streams → contents_of seen new ≡ contents_of seen old
  bytes_same is same =
      ap (λ (x : List (Option StreamParts)). contents_of seen (record { disk = d'; journal = j; limit = most; streams = x; stopped = b' })) same
      ∙ ap (λ (bytes : List ℕ). record {
        images = map (λ (c : Case). image_in j.standing.shape bytes c.blocks c.len) j.standing.cases;
        taken = map (option_map (taken_in j bytes)) streams;
      }) is

  bytes_closed : seen d' ≡ seen d → streams' ≡ closed streams → contents_of seen new ≡ without_streams (contents_of seen old)
  bytes_closed is same =
      ap (λ (x : List (Option StreamParts)). contents_of seen (record { disk = d'; journal = j; limit = most; streams = x; stopped = b' })) same
      ∙ ap (λ (bytes : List ℕ). record {
        images = map (λ (c : Case). image_in j.standing.shape bytes c.blocks c.len) j.standing.cases;
        taken = map (option_map (taken_in j bytes)) (closed streams);
      }) is
      ∙ ap (λ (x : List (Option Taken)). record {
        images = map (λ (c : Case). image_in j.standing.shape (seen d) c.blocks c.len) j.standing.cases;
        taken = x;
      }) (closed_map (taken_in j (seen d)) streams)

  pub bytes_refused : (f : ArchiveFault) → seen d' ≡ seen d → IsReadFault f → EndsStreams f streams b' streams' → UnmovedBytes (contents_of seen old) f (contents_of seen new)
  bytes_refused fault.Disk is may ends = bytes_closed is ends.1
  bytes_refused fault.OutOfMemory is may ends = bytes_same is ends.1
  bytes_refused _ is may ends = absurd may

  -- those of a case
  pub bytes_of_case : (seq : ℕ) (c : Case) → Some c ≡ case_numbered seq j.standing.cases → image_at seq (state_of old).cases (contents_of seen old).images ≡ Some (image_in j.standing.shape (seen d) c.blocks c.len)
  bytes_of_case seq c found =
      image_found seq (λ (x : Case). image_in j.standing.shape (seen d) x.blocks x.len) j.standing.cases
      ∙ ap (option_map (λ (x : Case). image_in j.standing.shape (seen d) x.blocks x.len)) (sym found)

-- what is as long as the case of this number has the length of each case of this number
pub long_as : (s : ArchiveState) (seq n : ℕ) (x y : Case) → HasCase s seq x → n ≡ x.len → case_numbered seq s.cases ≡ Some y → n ≡ y.len
long_as s seq n x y has is at = is ∙ ap (λ (c : Case). c.len) (inside (sym has.1 ∙ at))
  where
    inside : Some x ≡ Some y → x ≡ y
    inside e = cc
