-- The cases of an archive after an append.
use Rattle.std.proofs.Common.{◌≡◌, ℕ, ◌+◌, ◌^◌, ◌<◌, ◌≤◌, Bool, List, [], ◌∷◌, ◌++◌, length, refl, sym, ap, ◌∙◌, subst, arith, Option, None, Some, true, false}
use Rattle.std.specs.Prelude.{slice_set, nat_lt}
use Rattle.std.specs.Str.{bytes_eq}
use Rattle.std.proofs.lemmas.List.{length-set}
use Rattle.std.proofs.lemmas.List.Elements.{All-set}
use Rattle.std.proofs.lemmas.List.Sums.{sum_by-append, sum_by-cons, sum_by-set}
use Rattle.disk_model.specs.declared.disk.Disk as disk
use Rattle.extents.specs.FreeSet.{is_free, uses, one_if}
use Rattle.journal_layout.specs.Case.{Case, numbered}
use Rattle.journal_layout.specs.LiveFinds.{store_sound}
use Rattle.journal_layout.specs.LiveLaws.{live_after}
use Rattle.journal_layout.specs.Soundness.{IsStorable}
use Rattle.journal_layout.specs.Standing.{folded_of, store_of}
use Rattle.case_journal.specs.Journaled.{Journaled, after_append}
use Rattle.intake.specs.Guarding.{Guards}
use Rattle.intake.specs.Balance.{Balances}
use Rattle.intake.specs.Live.{case_uses, cases_named}
use Rattle.intake.specs.Parts.{StreamParts}
use Rattle.intake.specs.Slots.{stream_at}
use Rattle.intake.specs.Sound.{IsArchiveSound, IsRunning, IsFineIfOpen, held_by, stream_uses, is_called, streams_named}

-- a stream became the last case: what it held is the case's
pub sound_stored : {D : Type 0} (g : disk.Ghosts D) (d d' : D) (j j' : Journaled) (most : ℕ) (flags flags' : List Bool) (streams streams' : List (Option StreamParts)) (slot : ℕ) (s : StreamParts) (b : Bool) (c : Case)
    → IsArchiveSound g d j most flags streams b → b ≡ false → slot < 8 → stream_at streams slot ≡ Some s → streams' ≡ slice_set streams slot None → Guards g d' j' → j' ≡ after_append j (store_of j.standing c)
    → j.standing.next < 2 ^ 32 → Balances flags s.facts.blocks flags' c.blocks → IsStorable j.standing.shape.data_blocks j.standing.cases c → c.origin.name ≡ s.facts.origin.name
    → IsArchiveSound g d' j' most flags' streams' b
sound_stored g d d' j j' most flags flags' streams streams' slot s b c sound on low is gone keeps now more bal storable called =
    subst (λ (k : Journaled). IsArchiveSound g d' k most flags' streams' b) (sym now)
    (subst (λ (x : List (Option StreamParts)). IsArchiveSound g d' (after_append j (store_of j.standing c)) most flags' x b) (sym gone) (record {
      shape = sound.shape;
      slots = length-set streams slot None ∙ sound.slots;
      runs = λ _. record {
        journal = refl;
        keeps = subst (Guards g d') now keeps;
        cases = live_after j.standing.shape.data_blocks (folded_of j.standing) (store_of j.standing c) r.cases (store_sound j.standing.shape.data_blocks (folded_of j.standing) c more storable);
        streams_fine = All-set (IsFineIfOpen most) streams slot None tt r.streams_fine;
        blocks = bal.long ∙ r.blocks;
        once = once;
        total = (let s1 = sum_by-set (λ (x : Option StreamParts). length (held_by x)) streams slot None None below in
            let e = ap (λ (x : Option StreamParts). length (held_by x)) is in
            let a = sum_by-append (λ (x : Case). length x.blocks) j.standing.cases (numbered j.standing.next c ∷ []) in
            let n = sum_by-cons (λ (x : Case). length x.blocks) (numbered j.standing.next c) [] in
            let q = bal.all in let h = r.total in omega (arith, s1, e, a, n, q, h));
        named = named;
      };
      none = λ off. absurd (let e : true ≡ false = sym off ∙ on in cc);
      doubts = (subst (Guards g d') now keeps).keeps.doubts;
    }))
  where
    r : IsRunning g d j most flags streams
    r = sound.runs on

    below : slot < length streams
    below = (let e = sound.slots in omega arith)

    once : (k : ℕ) → one_if (is_free flags' k) + case_uses (j.standing.cases ++ numbered j.standing.next c ∷ []) k + stream_uses (slice_set streams slot None) k ≡ one_if (nat_lt k j.standing.shape.data_blocks)
    once k =
        let s1 = sum_by-set (λ (x : Option StreamParts). uses (held_by x) k) streams slot None None below in
        let e = ap (λ (x : Option StreamParts). uses (held_by x) k) is in
        let a = sum_by-append (λ (x : Case). uses x.blocks k) j.standing.cases (numbered j.standing.next c ∷ []) in
        let n = sum_by-cons (λ (x : Case). uses x.blocks k) (numbered j.standing.next c) [] in
        let q = bal.each k in let h = r.once k in omega (arith, s1, e, a, n, q, h)

    named : (name : List ℕ) → cases_named (j.standing.cases ++ numbered j.standing.next c ∷ []) name + streams_named (slice_set streams slot None) name ≤ 1
    named name =
        let s1 = sum_by-set (λ (x : Option StreamParts). one_if (is_called name x)) streams slot None None below in
        let e = ap (λ (x : Option StreamParts). one_if (is_called name x)) is in
        let a = sum_by-append (λ (x : Case). one_if (bytes_eq x.origin.name name)) j.standing.cases (numbered j.standing.next c ∷ []) in
        let n = sum_by-cons (λ (x : Case). one_if (bytes_eq x.origin.name name)) (numbered j.standing.next c) [] in
        let f = ap (λ (x : List ℕ). one_if (bytes_eq x name)) called in
        let h = r.named name in omega (arith, s1, e, a, n, f, h)
