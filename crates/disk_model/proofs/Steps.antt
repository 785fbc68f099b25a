-- One note more: what it makes of the bytes, of the outcomes of a crash, and of the moments.
use Rattle.std.proofs.Common.{◌≡◌, ◌⊎◌, inl, inr, ℕ, ◌+◌, ◌≤◌, List, [], ◌∷◌, ◌++◌, length, take, Vec, Result, Ok, Err, OnOk, OnErr, IsTrue, true, sym, ◌∙◌, ap, subst, arith, length-append}
use Rattle.std.proofs.lemmas.List.{take_all, take-append-le}
use Rattle.std.proofs.lemmas.List.Sums.{fold_push}
use Rattle.std.proofs.lemmas.Bool.{cases_lt}
use Rattle.std.specs.declared.alloc.Global.{Global}
use Rattle.disk_model.specs.Places.{AreBytes, overwritten}
use Rattle.disk_model.specs.PlaceLaws.{same_as_it_was}
use Rattle.disk_model.specs.Backing.{Opens}
use Rattle.disk_model.specs.Notes.{Held, after, stable, held, written, MayLeave, LeftSince, Fits, AllFit}
use Rattle.disk_model.specs.NoteLaws.{held_kept}
use Rattle.disk_model.specs.declared.note.Note.{Note}
use Rattle.disk_model.specs.declared.note.Note.TheVariants.{Wrote, Synced}

pushed_fit : (n : ℕ) (notes : List Note) (note : Note) → AllFit n notes → Fits n note → AllFit n (notes ++ note ∷ [])
pushed_fit n [] note fit fits = (fits, tt)
pushed_fit n (x ∷ notes) note fit fits = (fit.0, pushed_fit n notes note fit.1 fits)

module _ (first : List ℕ) (notes new : List Note) (note : Note) (is : new ≡ notes ++ note ∷ []) where
  pub fit_more : (n : ℕ) → AllFit n notes → Fits n note → AllFit n new
  fit_more n fit fits = subst (AllFit n) (sym is) (pushed_fit n notes note fit fits)

  pub held_more : held first new ≡ after (held first notes) note
  held_more = ap (held first) is ∙ fold_push after (stable first) notes note

  before : (k : ℕ) → k ≤ length notes → take k new ≡ take k notes
  before k le = ap (take k) is ∙ take-append-le k notes (note ∷ []) le

  longer : length new ≡ length notes + 1
  longer = ap length is ∙ length-append notes (note ∷ [])

  earlier : (k : ℕ) (c : List ℕ) → k ≤ length notes → MayLeave (held first (take k new)) c → MayLeave (held first (take k notes)) c
  earlier k c le left = subst (λ (l : List Note). MayLeave (held first l) c) (before k le) left

  pub since_more : (t : ℕ) (c : List ℕ) → t ≤ length notes → LeftSince first new t c → LeftSince first notes t c ⊎ MayLeave (held first new) c
  since_more t c le left =
      elim (cases_lt (length notes) left.0) as (λ _. LeftSince first notes t c ⊎ MayLeave (held first new) c) [
        | inl past ↦ inr (subst (λ (l : List Note). MayLeave (held first l) c) (take_all left.0 new (omega (arith, longer, past))) left.3)
        | inr within ↦ inl (left.0, left.1, within, earlier left.0 c within left.3)
      ]

  pub since_kept : (t : ℕ) (c : List ℕ) → t ≤ length notes → LeftSince first notes t c → LeftSince first new t c
  since_kept t c le left =
      (left.0, left.1, omega (arith, longer, left.2), subst (λ (l : List Note). MayLeave (held first l) c) (sym (before left.0 left.2)) left.3)

  pub later : length notes ≤ length new
  later = omega (arith, longer)

  pub never_still : length new ≡ length notes → (c : List ℕ) → MayLeave (held first new) c → MayLeave (held first notes) c
  never_still same c left = absurd (omega (arith, longer, same))

module _ (first : List ℕ) (notes new : List Note) (present : List ℕ) (shown : present ≡ (held first notes).now) where
  pub synced_shown : new ≡ notes ++ Synced ∷ [] → present ≡ (held first new).now
  synced_shown is = shown ∙ ap (λ (h : Held). h.now) (sym (held_more first notes new Synced is))

  pub synced_settled : new ≡ notes ++ Synced ∷ [] → (length (held first new).since ≡ 0) × ((held first new).synced ≡ present)
  synced_settled is =
      let more = held_more first notes new Synced is in
      (ap (λ (h : Held). length h.since) more, ap (λ (h : Held). h.synced) more ∙ sym shown)

  synced_only : new ≡ notes ++ Synced ∷ [] → (c : List ℕ) → MayLeave (held first new) c → c ≡ present
  synced_only is c left = subst (λ (h : Held). MayLeave h c) (held_more first notes new Synced is) left ∙ sym shown

  pub synced_crash : new ≡ notes ++ Synced ∷ [] → AreBytes first → AllFit (length first) notes → (c : List ℕ) → MayLeave (held first new) c → MayLeave (held first notes) c
  synced_crash is are fit c left =
      subst (MayLeave (held first notes)) (sym (synced_only is c left ∙ shown)) (held_kept first notes are fit).now_stays

  pub wrote_shown : (at : ℕ) (bytes : Vec ℕ Global) → new ≡ notes ++ Wrote at bytes ∷ [] → overwritten present at bytes.items ≡ (held first new).now
  wrote_shown at bytes is =
      ap (λ (l : List ℕ). overwritten l at bytes.items) shown ∙ ap (λ (h : Held). h.now) (sym (held_more first notes new (Wrote at bytes) is))

-- A write, or one that changed nothing, takes no outcome away.
pub stays_written : {T E : Type 0} (r : Result T E) (old new : Held) (at : ℕ) (bytes : List ℕ) → OnOk r (new ≡ written old at bytes) → OnErr r (new ≡ old) → ((c : List ℕ) → MayLeave old c → AreBytes c)
    → (c : List ℕ) → MayLeave old c → MayLeave new c
stays_written (Ok x) old new at bytes is none are c left = subst (λ (h : Held). MayLeave h c) (sym is) (c, left, same_as_it_was at (length bytes) c, are c left)
stays_written (Err e) old new at bytes is none are c left = subst (λ (h : Held). MayLeave h c) (sym none) left

-- A write leaves any bytes in its range.
pub opens_written : {T E : Type 0} (r : Result T E) (old new : Held) (at : ℕ) (bytes : List ℕ) → OnOk r (new ≡ written old at bytes)
    → OnOk r (IsTrue true → Opens at (length bytes) (MayLeave old) (MayLeave new))
opens_written (Ok x) old new at bytes is = λ _ b c left same are. subst (λ (h : Held). MayLeave h c) (sym is) (b, left, same, are)
opens_written (Err e) old new at bytes is = tt
