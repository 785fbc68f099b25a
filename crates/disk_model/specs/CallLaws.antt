-- Honest calls of a file describe a disk.
use Rattle.std.proofs.Common.{◌≡◌, inl, inr, ⊎_elim, ℕ, zero, suc, ◌+◌, ◌≤◌, Bool, true, false, is_ok, List, [], ◌∷◌, length, Result, Ok, Err, refl, sym, ◌∙◌, ap, subst, arith}
use Rattle.disk_model.specs.Places.{AreBytes, part, overwritten, SameOutside}
use Rattle.disk_model.specs.PlaceLaws.{overwritten_bytes, overwritten_length, overwritten_outside, same_as_it_was}
use Rattle.disk_model.specs.Disk.{Elapses}
use Rattle.disk_model.specs.Notes.{Held, stable, written, MayLeave}
use Rattle.disk_model.specs.NoteLaws.{IsKept, stable_kept}
use Rattle.disk_model.specs.Backing.{IsFetched, IsPut, IsSynced}
use Rattle.disk_model.specs.GatheringLaws.{Laws}
use Rattle.disk_model.specs.Calls.{Call, read, wrote, synced, Story, torn_by, after_call, replay, Agrees, IsHonest, left_since, failed, Told, told}

torn_kept : (n : ℕ) (h : Held) (at : ℕ) (bytes left : List ℕ) → IsKept n h → at + length bytes ≤ n → length left ≡ length bytes → AreBytes left → IsKept n (torn_by h at bytes left)
torn_kept n h at bytes left kept fits long are =
    let within : at + length left ≤ length h.now = omega (arith, fits, kept.now_length, long) in
    let bytes_are = overwritten_bytes h.now at left kept.now_bytes are in
    record {
      now_length = overwritten_length h.now at left within ∙ kept.now_length;
      now_bytes = bytes_are;
      now_stays = (h.now, kept.now_stays, subst (λ (k : ℕ). SameOutside at k h.now (overwritten h.now at left)) long (overwritten_outside h.now at left within), bytes_are);
      left_length = λ c stays. stays.2.same_length ∙ kept.left_length stays.0 stays.1;
      left_bytes = λ c stays. stays.3;
    }

written_kept : (n : ℕ) (h : Held) (at : ℕ) (bytes : List ℕ) → IsKept n h → at + length bytes ≤ n → AreBytes bytes → IsKept n (written h at bytes)
written_kept n h at bytes kept fits are = torn_kept n h at bytes bytes kept fits refl are

settled_kept : (n : ℕ) (h : Held) → IsKept n h → IsKept n (stable h.now)
settled_kept n h kept = record {
  now_length = kept.now_length;
  now_bytes = kept.now_bytes;
  now_stays = refl;
  left_length = λ c is. ap length is ∙ kept.now_length;
  left_bytes = λ c is. subst AreBytes (sym is) kept.now_bytes;
}

call_kept : (kind at : ℕ) (ok : Bool) (bytes left first : List ℕ) (h : Held) → IsKept (length first) h → Agrees kind at ok bytes left first h.now → IsKept (length first) (after_call kind at ok bytes left h)
call_kept zero at ok bytes left first h kept agrees = kept
call_kept (suc zero) at true bytes left first h kept agrees = written_kept (length first) h at bytes kept agrees.0 agrees.1.0
call_kept (suc zero) at false bytes left first h kept agrees = torn_kept (length first) h at bytes left kept agrees.0 agrees.1.1.0 agrees.1.1.1
call_kept (suc (suc more)) at true bytes left first h kept agrees = settled_kept (length first) h kept
call_kept (suc (suc more)) at false bytes left first h kept agrees = kept

-- the properties of the file after honest calls
pub calls_kept : (story : Story) (calls : List Call) → IsHonest story calls → IsKept (length story.first) (replay story calls)
calls_kept story [] honest = stable_kept story.first honest
calls_kept story (call ∷ calls) honest =
    call_kept call.0 call.1 call.2 call.3 (story.left (length calls)) story.first (replay story calls) (calls_kept story calls honest.1) honest.0

since_within : (story : Story) (calls : List Call) (t : ℕ) (c : List ℕ) → left_since story calls t c → t ≤ length calls
since_within story [] t c since = since.0
since_within story (call ∷ calls) t c since = ⊎_elim (λ now. omega (arith, now.0)) (λ earlier. let le = since_within story calls t c earlier in omega (arith, le)) since

counts : (story : Story) (calls : List Call) (t : ℕ) (c : List ℕ) → t ≤ length calls → MayLeave (replay story calls) c → left_since story calls t c
counts story [] t c le left = (le, left)
counts story (call ∷ calls) t c le left = inl (omega (arith, le), left)

only : (story : Story) (calls : List Call) (c : List ℕ) → left_since story calls (length calls) c → MayLeave (replay story calls) c
only story [] c since = since.1
only story (call ∷ calls) c since = ⊎_elim (λ now. now.1) (λ earlier. let le = since_within story calls (length (call ∷ calls)) c earlier in absurd (omega (arith, le))) since

-- It keeps to the laws of a disk.
pub told_laws : (story : Story) → Laws (told story)
told_laws story = record {
  whole = λ d _. (calls_kept story d.calls d.honest).now_length;
  sized = λ d c _ left. (calls_kept story d.calls d.honest).left_length c left;
  seen_bytes = λ d _. (calls_kept story d.calls d.honest).now_bytes;
  left_bytes = λ d c _ left. (calls_kept story d.calls d.honest).left_bytes c left;
  seen_may_stay = λ d _. (calls_kept story d.calls d.honest).now_stays;
  counts_now = λ d t c le left. counts story d.calls t c le left;
  only_now = λ d c since. only story d.calls c since;
}

-- one call more
module _ (story : Story) (old new : Told story) (call : Call) (is : new.calls ≡ call ∷ old.calls) where
  abbrev then_calls : List Call
  then_calls = call ∷ old.calls

  longer : length new.calls ≡ length old.calls + 1
  longer = let e : length new.calls ≡ length then_calls = ap length is in omega (arith, e)

  held_is : replay story new.calls ≡ replay story then_calls
  held_is = ap (replay story) is

  passes : Elapses (told story).clock (told story).may_leave (told story).left_since old new
  passes = record {
    later = omega (arith, longer);
    nothing_else = λ t c le since. ⊎_elim
        (λ now. inr (subst (λ (h : Held). MayLeave h c) (sym held_is) now.1))
        (λ earlier. inl earlier)
        (subst (λ (l : List Call). left_since story l t c) is since);
    keeps = λ t c le since. subst (λ (l : List Call). left_since story l t c) (sym is) (inr since);
    still = λ same c left. absurd (omega (arith, same, longer));
  }

  agrees : Agrees call.0 call.1 call.2 call.3 (story.left (length old.calls)) story.first (replay story old.calls).now
  agrees = (subst (IsHonest story) is new.honest).0

  now_is : (replay story new.calls).now ≡ (replay story then_calls).now
  now_is = ap (λ (h : Held). h.now) held_is

  here : (c : List ℕ) → MayLeave (replay story new.calls) c → MayLeave (replay story then_calls) c
  here c left = subst (λ (h : Held). MayLeave h c) held_is left

  there : (c : List ℕ) → MayLeave (replay story then_calls) c → MayLeave (replay story new.calls) c
  there c left = subst (λ (h : Held). MayLeave h c) (sym held_is) left

  before : IsKept (length story.first) (replay story old.calls)
  before = calls_kept story old.calls old.honest

-- a read
pub told_read : {T E : Type 0} (story : Story) (old new : Told story) (r : Result T E) (at n : ℕ) (bytes : List ℕ) → length bytes ≡ n → new.calls ≡ read at (is_ok r) bytes ∷ old.calls → IsFetched (told story) r at n bytes old new
told_read story old new (Ok x) at n bytes long is =
    let call = read at true bytes in
    record {
      gives = λ _. agrees story old new call is refl ∙ ap (part (replay story old.calls).now at) long;
      seen = λ _. now_is story old new call is;
      crash = λ _. here story old new call is;
      stays = λ _. there story old new call is;
      time = passes story old new call is;
      cause = record { ok = ap failed is; err = tt };
      honesty = refl;
      size = refl;
    }
told_read story old new (Err e) at n bytes long is =
    let call = read at false bytes in
    record {
      gives = tt;
      seen = λ _. now_is story old new call is;
      crash = λ _. here story old new call is;
      stays = λ _. there story old new call is;
      time = passes story old new call is;
      cause = record { ok = tt; err = ap failed is };
      honesty = refl;
      size = refl;
    }

-- a write
pub told_wrote : {T E : Type 0} (story : Story) (old new : Told story) (r : Result T E) (at : ℕ) (bytes : List ℕ) → new.calls ≡ wrote at (is_ok r) bytes ∷ old.calls → IsPut (told story) r at bytes old new
told_wrote story old new (Ok x) at bytes is =
    let call = wrote at true bytes in
    let kept = before story old new call is in
    let fits = (agrees story old new call is).0 in
    let now = (replay story old.calls).now in
    record {
      written = λ _. now_is story old new call is;
      others = λ _. subst (λ (l : List ℕ). SameOutside at (length bytes) now l) (sym (now_is story old new call is)) (overwritten_outside now at bytes (omega (arith, fits, kept.now_length)));
      crash = λ _ c left. let torn = here story old new call is c left in (torn.0, torn.1, torn.2);
      stays = λ _ c left. there story old new call is c (c, left, same_as_it_was at (length bytes) c, kept.left_bytes c left);
      opens = λ _ b c left same are. there story old new call is c (b, left, same, are);
      moves = λ _. let more = longer story old new call is in omega (arith, more);
      time = passes story old new call is;
      cause = record { ok = ap failed is; err = tt };
      honesty = refl;
      size = refl;
    }
told_wrote story old new (Err e) at bytes is =
    let call = wrote at false bytes in
    let kept = before story old new call is in
    let agreed = agrees story old new call is in
    let now = (replay story old.calls).now in
    let left_there = story.left (length old.calls) in
    let long : length left_there ≡ length bytes = agreed.1.1.0 in
    let within : at + length left_there ≤ length now = omega (arith, agreed.0, kept.now_length, long) in
    record {
      written = tt;
      others = λ _. subst (λ (l : List ℕ). SameOutside at (length bytes) now l) (sym (now_is story old new call is))
          (subst (λ (k : ℕ). SameOutside at k now (overwritten now at left_there)) long (overwritten_outside now at left_there within));
      crash = λ _ c left. let torn = here story old new call is c left in (torn.0, torn.1, torn.2);
      stays = λ _ c left. there story old new call is c (c, left, same_as_it_was at (length bytes) c, kept.left_bytes c left);
      opens = tt;
      moves = tt;
      time = passes story old new call is;
      cause = record { ok = tt; err = ap failed is };
      honesty = refl;
      size = refl;
    }

-- a sync
pub told_synced : {T E : Type 0} (story : Story) (old new : Told story) (r : Result T E) → new.calls ≡ synced (is_ok r) ∷ old.calls → IsSynced (told story) r old new
told_synced story old new (Ok x) is =
    let call = synced true in
    let kept = before story old new call is in
    record {
      durable = λ _ c left. here story old new call is c left;
      seen = λ _. now_is story old new call is;
      crash = λ _ c left. subst (MayLeave (replay story old.calls)) (sym (here story old new call is c left)) kept.now_stays;
      time = passes story old new call is;
      cause = record { ok = ap failed is; err = tt };
      honesty = refl;
      size = refl;
    }
told_synced story old new (Err e) is =
    let call = synced false in
    record {
      durable = tt;
      seen = λ _. now_is story old new call is;
      crash = λ _. here story old new call is;
      time = passes story old new call is;
      cause = record { ok = tt; err = ap failed is };
      honesty = refl;
      size = refl;
    }
