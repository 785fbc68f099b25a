-- How replaying notes over the first bytes gives what a crash leaves.
use Rattle.std.proofs.Common.{◌≡◌, ℕ, suc, zero, ◌+◌, ◌<◌, List, [], ◌∷◌, ◌++◌, length, get_or, take, drop, fold, refl, sym, ◌∙◌, ap, arith}
use Rattle.std.proofs.lemmas.List.{take-append-drop, take_more}
use Rattle.std.proofs.lemmas.List.Sums.{fold-append}
use Rattle.disk_model.specs.Notes.{Held, after, stable, held, Fits, AllFit}
use Rattle.disk_model.specs.Crash.{crashed, struck, replayed, AllWrites}
use Rattle.disk_model.specs.declared.note.Note.{Note}
use Rattle.disk_model.specs.declared.note.Note.TheVariants.{Wrote, Synced}
use Rattle.disk_model.specs.declared.crash.Pick.{Pick}
use Rattle.disk_model.specs.declared.crash.Pick.TheVariants.{Whole}

pub fit_at : (n : ℕ) (notes : List Note) (k : ℕ) (d : Note) → AllFit n notes → k < length notes → Fits n (get_or notes k d)
fit_at n [] k d fit below = absurd (omega arith)
fit_at n (note ∷ notes) zero d fit below = fit.0
fit_at n (note ∷ notes) (suc k) d fit below = fit_at n notes k d fit.1 (omega arith)

pub fit_take : (n : ℕ) (notes : List Note) (k : ℕ) → AllFit n notes → AllFit n (take k notes)
fit_take n notes zero fit = tt
fit_take n [] (suc k) fit = tt
fit_take n (note ∷ notes) (suc k) fit = (fit.0, fit_take n notes k fit.1)

pub fit_drop : (n : ℕ) (notes : List Note) (k : ℕ) → AllFit n notes → AllFit n (drop k notes)
fit_drop n notes zero fit = fit
fit_drop n [] (suc k) fit = tt
fit_drop n (note ∷ notes) (suc k) fit = fit_drop n notes k fit.1

replayed_push : (pick : Pick) (bytes : List ℕ) (notes : List Note) (note : Note) → replayed pick bytes (notes ++ note ∷ []) ≡ struck pick (replayed pick bytes notes) note
replayed_push pick bytes [] note = refl
replayed_push pick bytes (x ∷ notes) note = replayed_push pick (struck pick bytes x) notes note

-- one turn of the loop
pub replayed_more : (pick : Pick) (bytes : List ℕ) (notes : List Note) (k : ℕ) (note : Note) → k < length notes → note ≡ get_or notes k note
    → replayed pick bytes (take (k + 1) notes) ≡ struck pick (replayed pick bytes (take k notes)) note
replayed_more pick bytes notes k note below is =
    ap (replayed pick bytes) (take_more notes k note below)
    ∙ replayed_push pick bytes (take k notes) (get_or notes k note)
    ∙ ap (struck pick (replayed pick bytes (take k notes))) (sym is)

-- what is left of writes that are whole is what reads give
whole_now : (h : Held) (notes : List Note) → (fold after h notes).now ≡ replayed Whole h.now notes
whole_now h [] = refl
whole_now h (Wrote at from ∷ notes) = whole_now (after h (Wrote at from)) notes
whole_now h (Synced ∷ notes) = whole_now (after h Synced) notes

crashed_writes : (pick : Pick) (h : Held) (notes : List Note) → AllWrites notes → crashed pick (fold after h notes) ≡ replayed pick (crashed pick h) notes
crashed_writes pick h [] writes = refl
crashed_writes pick h (Wrote at from ∷ notes) writes = crashed_writes pick (after h (Wrote at from)) notes writes.1
crashed_writes pick h (Synced ∷ notes) writes = absurd writes.0

-- the notes up to the last sync are whole, and of the writes after it there is what the crash leaves
pub crashed_is : (pick : Pick) (first : List ℕ) (notes : List Note) (k : ℕ) → held first (take k notes) ≡ stable (held first (take k notes)).now → AllWrites (drop k notes)
    → replayed pick (replayed Whole first (take k notes)) (drop k notes) ≡ crashed pick (held first notes)
crashed_is pick first notes k is_stable writes =
    ap (λ (b : List ℕ). replayed pick b (drop k notes)) (sym (whole_now (stable first) (take k notes)) ∙ ap (crashed pick) (sym is_stable))
    ∙ sym (crashed_writes pick (held first (take k notes)) (drop k notes) writes)
    ∙ ap (crashed pick) (sym (fold-append after (stable first) (take k notes) (drop k notes)) ∙ ap (held first) (take-append-drop k notes))
