-- Bytes that are written again.
use Rattle.std.proofs.Common.{◌≡◌, ◌+◌, ℕ, true, List, [], ◌∷◌, length, Result, Ok, Err, is_ok, OnOk, subst, refl, sym, ap}
use Rattle.disk_model.specs.Calls.{Call, read, wrote, synced}
use Rattle.disk_model.specs.Holding.{Made, AreAgain, WritesAgain}

module _ {F : Type 0} (made : F → Call → F → Type 0) where
  -- what was made until some bytes are written again, and one piece more
  pub one_more : (at size : ℕ) (first old new : F) → (calls : List Call) × AreAgain at calls × Made made calls first old
      → (bytes : List ℕ) × (length bytes ≡ size) × Made made (wrote at true bytes ∷ read at true bytes ∷ []) old new
      → (calls : List Call) × AreAgain (at + size) calls × Made made calls first new
  one_more at size first old new had piece =
      let write = piece.2 in
      let fetch = write.1 in (
        wrote at true piece.0 ∷ read at true piece.0 ∷ had.0,
        (at, piece.0, refl, refl, ap (λ n. at + n) (sym piece.1), had.1),
        (write.0, (fetch.0, subst (λ f. Made made had.0 first f) fetch.1 had.2, fetch.2), write.2),
      )

  -- and a sync behind all of them
  pub and_synced : {T E : Type 0} → (at size : ℕ) (first old new : F) (r : Result T E) → (calls : List Call) × AreAgain at calls × Made made calls first old → at ≡ size
      → made old (synced (is_ok r)) new → OnOk r (WritesAgain made size first new)
  and_synced at size first old new (Ok x) had end last = (had.0, subst (λ n. AreAgain n had.0) end had.1, (old, had.2, last))
  and_synced at size first old new (Err e) had end last = tt {0}
