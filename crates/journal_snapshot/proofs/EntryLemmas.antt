-- One entry more of those whose records are written.
use Rattle.std.proofs.Common.{◌≡◌, ◌+◌, ◌<◌, ◌≤◌, ◌++◌, ◌∷◌, [], ℕ, suc, List, length, take, get_or, ap, sym, ◌∙◌, arith}
use Rattle.std.proofs.Math.Seq.{take-suc}
use Rattle.std.proofs.lemmas.Grind.{flat_map-append}
use Rattle.std.proofs.lemmas.List.{append-nil, length-append}
use Rattle.std.proofs.lemmas.List.Folds.{length-flat_map-take}
use Rattle.journal_layout.specs.declared.entry.Entry.{Entry}
use Rattle.journal_snapshot.specs.declared.change.Change.{Change}
use Rattle.journal_snapshot.specs.Writing.{written_entry, written_entries}

module _ (ch : Change) (es : List Entry) (i : ℕ) (e : Entry) (below : i < length es) (is : e ≡ get_or es i e) where
  pub written_more : written_entries ch (take i es) ++ written_entry ch e ≡ written_entries ch (take (i + 1) es)
  written_more =
      let next : i + 1 ≡ suc i = omega arith in
      sym (ap (λ (k : ℕ). written_entries ch (take k es)) next
      ∙ ap (written_entries ch) (take-suc es i e below ∙ ap (λ (x : Entry). take i es ++ x ∷ []) (sym is))
      ∙ flat_map-append (written_entry ch) (take i es) (e ∷ [])
      ∙ ap (λ (l : List ℕ). written_entries ch (take i es) ++ l) (append-nil (written_entry ch e)))

  pub written_within : length (written_entries ch (take i es)) + length (written_entry ch e) ≤ length (written_entries ch es)
  written_within =
      let same : length (written_entry ch e) ≡ length (written_entry ch (get_or es i e)) = ap (λ (x : Entry). length (written_entry ch x)) is in
      omega (arith, length-flat_map-take (written_entry ch) es i e below, same)

  pub written_low : length (written_entries ch (take i es) ++ written_entry ch e) ≤ length (written_entries ch es)
  written_low = omega (arith, length-append (written_entries ch (take i es)) (written_entry ch e), written_within)
