-- Laws of runs in the bytes of a record.
use Rattle.std.proofs.Common.{◌≡◌, ℕ, zero, suc, ◌+◌, ◌*◌, ◌^◌, ◌<◌, ◌≤◌, List, [], ◌∷◌, ◌++◌, length, take, drop, refl, sym, ap, ◌∙◌, arith, Option, Some}
use Rattle.std.proofs.Math.Seq.{take-add}
use Rattle.std.proofs.lemmas.List.{length-drop}
use Rattle.std.specs.List.{AllByRecursion, flat_map}
use Rattle.disk_model.specs.Places.{AreBytes, part}
use Rattle.disk_model.specs.PlaceLaws.{drop_bytes}
use Rattle.extents.specs.declared.run_list.Run.{Run}
use Rattle.extents.specs.Runs.{run_blocks, blocks_of}
use Rattle.journal_layout.specs.Layout.{number_bytes, field}
use Rattle.journal_layout.specs.Record.{run_bytes}
use Rattle.journal_layout.specs.Reading.{runs_at}
use Rattle.journal_layout.specs.Soundness.{AreSpare}
use Rattle.journal_layout.specs.ByteLaws.{number_read, field_spelled}
use Rattle.journal_layout.specs.ChainLaws.{AreInChain}
use Rattle.journal_layout.specs.SpareLaws.{run_within, spare_rest}

-- both numbers of a run fit their bytes
abbrev pub IsSmallRun : Run → Type 0
IsSmallRun r = (r.start < 2 ^ 32) × (r.count < 2 ^ 32)

pub spare_runs_small : (limit : ℕ) (used : List ℕ) (end : Option ℕ) (rs : List Run) → limit ≤ 16777216 → AreInChain end rs → AreSpare limit used (blocks_of rs) → AllByRecursion IsSmallRun rs
spare_runs_small limit used end [] low chain spare = tt
spare_runs_small limit used end (r ∷ rest) low chain spare =
    let within = run_within limit used r rest chain.0 spare in
    ((omega arith, omega arith), spare_runs_small limit (used ++ run_blocks r) (Some (r.start + r.count)) rest low chain.2 (spare_rest limit used r rest spare))

-- runs that are written are read again, and the other way round
pub runs_read : (rs : List Run) (tail : List ℕ) → AllByRecursion IsSmallRun rs → runs_at (flat_map run_bytes rs ++ tail) (length rs) ≡ rs
unfolding run_bytes number_bytes
runs_read [] tail small = refl
runs_read (r ∷ rs) tail small =
    ap (λ (n : ℕ). record { start = n; count = field (flat_map run_bytes (r ∷ rs) ++ tail) 4 4 } ∷ runs_at (flat_map run_bytes rs ++ tail) (length rs)) (number_read 4 r.start [] small.0.0)
    ∙ ap (λ (n : ℕ). record { start = r.start; count = n } ∷ runs_at (flat_map run_bytes rs ++ tail) (length rs)) (number_read 4 r.count [] small.0.1)
    ∙ ap (λ (l : List Run). r ∷ l) (runs_read rs tail small.1)

pub runs_spelled : (n : ℕ) (b : List ℕ) → AreBytes b → 8 * n ≤ length b → take (8 * n) b ≡ flat_map run_bytes (runs_at b n)
unfolding run_bytes part
runs_spelled zero b are within = refl
runs_spelled (suc n) b are within =
    let e : 8 * suc n ≡ 8 + 8 * n = omega arith in
    let front : take 8 b ≡ number_bytes 4 (field b 0 4) ++ number_bytes 4 (field b 4 4) =
    take-add 4 4 b
    ∙ ap (λ (l : List ℕ). l ++ take 4 (drop 4 b)) (sym (field_spelled 4 0 b are (omega arith)))
    ∙ ap (λ (l : List ℕ). number_bytes 4 (field b 0 4) ++ l) (sym (field_spelled 4 4 b are (omega arith))) in
    ap (λ (m : ℕ). take m b) e
    ∙ take-add 8 (8 * n) b
    ∙ ap (λ (l : List ℕ). l ++ take (8 * n) (drop 8 b)) front
    ∙ ap (λ (l : List ℕ). (number_bytes 4 (field b 0 4) ++ number_bytes 4 (field b 4 4)) ++ l) (runs_spelled n (drop 8 b) (drop_bytes 8 b are) (omega (arith, length-drop 8 b)))

pub length-runs_at : (b : List ℕ) (n : ℕ) → length (runs_at b n) ≡ n
length-runs_at b zero = refl
length-runs_at b (suc n) = ap suc (length-runs_at (drop 8 b) n)
