-- Laws of the record Store.
use Rattle.std.proofs.Common.{◌≡◌, ◌≢◌, ◌⊎◌, inl, inr, ⊎_elim, ℕ, ◌+◌, ◌-◌, ◌*◌, ◌^◌, ◌<◌, ◌≤◌, Bool, false, not, nat_eq, ◌==◌, ◌&&◌, List, [], ◌∷◌, ◌++◌, length, replicate, take, drop, slice_index, refl, sym, ap, ◌∙◌, arith, None, append_assoc}
use Rattle.std.proofs.lemmas.List.{drop-drop, length-drop, take_at, drop_at}
use Rattle.std.proofs.lemmas.Bool.{or_parts, or_from, not-false, not_from_true, and_cases, and_left, and_right, le-ltb, ltb-false, eq-eqb, eqb-true, ne_eqb, eqb-false}
use Rattle.std.specs.Option.{option_or}
use Rattle.std.specs.List.{AllByRecursion, flat_map, list_any}
use Rattle.disk_model.specs.Places.{AreBytes, part}
use Rattle.disk_model.specs.PlaceLaws.{drop_bytes}
use Rattle.disk_model.specs.PartLaws.{part_split, part_length, part_bytes}
use Rattle.extents.specs.declared.run_list.Run.{Run}
use Rattle.extents.specs.Runs.{blocks_of, runs_of}
use Rattle.journal_layout.specs.declared.entry.Kind.{Kind}
use Rattle.journal_layout.specs.declared.entry.Kind.TheVariants.{Core, Exec}
use Rattle.journal_layout.specs.declared.faults.Field.TheVariants as named
use Rattle.journal_layout.specs.Layout.{number_bytes, field}
use Rattle.journal_layout.specs.Case.{Case, Origin}
use Rattle.journal_layout.specs.Record.{Store, rounded, kind_byte, flag_byte, run_bytes, store_facts, plain_size, record_size, body, plain, behind_gate, spelling}
use Rattle.journal_layout.specs.Reading.{kind_at, length_at, name_length_at, run_count_at, runs_at, store_runs, name_place, name_at, kind_of_byte, case_at, record_at}
use Rattle.journal_layout.specs.Folding.{Folded, is_among, is_name_of, used_blocks}
use Rattle.journal_layout.specs.Soundness.{IsSound, AreSpare, blocks_for}
use Rattle.journal_layout.specs.Checks.{damaged, first_failing, store_checks, name_checks, first_bad_run, runs_fault, block_count, padding_fault, body_fault, record_fault}
use Rattle.journal_layout.specs.Stands.{StandsFirst}
use Rattle.journal_layout.specs.ByteLaws.{number_read, field_spelled, field_small}
use Rattle.journal_layout.specs.CheckLaws.{HasHead, passes, passed, or_none, none_or, map_none, none_map}
use Rattle.journal_layout.specs.KindLaws.{body_of, record_of, kind_high}
use Rattle.journal_layout.specs.SpellLaws.{prints_kind, prints_length, prints_head, prints_zeros, rounded_up, length-runs}
use Rattle.journal_layout.specs.FoundLaws.{record_passes, put_together, zeros_found, byte_part, flag_short, flag_back, flag_found, some_number, joined}
use Rattle.journal_layout.specs.ChainLaws.{chain_of, blocks_back, shortest_back, blocks_counted}
use Rattle.journal_layout.specs.SpareLaws.{runs_pass, runs_passed}
use Rattle.journal_layout.specs.RunBytesLaws.{IsSmallRun, spare_runs_small, runs_read, runs_spelled, length-runs_at}

-- the conditions that hold if the checks up to the runs pass
record HasFacts (rest : List ℕ) (f : Folded) : Type 0 where
  pub next : f.next ≤ field rest 8 4
  pub kind : (slice_index rest 12 ≡ 1) ⊎ (slice_index rest 12 ≡ 2)
  pub pinned : slice_index rest 13 ≤ 1
  pub some_name : 0 < name_length_at rest
  pub short_name : name_length_at rest ≤ 128
  pub long : length_at rest ≡ rounded (48 + 8 * run_count_at rest + name_length_at rest)
  pub reserved : field rest 44 4 ≡ 0

kind_passes : (n : ℕ) → (n ≡ 1) ⊎ (n ≡ 2) → (not (n == 1) && not (n == 2)) ≡ false
kind_passes n h =
    ⊎_elim (λ e. and_left (not (n == 1)) (not (n == 2)) (not_from_true (n == 1) (eq-eqb n 1 e))) (λ e. and_right (not (n == 1)) (not (n == 2)) (not_from_true (n == 2) (eq-eqb n 2 e))) h

kind_passed : (n : ℕ) → (not (n == 1) && not (n == 2)) ≡ false → (n ≡ 1) ⊎ (n ≡ 2)
kind_passed n e =
    ⊎_elim (λ h. inl (eqb-true n 1 (not-false (n == 1) h))) (λ h. inr (eqb-true n 2 (not-false (n == 2) h))) (and_cases (not (n == 1)) (not (n == 2)) e)

facts_pass : (at : ℕ) (rest : List ℕ) (f : Folded) → HasFacts rest f → first_failing at (store_checks rest f) ≡ None
facts_pass at rest f h =
    passes at (store_checks rest f) (
      le-ltb (field rest 8 4) f.next h.next,
      (
        kind_passes (slice_index rest 12) h.kind,
        (
          le-ltb 1 (slice_index rest 13) h.pinned,
          (
            or_from _ _ (ne_eqb (name_length_at rest) 0 (λ e. absurd (omega (arith, e, h.some_name)))) (le-ltb 128 (name_length_at rest) h.short_name),
            (
              not_from_true _ (eq-eqb (rounded (48 + 8 * run_count_at rest + name_length_at rest)) (length_at rest) (sym h.long)),
              (not_from_true _ (eq-eqb (field rest 44 4) 0 h.reserved), tt),
            ),
          ),
        ),
      ),
    )

facts_passed : (at : ℕ) (rest : List ℕ) (f : Folded) → first_failing at (store_checks rest f) ≡ None → HasFacts rest f
facts_passed at rest f e =
    let h = passed at (store_checks rest f) e in
    let name = or_parts _ _ h.1.1.1.0 in
    record {
      next = ltb-false (field rest 8 4) f.next h.0;
      kind = kind_passed (slice_index rest 12) h.1.0;
      pinned = ltb-false 1 (slice_index rest 13) h.1.1.0;
      some_name = some_number (name_length_at rest) (eqb-false (name_length_at rest) 0 name.0);
      short_name = ltb-false 128 (name_length_at rest) name.1;
      long = sym (eqb-true (rounded (48 + 8 * run_count_at rest + name_length_at rest)) (length_at rest) (not-false _ h.1.1.1.1.0));
      reserved = eqb-true (field rest 44 4) 0 (not-false _ h.1.1.1.1.1.0);
    }

-- a name without NUL
nul_passes : (name : List ℕ) → AllByRecursion (λ (b : ℕ). b ≢ 0) name → is_among name 0 ≡ false
nul_passes [] h = refl
nul_passes (b ∷ rest) h = or_from (nat_eq 0 b) (list_any (nat_eq 0) rest) (ne_eqb 0 b (λ e. h.0 (sym e))) (nul_passes rest h.1)

nul_passed : (name : List ℕ) → is_among name 0 ≡ false → AllByRecursion (λ (b : ℕ). b ≢ 0) name
nul_passed [] e = tt
nul_passed (b ∷ rest) e =
    let h = or_parts (nat_eq 0 b) (list_any (nat_eq 0) rest) e in
    ((λ s. eqb-false 0 b h.0 (sym s)), nul_passed rest h.1)

-- the conditions that hold if the checks after the runs pass
record HasName (rest : List ℕ) (f : Folded) : Type 0 where
  pub enough : block_count (store_runs rest) ≡ blocks_for (field rest 32 8)
  pub no_nul : is_among (name_at rest) 0 ≡ false
  pub new_name : is_name_of f.cases (name_at rest) ≡ false

name_passes : (at : ℕ) (rest : List ℕ) (f : Folded) → HasName rest f → first_failing at (name_checks rest f) ≡ None
name_passes at rest f h =
    passes at (name_checks rest f) (
      not_from_true _ (eq-eqb (block_count (store_runs rest)) (blocks_for (field rest 32 8)) h.enough),
      (or_from (is_among (name_at rest) 0) (is_name_of f.cases (name_at rest)) h.no_nul h.new_name, tt),
    )

name_passed : (at : ℕ) (rest : List ℕ) (f : Folded) → first_failing at (name_checks rest f) ≡ None → HasName rest f
name_passed at rest f e =
    let h = passed at (name_checks rest f) e in
    let both = or_parts (is_among (name_at rest) 0) (is_name_of f.cases (name_at rest)) h.1.0 in
    record {
      enough = eqb-true (block_count (store_runs rest)) (blocks_for (field rest 32 8)) (not-false _ h.0);
      no_nul = both.0;
      new_name = both.1;
    }

kind_back : (k : Kind) → kind_of_byte (kind_byte k) ≡ k
kind_back Core = refl
kind_back Exec = refl

kind_known : (k : Kind) → (kind_byte k ≡ 1) ⊎ (kind_byte k ≡ 2)
kind_known Core = inl refl
kind_known Exec = inr refl

kind_found : (n : ℕ) → (n ≡ 1) ⊎ (n ≡ 2) → kind_byte (kind_of_byte n) ≡ n
kind_found n h = ⊎_elim (λ e. ap (λ (m : ℕ). kind_byte (kind_of_byte m)) e ∙ sym e) (λ e. ap (λ (m : ℕ). kind_byte (kind_of_byte m)) e ∙ sym e) h

-- The fields of the spelling of a Store, whatever bytes follow it.
module _ (c : Case) (tail : List ℕ) where
  abbrev zeros : List ℕ
  zeros = replicate (record_size (Store c) - plain_size (Store c)) 0

  prints_seq : c.seq < 2 ^ 32 → field (spelling (Store c) ++ tail) 8 4 ≡ c.seq
  unfolding behind_gate plain body store_facts number_bytes
  prints_seq small = number_read 4 c.seq [] small

  prints_case_kind : slice_index (spelling (Store c) ++ tail) 12 ≡ kind_byte c.origin.kind
  unfolding behind_gate plain body store_facts number_bytes
  prints_case_kind = refl

  prints_pinned : slice_index (spelling (Store c) ++ tail) 13 ≡ flag_byte c.pinned
  unfolding behind_gate plain body store_facts number_bytes
  prints_pinned = refl

  prints_name_length : length c.origin.name < 65536 → name_length_at (spelling (Store c) ++ tail) ≡ length c.origin.name
  unfolding behind_gate plain body store_facts number_bytes
  prints_name_length small = number_read 2 (length c.origin.name) [] small

  prints_pid : c.origin.pid < 2 ^ 32 → field (spelling (Store c) ++ tail) 16 4 ≡ c.origin.pid
  unfolding behind_gate plain body store_facts number_bytes
  prints_pid small = number_read 4 c.origin.pid [] small

  prints_signal : c.origin.signal < 2 ^ 32 → field (spelling (Store c) ++ tail) 20 4 ≡ c.origin.signal
  unfolding behind_gate plain body store_facts number_bytes
  prints_signal small = number_read 4 c.origin.signal [] small

  prints_time : c.origin.time < 2 ^ 64 → field (spelling (Store c) ++ tail) 24 8 ≡ c.origin.time
  unfolding behind_gate plain body store_facts number_bytes
  prints_time small = number_read 8 c.origin.time [] small

  prints_len : c.len < 2 ^ 64 → field (spelling (Store c) ++ tail) 32 8 ≡ c.len
  unfolding behind_gate plain body store_facts number_bytes
  prints_len small = number_read 8 c.len [] small

  prints_run_count : length (runs_of c.blocks) < 2 ^ 32 → run_count_at (spelling (Store c) ++ tail) ≡ length (runs_of c.blocks)
  unfolding behind_gate plain body store_facts number_bytes
  prints_run_count small = number_read 4 (length (runs_of c.blocks)) [] small

  prints_zero : field (spelling (Store c) ++ tail) 44 4 ≡ 0
  unfolding behind_gate plain body store_facts number_bytes
  prints_zero = refl

  runs_stand : drop 48 (spelling (Store c) ++ tail) ≡ ((flat_map run_bytes (runs_of c.blocks) ++ c.origin.name) ++ zeros) ++ tail
  unfolding behind_gate plain body store_facts number_bytes
  runs_stand = refl

  runs_front : drop 48 (spelling (Store c) ++ tail) ≡ flat_map run_bytes (runs_of c.blocks) ++ (c.origin.name ++ (zeros ++ tail))
  runs_front =
      runs_stand
      ∙ append_assoc (flat_map run_bytes (runs_of c.blocks) ++ c.origin.name) zeros tail
      ∙ append_assoc (flat_map run_bytes (runs_of c.blocks)) c.origin.name (zeros ++ tail)

  prints_runs : length (runs_of c.blocks) < 2 ^ 32 → AllByRecursion IsSmallRun (runs_of c.blocks) → store_runs (spelling (Store c) ++ tail) ≡ runs_of c.blocks
  prints_runs few small =
      ap (runs_at (drop 48 (spelling (Store c) ++ tail))) (prints_run_count few)
      ∙ ap (λ (l : List ℕ). runs_at l (length (runs_of c.blocks))) runs_front
      ∙ runs_read (runs_of c.blocks) (c.origin.name ++ (zeros ++ tail)) small

  prints_name : length (runs_of c.blocks) < 2 ^ 32 → length c.origin.name < 65536 → name_at (spelling (Store c) ++ tail) ≡ c.origin.name
  unfolding part
  prints_name few short =
      let b = spelling (Store c) ++ tail in
      let n = length (runs_of c.blocks) in
      ap (λ (m : ℕ). take (name_length_at b) (drop (48 + 8 * m) b)) (prints_run_count few)
      ∙ ap (λ (m : ℕ). take m (drop (48 + 8 * n) b)) (prints_name_length short)
      ∙ ap (take (length c.origin.name))
      (sym (drop-drop (8 * n) 48 b)
      ∙ ap (drop (8 * n)) runs_front
      ∙ drop_at (flat_map run_bytes (runs_of c.blocks)) (c.origin.name ++ (zeros ++ tail)) (8 * n) (length-runs (runs_of c.blocks)))
      ∙ take_at c.origin.name (zeros ++ tail) (length c.origin.name) refl

same_origin : (pid signal time pid2 signal2 time2 : ℕ) (kind kind2 : Kind) (name name2 : List ℕ) → kind ≡ kind2 → name ≡ name2 → pid ≡ pid2 → signal ≡ signal2 → time ≡ time2
    → ◌≡◌ {A = Origin} (record { kind = kind; name = name; pid = pid; signal = signal; time = time }) (record { kind = kind2; name = name2; pid = pid2; signal = signal2; time = time2 })
same_origin pid signal time pid2 signal2 time2 kind kind2 name name2 a b c d e = cc

same_case : (seq len seq2 len2 : ℕ) (origin origin2 : Origin) (blocks blocks2 label label2 : List ℕ) (pinned pinned2 : Bool)
    → seq ≡ seq2 → origin ≡ origin2 → pinned ≡ pinned2 → len ≡ len2 → blocks ≡ blocks2 → label ≡ label2
    → ◌≡◌ {A = Case} (record { seq = seq; origin = origin; pinned = pinned; len = len; blocks = blocks; label = label })
    (record { seq = seq2; origin = origin2; pinned = pinned2; len = len2; blocks = blocks2; label = label2 })
same_case seq len seq2 len2 origin origin2 blocks blocks2 label label2 pinned pinned2 a b c d e f = cc

-- a Store record that is written is read back
pub store_again : (limit at : ℕ) (c : Case) (tail : List ℕ) (f : Folded) → limit ≤ 16777216 → record_size (Store c) < 2 ^ 32 → record_size (Store c) + 1 ≤ length (spelling (Store c) ++ tail) → IsSound limit f (Store c)
    → (record_fault limit at (spelling (Store c) ++ tail) f ≡ None) × (record_at (spelling (Store c) ++ tail) ≡ Store c)
store_again limit at c tail f low small in_half sound =
    let b = spelling (Store c) ++ tail in
    let rs = runs_of c.blocks in
    let fine = sound.2 in
    let up = rounded_up (plain_size (Store c)) in
    let few : length rs < 2 ^ 32 = omega arith in
    let short : length c.origin.name ≤ 128 = fine.origin.name.short in
    let some : 1 ≤ length c.origin.name = fine.origin.name.some in
    let spare : AreSpare limit (used_blocks f.cases) (blocks_of rs) = rw (blocks_back c.blocks) fine.spare in
    let chain = chain_of c.blocks in
    let count = prints_run_count c tail few in
    let name_length = prints_name_length c tail (omega arith) in
    let runs = prints_runs c tail few (spare_runs_small limit (used_blocks f.cases) None rs low chain spare) in
    let name = prints_name c tail few (omega arith) in
    let len = prints_len c tail fine.bytes in
    let pinned = prints_pinned c tail in
    let kind = prints_case_kind c tail in
    let seq = prints_seq c tail sound.1 in
    let origin = same_origin _ _ _ _ _ _ _ _ _ _ (ap kind_of_byte kind ∙ kind_back c.origin.kind) name (prints_pid c tail fine.origin.pid) (prints_signal c tail fine.origin.signal) (prints_time c tail fine.origin.time) in
    let size : 48 + 8 * run_count_at b + name_length_at b ≡ plain_size (Store c) = ap (λ (n : ℕ). 48 + 8 * n + name_length_at b) count ∙ ap (λ (n : ℕ). 48 + 8 * length rs + n) name_length in
    let facts : HasFacts b f = record {
      next = rw seq sound.0;
      kind = rw kind (kind_known c.origin.kind);
      pinned = rw pinned (flag_short c.pinned);
      some_name = rw name_length some;
      short_name = rw name_length short;
      long = prints_length (Store c) tail small ∙ ap rounded (sym size);
      reserved = prints_zero c tail;
    } in
    let behind : HasName b f = record {
      enough = ap block_count runs ∙ sym (blocks_counted rs) ∙ ap length (blocks_back c.blocks) ∙ fine.enough ∙ ap blocks_for (sym len);
      no_nul = ap (λ (l : List ℕ). is_among l 0) name ∙ nul_passes c.origin.name fine.origin.name.no_nul;
      new_name = ap (is_name_of f.cases) name ∙ fine.new_name;
    } in
    let good : first_bad_run limit (used_blocks f.cases) None 48 (store_runs b) ≡ None = ap (first_bad_run limit (used_blocks f.cases) None 48) runs ∙ runs_pass limit (used_blocks f.cases) None 48 rs chain spare in
    let padded : padding_fault at b (name_place b + name_length_at b) ≡ None = ap (padding_fault at b) size ∙ prints_zeros (Store c) tail at small in (
      record_passes limit at b f (prints_head (Store c) tail f.version (kind_high limit f (Store c) sound) small in_half)
          (body_of limit at b f (Store c) (prints_kind (Store c) tail)
          ∙ none_or (first_failing at (store_checks b f)) _ (facts_pass at b f facts)
          (none_or (runs_fault limit at b f) _ (none_map (damaged at named.Run) (first_bad_run limit (used_blocks f.cases) None 48 (store_runs b)) good)
          (none_or (first_failing at (name_checks b f)) (padding_fault at b (name_place b + name_length_at b)) (name_passes at b f behind) padded))),
      record_of b (Store c) (prints_kind (Store c) tail)
          ∙ ap (λ (x : Case). Store x)
          (same_case _ _ _ _ _ _ _ _ _ _ _ _ seq origin (ap (λ (n : ℕ). n == 1) pinned ∙ flag_back c.pinned) len (ap blocks_of runs ∙ blocks_back c.blocks) (sym fine.no_label)),
    )

-- The fields of bytes that pass the checks of a Store.
module _ (rest : List ℕ) (f : Folded) (are : AreBytes rest) (head : HasHead f.version rest) (facts : HasFacts rest f) where
  -- the places of the record up to its padding lie in the bytes
  within : 48 + 8 * run_count_at rest + name_length_at rest ≤ length rest
  within =
      let in_half = head.in_half in
      let long = facts.long in
      omega (arith, rounded_up (48 + 8 * run_count_at rest + name_length_at rest))

  runs_counted : length (store_runs rest) ≡ run_count_at rest
  runs_counted = length-runs_at (drop 48 rest) (run_count_at rest)

  name_counted : length (name_at rest) ≡ name_length_at rest
  name_counted = part_length rest (name_place rest) (name_length_at rest) within

  flags_spelled : part rest 12 2 ≡ kind_byte (kind_of_byte (slice_index rest 12)) ∷ flag_byte (slice_index rest 13 == 1) ∷ []
  flags_spelled =
      part_split rest 12 1 1
      ∙ ap (λ (l : List ℕ). l ++ part rest 13 1) (byte_part rest 12 (omega (arith, within)) ∙ ap (λ (n : ℕ). n ∷ []) (sym (kind_found (slice_index rest 12) facts.kind)))
      ∙ ap (λ (l : List ℕ). kind_byte (kind_of_byte (slice_index rest 12)) ∷ l) (byte_part rest 13 (omega (arith, within)) ∙ ap (λ (n : ℕ). n ∷ []) (sym (flag_found (slice_index rest 13) facts.pinned)))

  zero_spelled : part rest 44 4 ≡ replicate 4 0
  unfolding number_bytes
  zero_spelled = sym (field_spelled 4 44 rest are (omega (arith, within))) ∙ ap (number_bytes 4) facts.reserved

  facts_split : part rest 8 40
      ≡ part rest 8 4 ++ part rest 12 2 ++ part rest 14 2 ++ part rest 16 4 ++ part rest 20 4 ++ part rest 24 8 ++ part rest 32 8 ++ part rest 40 4 ++ part rest 44 4
  facts_split =
      part_split rest 8 36 4
      ∙ ap (λ (l : List ℕ). l ++ part rest 44 4) (part_split rest 8 32 4
      ∙ ap (λ (l : List ℕ). l ++ part rest 40 4) (part_split rest 8 24 8
      ∙ ap (λ (l : List ℕ). l ++ part rest 32 8) (part_split rest 8 16 8
      ∙ ap (λ (l : List ℕ). l ++ part rest 24 8) (part_split rest 8 12 4
      ∙ ap (λ (l : List ℕ). l ++ part rest 20 4) (part_split rest 8 8 4
      ∙ ap (λ (l : List ℕ). l ++ part rest 16 4) (part_split rest 8 6 2
      ∙ ap (λ (l : List ℕ). l ++ part rest 14 2) (part_split rest 8 4 2)))))))

  facts_spelled : runs_of (blocks_of (store_runs rest)) ≡ store_runs rest → part rest 8 40 ≡ store_facts (case_at rest)
  unfolding store_facts
  facts_spelled same =
      let a = field_spelled 4 8 rest are (omega (arith, within)) in
      let b = flags_spelled in
      let c = field_spelled 2 14 rest are (omega (arith, within)) in
      let c2 : number_bytes 2 (length (name_at rest)) ≡ number_bytes 2 (name_length_at rest) = ap (number_bytes 2) name_counted in
      let d = field_spelled 4 16 rest are (omega (arith, within)) in
      let e = field_spelled 4 20 rest are (omega (arith, within)) in
      let g = field_spelled 8 24 rest are (omega (arith, within)) in
      let h = field_spelled 8 32 rest are (omega (arith, within)) in
      let i = field_spelled 4 40 rest are (omega (arith, within)) in
      let i2 : number_bytes 4 (length (runs_of (blocks_of (store_runs rest)))) ≡ number_bytes 4 (run_count_at rest) = ap (λ (l : List Run). number_bytes 4 (length l)) same ∙ ap (number_bytes 4) runs_counted in
      facts_split
      ∙ put_facts (part rest 8 4) (part rest 12 2) (part rest 14 2) (part rest 16 4) (part rest 20 4) (part rest 24 8) (part rest 32 8) (part rest 40 4) (part rest 44 4) _ _ _ _ _ _ _ _ _
      (sym a) b (sym c ∙ sym c2) (sym d) (sym e) (sym g) (sym h) (sym i ∙ sym i2) zero_spelled
    where
      put_facts : (a b c d e g h i j a2 b2 c2 d2 e2 g2 h2 i2 j2 : List ℕ) → a ≡ a2 → b ≡ b2 → c ≡ c2 → d ≡ d2 → e ≡ e2 → g ≡ g2 → h ≡ h2 → i ≡ i2 → j ≡ j2
          → a ++ b ++ c ++ d ++ e ++ g ++ h ++ i ++ j ≡ a2 ++ b2 ++ c2 ++ d2 ++ e2 ++ g2 ++ h2 ++ i2 ++ j2
      put_facts a b c d e g h i j a2 b2 c2 d2 e2 g2 h2 i2 j2 p q r s t u v w x = cc

  runs_found : part rest 48 (8 * run_count_at rest) ≡ flat_map run_bytes (store_runs rest)
  unfolding part
  runs_found = runs_spelled (run_count_at rest) (drop 48 rest) (drop_bytes 48 rest are) (omega (arith, within, length-drop 48 rest))

  body_spelled : runs_of (blocks_of (store_runs rest)) ≡ store_runs rest → part rest 8 (40 + 8 * run_count_at rest + name_length_at rest) ≡ body (Store (case_at rest))
  unfolding body
  body_spelled same =
      let n = 8 * run_count_at rest in
      let m = name_length_at rest in
      let e : 8 + (40 + n) ≡ 48 + n = omega arith in
      part_split rest 8 (40 + n) m
      ∙ ap (λ (l : List ℕ). l ++ part rest (8 + (40 + n)) m) (part_split rest 8 40 n)
      ∙ joined (part rest 8 40) (part rest 48 n) (part rest (8 + (40 + n)) m) (store_facts (case_at rest)) (flat_map run_bytes (runs_of (blocks_of (store_runs rest)))) (name_at rest)
      (facts_spelled same) (runs_found ∙ ap (flat_map run_bytes) (sym same)) (ap (λ (k : ℕ). part rest k m) e)

-- a Store record that is read is in the grammar
pub store_found : (limit at : ℕ) (rest : List ℕ) (f : Folded) → AreBytes rest → slice_index rest 0 ≡ 165 → HasHead f.version rest → kind_at rest ≡ 1
    → body_fault limit at rest f ≡ None → StandsFirst limit rest f (Store (case_at rest)) × (record_size (Store (case_at rest)) ≡ length_at rest)
store_found limit at rest f are open_gate head kind e =
    let c = case_at rest in
    let rs = store_runs rest in
    let checks = first_failing at (store_checks rest f) in
    let bad = runs_fault limit at rest f in
    let named_so = first_failing at (name_checks rest f) in
    let pad = padding_fault at rest (name_place rest + name_length_at rest) in
    let one = or_none checks (option_or bad (option_or named_so pad)) (sym (body_of limit at rest f (Store c) kind) ∙ e) in
    let two = or_none bad (option_or named_so pad) one.1 in
    let three = or_none named_so pad two.1 in
    let facts = facts_passed at rest f one.0 in
    let name = name_passed at rest f three.0 in
    let good = runs_passed limit (used_blocks f.cases) None 48 rs (map_none (damaged at named.Run) (first_bad_run limit (used_blocks f.cases) None 48 rs) two.0) in
    let same = shortest_back None rs good.0 in
    let count = runs_counted rest f are head facts in
    let name_length = name_counted rest f are head facts in
    let size : plain_size (Store c) ≡ 48 + 8 * run_count_at rest + name_length_at rest =
    ap (λ (l : List Run). 48 + 8 * length l + length (name_at rest)) same ∙ ap (λ (n : ℕ). 48 + 8 * n + length (name_at rest)) count ∙ ap (λ (n : ℕ). 48 + 8 * run_count_at rest + n) name_length in
    let long : length_at rest ≡ record_size (Store c) = facts.long ∙ ap rounded (sym size) in
    let n = 48 + 8 * run_count_at rest + name_length_at rest in
    let in_half = head.in_half in
    let exact = facts.long in
    let up = rounded_up n in (
      record {
        spelled =
            put_together f.version rest (Store c) (40 + 8 * run_count_at rest + name_length_at rest) are open_gate head kind long (omega (arith, size)) (body_spelled rest f are head facts same)
            (ap (λ (k : ℕ). part rest k (rounded k - k)) size
            ∙ zeros_found at rest n (rounded n) three.1 facts.long up (omega arith)
            ∙ ap (λ (k : ℕ). replicate (rounded k - k) 0) (sym size));
        in_half = omega (arith, long);
        sound = (
          facts.next,
          field_small rest 8 4 are,
          record {
            origin = record {
              name = record {
                some = rw name_length facts.some_name;
                short = rw name_length facts.short_name;
                bytes = part_bytes rest (name_place rest) (name_length_at rest) are;
                no_nul = nul_passed (name_at rest) name.no_nul;
              };
              pid = field_small rest 16 4 are;
              signal = field_small rest 20 4 are;
              time = field_small rest 24 8 are;
            };
            new_name = name.new_name;
            bytes = field_small rest 32 8 are;
            enough = blocks_counted rs ∙ name.enough;
            spare = good.1;
            no_label = refl;
          },
        );
      },
      sym long,
    )
