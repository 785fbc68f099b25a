-- What is known of the registers of a frame that a row leads to.
use Rattle.std.proofs.Common.{◌≡◌, ◌⊎◌, ⊎_elim, ◌<◌, ℕ, zero, suc, Bool, true, false, cond, [], ◌∷◌, Option, None, get_or, set, ltb, refl, ap, ◌∙◌, arith}
use Rattle.std.proofs.lemmas.Bool.{lt-ltb, both_ways}
use Rattle.std.proofs.lemmas.List.{get_or-set_other}
use Rattle.std.proofs.lemmas.List.FromFn.{get_or-map-range_with_len}
use Rattle.address_space.specs.Source.{Space}
use Rattle.unwind.specs.declared.rows.Row.{Row}
use Rattle.unwind.specs.ByEntry.{led_to}
use Rattle.unwind.specs.Registers.{Registers, known, without}
use Rattle.unwind.specs.Values.{register_by, registers_by}
use Rattle.unwind.specs.declared.by_entry.Return.{Return}
use Rattle.unwind.specs.declared.frame.Frame.{Frame}

-- a register of those that a row makes
made : (space : Space) (rs : Registers) (a : ℕ) (row : Row) (c : ℕ) → c < 32 → known (registers_by space rs a row) c ≡ register_by space rs a row c
unfolding known registers_by
made space rs a row c few =
    ap (λ t. cond t (get_or (registers_by space rs a row) c None) None) (lt-ltb c 32 few)
    ∙ get_or-map-range_with_len (register_by space rs a row) 0 32 c c None few (omega arith)

-- where one is not known the others are as they were
others_by : (rs : Registers) (r c : ℕ) (t : Bool) → (c ≡ r → ⊥) → get_or (cond t (set rs r None) rs) c None ≡ get_or rs c None
others_by rs r c true apart = get_or-set_other rs r c None None apart
others_by rs r c false apart = refl

others_within : (rs : Registers) (r c : ℕ) (t : Bool) → (c ≡ r → ⊥) → cond t (get_or (without rs r) c None) None ≡ cond t (get_or rs c None) None
unfolding without
others_within rs r c true apart = others_by rs r c (ltb r 32) apart
others_within rs r c false apart = refl

others : (rs : Registers) (r c : ℕ) → (c ≡ r → ⊥) → known (without rs r) c ≡ known rs c
unfolding known
others rs r c apart = others_within rs r c (ltb c 32) apart

-- and the one is not known
none_at : (rs : Registers) (i : ℕ) → get_or (set rs i None) i None ≡ None
none_at [] i = refl
none_at (x ∷ xs) zero = refl
none_at (x ∷ xs) (suc i) = none_at xs i

lost_by : (rs : Registers) (r : ℕ) (t : Bool) → cond t (get_or (cond t (set rs r None) rs) r None) None ≡ None
lost_by rs r true = none_at rs r
lost_by rs r false = refl

lost : (rs : Registers) (r : ℕ) → known (without rs r) r ≡ None
unfolding known without
lost rs r = lost_by rs r (ltb r 32)

-- either of two frames, of which execution was at the pc of the first alone
exact_of_either : (t : Bool) (x y : Frame) → x.exact ≡ true → y.exact ≡ false → (cond t x y).exact ≡ t
exact_of_either true x y h k = h
exact_of_either false x y h k = k

kept_of_either : (t : Bool) (x y : Frame) (c r : ℕ) (o : Option ℕ) → known x.registers c ≡ o → ((c ≡ r → ⊥) → known y.registers c ≡ o) → (t ≡ true) ⊎ (c ≡ r → ⊥) → known (cond t x y).registers c ≡ o
kept_of_either true x y c r o h k s = h
kept_of_either false x y c r o h k s = ⊎_elim (λ e. absurd (both_ways false refl e)) k s

lost_of_either : (t : Bool) (x y : Frame) (c : ℕ) (o : Option ℕ) → t ≡ false → known y.registers c ≡ o → known (cond t x y).registers c ≡ o
lost_of_either true x y c o is h = absurd (both_ways true is refl)
lost_of_either false x y c o is h = h

module _ (space : Space) (f : Frame) (a pc : ℕ) (row : Row) (r : Return) where
  abbrev regs : Registers
  regs = registers_by space f.registers a row

  pub stood : (led_to f a pc regs r).exact ≡ r.signal
  stood = exact_of_either r.signal _ _ refl refl

  -- each register is that of its rule, but that which the call wrote
  pub kept : (c : ℕ) → c < 32 → (r.signal ≡ true) ⊎ (c ≡ r.column → ⊥) → known (led_to f a pc regs r).registers c ≡ register_by space f.registers a row c
  kept c few s =
      let by_rule = made space f.registers a row c few in
      kept_of_either r.signal _ _ c r.column _ by_rule (λ apart. others regs r.column c apart ∙ by_rule) s

  pub written : r.signal ≡ false → known (led_to f a pc regs r).registers r.column ≡ None
  written is = lost_of_either r.signal _ _ r.column None is (lost regs r.column)
