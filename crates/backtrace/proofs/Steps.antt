-- One frame and those after it.
use Rattle.std.proofs.Common.{◌≡◌, ◌≤◌, ◌+◌, ◌-◌, ◌%◌, ℕ, zero, suc, Bool, true, false, not, eqb, List, [], ◌∷◌, Option, Some, None, Result, Ok, Err, refl, sym, ap, subst, ◌∙◌, arith}
use Rattle.std.specs.Prelude.{is_none}
use Rattle.std.proofs.lemmas.Bool.{eq-eqb}
use Rattle.backtrace.specs.Chain.{Memory, link_below, is_not_rising, first_holding, stop_at, led_to, caller, IsChainFrom, step_by, step, frames_behind, stop_behind, frames_from, stop_from, first_frame, chain, stop_of, told}
use Rattle.backtrace.specs.FrameWords.{rest_from, end_from}
use Rattle.backtrace.specs.declared.frames.Frame.{Frame}
use Rattle.backtrace.specs.declared.frames.Stop.{Stop}
use Rattle.backtrace.specs.declared.frames.Stop.TheVariants.{NotRising, ZeroLink, Misaligned, Unreadable, Limit}

-- where there is a reason it is the answer
stopped_by : (o : Option Stop) (next : Option Frame) (stop : Stop) → o ≡ Some stop → step_by o next ≡ Err stop
stopped_by (Some s) next stop h =
    let same : s ≡ stop = cc in ap (λ e. Err e) same
stopped_by None next stop h = cc

pub stopped : (m : Memory) (before : Option ℕ) (f : Frame) (stop : Stop) → stop_at m before f ≡ Some stop → step m before f ≡ Err stop
unfolding step
stopped m before f stop h = stopped_by (stop_at m before f) (caller m f) stop h

-- where there is none the caller is
called_by : (o : Option Stop) (next : Option Frame) (g : Frame) → o ≡ None → next ≡ Some g → step_by o next ≡ Ok g
called_by (Some s) next g h is = cc
called_by None (Some f) g h is =
    let same : f ≡ g = cc in ap (λ e. Ok e) same
called_by None None g h is = cc

pub called : (m : Memory) (before : Option ℕ) (f g : Frame) → stop_at m before f ≡ None → caller m f ≡ Some g → step m before f ≡ Ok g
unfolding step
called m before f g h is = called_by (stop_at m before f) (caller m f) g h is

-- and the other way
next_by : (o : Option Stop) (next : Option Frame) (g : Frame) → step_by o next ≡ Ok g → (o ≡ None) × (next ≡ Some g)
next_by (Some s) next g h = cc
next_by None (Some f) g h =
    let same : f ≡ g = cc in (refl, ap (λ e. Some e) same)
next_by None None g h = cc

pub next_called : (m : Memory) (before : Option ℕ) (f g : Frame) → step m before f ≡ Ok g → (stop_at m before f ≡ None) × (caller m f ≡ Some g)
unfolding step
next_called m before f g h = next_by (stop_at m before f) (caller m f) g h

-- what stops a frame where no other reason holds
ended_by : (r z a u l : Bool) (stop : Stop) (next : Option Frame) → is_none next ≡ u → step_by (first_holding ((r, NotRising) ∷ (z, ZeroLink) ∷ (a, Misaligned) ∷ (u, Unreadable) ∷ (l, Limit) ∷ [])) next ≡ Err stop
    → first_holding ((r, NotRising) ∷ (z, ZeroLink) ∷ (a, Misaligned) ∷ (u, Unreadable) ∷ (l, Limit) ∷ []) ≡ Some stop
ended_by true z a u l stop next none h = cc
ended_by false true a u l stop next none h = cc
ended_by false false true u l stop next none h = cc
ended_by false false false true l stop next none h = cc
ended_by false false false false true stop next none h = cc
ended_by false false false false false stop None none h = cc
ended_by false false false false false stop (Some g) none h = cc

led_alike : (i : ℕ) (o : Option (ℕ × ℕ)) → is_none (led_to i o) ≡ is_none o
led_alike i None = refl
led_alike i (Some w) = refl

pub ended : (m : Memory) (before : Option ℕ) (f : Frame) (stop : Stop) → step m before f ≡ Err stop → stop_at m before f ≡ Some stop
unfolding step
ended m before f stop h =
    ended_by (is_not_rising before f.fp) (eqb f.fp 0) (not (eqb (f.fp % 8) 0)) (is_none (link_below m f.fp)) (eqb f.index 1023) stop (caller m f) (led_alike (f.index + 1) (link_below m f.fp)) h

-- a caller has the next number
led_next : (i : ℕ) (o : Option (ℕ × ℕ)) (g : Frame) → led_to i o ≡ Some g → g.index ≡ i
led_next i None g h = cc
led_next i (Some w) g h =
    let same : (let f : Frame = record { index = i; pc = w.0; fp = w.1 } in f) ≡ g = cc in sym (ap (λ (f : Frame). f.index) same)

pub next_number : (m : Memory) (before : Option ℕ) (f g : Frame) → step m before f ≡ Ok g → g.index ≡ f.index + 1
next_number m before f g h = led_next (f.index + 1) (link_below m f.fp) g (next_called m before f g h).1

-- frame 1,023 has no caller
limited_by : (r z a u l : Bool) → l ≡ true → first_holding ((r, NotRising) ∷ (z, ZeroLink) ∷ (a, Misaligned) ∷ (u, Unreadable) ∷ (l, Limit) ∷ []) ≡ None → ⊥
limited_by true z a u l h none = cc
limited_by false true a u l h none = cc
limited_by false false true u l h none = cc
limited_by false false false true l h none = cc
limited_by false false false false true h none = cc
limited_by false false false false false h none = cc

pub limited : (m : Memory) (before : Option ℕ) (f g : Frame) → f.index ≡ 1023 → step m before f ≡ Ok g → ⊥
limited m before f g last h =
    limited_by (is_not_rising before f.fp) (eqb f.fp 0) (not (eqb (f.fp % 8) 0)) (is_none (link_below m f.fp)) (eqb f.index 1023) (eq-eqb f.index 1023 last) (next_called m before f g h).0

-- the frames after a frame are those after its caller
behind_last : (m : Memory) (before : Option ℕ) (f : Frame) (r : Result Frame Stop) → f.index ≡ 1023 → step m before f ≡ r → [] ≡ frames_behind (rest_from m (Some f.fp)) r
behind_last m before f (Ok g) last is = absurd (limited m before f g last is)
behind_last m before f (Err stop) last is = refl

behind_more : (m : Memory) (before : Option ℕ) (f : Frame) (n : ℕ) (r : Result Frame Stop) → f.index + suc n ≡ 1023 → step m before f ≡ r → frames_behind (frames_from m n (Some f.fp)) r ≡ frames_behind (rest_from m (Some f.fp)) r
behind_more m before f n (Ok g) left is =
    let number = next_number m before f g is in
    let same : n ≡ 1023 - g.index = omega arith in ap (λ k. frames_from m k (Some f.fp) g) same
behind_more m before f n (Err stop) left is = refl

frames_by : (m : Memory) (before : Option ℕ) (f : Frame) (n : ℕ) → f.index + n ≡ 1023 → frames_from m n before f ≡ f ∷ frames_behind (rest_from m (Some f.fp)) (step m before f)
unfolding frames_from
frames_by m before f zero last =
    ap (λ fs. f ∷ fs) (behind_last m before f (step m before f) (omega arith) refl)
frames_by m before f (suc n) left =
    ap (λ fs. f ∷ fs) (behind_more m before f n (step m before f) left refl)

pub frames_step : (m : Memory) (before : Option ℕ) (f : Frame) → f.index ≤ 1023 → rest_from m before f ≡ f ∷ frames_behind (rest_from m (Some f.fp)) (step m before f)
frames_step m before f few = frames_by m before f (1023 - f.index) (omega arith)

-- and they end for the same reason
stop_last : (m : Memory) (before : Option ℕ) (f : Frame) (r : Result Frame Stop) → f.index ≡ 1023 → step m before f ≡ r → stop_behind (λ next. Limit) r ≡ stop_behind (end_from m (Some f.fp)) r
stop_last m before f (Ok g) last is = absurd (limited m before f g last is)
stop_last m before f (Err stop) last is = refl

stop_more : (m : Memory) (before : Option ℕ) (f : Frame) (n : ℕ) (r : Result Frame Stop) → f.index + suc n ≡ 1023 → step m before f ≡ r → stop_behind (stop_from m n (Some f.fp)) r ≡ stop_behind (end_from m (Some f.fp)) r
stop_more m before f n (Ok g) left is =
    let number = next_number m before f g is in
    let same : n ≡ 1023 - g.index = omega arith in ap (λ k. stop_from m k (Some f.fp) g) same
stop_more m before f n (Err stop) left is = refl

stop_by : (m : Memory) (before : Option ℕ) (f : Frame) (n : ℕ) → f.index + n ≡ 1023 → stop_from m n before f ≡ stop_behind (end_from m (Some f.fp)) (step m before f)
unfolding stop_from
stop_by m before f zero last = stop_last m before f (step m before f) (omega arith) refl
stop_by m before f (suc n) left = stop_more m before f n (step m before f) left refl

pub stop_step : (m : Memory) (before : Option ℕ) (f : Frame) → f.index ≤ 1023 → end_from m before f ≡ stop_behind (end_from m (Some f.fp)) (step m before f)
stop_step m before f few = stop_by m before f (1023 - f.index) (omega arith)

-- where a frame is still to come nothing is told of the end
told_of : (m : Memory) (n : ℕ) (before : Option ℕ) (f : Frame) (stop : Stop) → None ≡ told (frames_from m n before f) stop
unfolding frames_from
told_of m zero before f stop = refl
told_of m (suc n) before f stop = refl

pub some_left : (m : Memory) (before : Option ℕ) (f : Frame) (stop : Stop) → None ≡ told (rest_from m before f) stop
some_left m before f stop = told_of m (1023 - f.index) before f stop

-- the frames are a chain
chained_by : (m : Memory) (before : Option ℕ) (f : Frame) (n : ℕ) (r : Result Frame Stop) → step m before f ≡ r
    → ((g : Frame) → r ≡ Ok g → (gs : List Frame) × (frames_from m n (Some f.fp) g ≡ g ∷ gs) × IsChainFrom m (Some f.fp) g gs (stop_from m n (Some f.fp) g))
    → (fs : List Frame) × (f ∷ frames_behind (frames_from m n (Some f.fp)) r ≡ f ∷ fs) × IsChainFrom m before f fs (stop_behind (stop_from m n (Some f.fp)) r)
chained_by m before f n (Ok g) is later =
    let rest = later g refl in
    let on = next_called m before f g is in
    (g ∷ rest.0, ap (λ fs. f ∷ fs) rest.1, (on.0, on.1, rest.2))
chained_by m before f n (Err stop) is later = ([], refl, ended m before f stop is)

last_by : (m : Memory) (before : Option ℕ) (f : Frame) (r : Result Frame Stop) → f.index ≡ 1023 → step m before f ≡ r → stop_at m before f ≡ Some (stop_behind (λ next. Limit) r)
last_by m before f (Ok g) last is = absurd (limited m before f g last is)
last_by m before f (Err stop) last is = ended m before f stop is

chained : (m : Memory) (n : ℕ) (before : Option ℕ) (f : Frame) → f.index + n ≡ 1023 → (fs : List Frame) × (frames_from m n before f ≡ f ∷ fs) × IsChainFrom m before f fs (stop_from m n before f)
unfolding frames_from stop_from
chained m zero before f last = ([], refl, last_by m before f (step m before f) (omega arith) refl)
chained m (suc n) before f left =
    chained_by m before f n (step m before f) refl (λ g is.
    let number = next_number m before f g is in chained m n (Some f.fp) g (omega arith))

pub chain_found : (m : Memory) (pc fp : ℕ) → (fs : List Frame) × (chain m pc fp ≡ first_frame pc fp ∷ fs) × IsChainFrom m None (first_frame pc fp) fs (stop_of m pc fp)
unfolding chain stop_of
chain_found m pc fp = chained m 1023 None (first_frame pc fp) refl

-- and the only one
same_chain : (m : Memory) (fs gs : List Frame) (before : Option ℕ) (f : Frame) (stop other : Stop) → IsChainFrom m before f fs stop → IsChainFrom m before f gs other → (fs ≡ gs) × (stop ≡ other)
same_chain m [] [] before f stop other x y =
    let same : Some stop ≡ Some other = sym x ∙ y in (refl, cc)
same_chain m [] (g ∷ gs) before f stop other x y =
    let same : Some stop ≡ None = sym x ∙ y.0 in absurd cc
same_chain m (g ∷ fs) [] before f stop other x y =
    let same : Some other ≡ None = sym y ∙ x.0 in absurd cc
same_chain m (g ∷ fs) (h ∷ gs) before f stop other x y =
    let both : Some g ≡ Some h = sym x.1 ∙ y.1 in
    let same : g ≡ h = cc in
    let rest = same_chain m fs gs (Some f.fp) g stop other x.2 (subst (λ (k : Frame). IsChainFrom m (Some f.fp) k gs other) (sym same) y.2) in
    (ap (λ k. k ∷ fs) same ∙ ap (λ ks. h ∷ ks) rest.0, rest.1)

pub chain_only : (m : Memory) (pc fp : ℕ) (fs : List Frame) (stop : Stop) → IsChainFrom m None (first_frame pc fp) fs stop → (chain m pc fp ≡ first_frame pc fp ∷ fs) × (stop_of m pc fp ≡ stop)
chain_only m pc fp fs stop is =
    let found = chain_found m pc fp in
    let same = same_chain m found.0 fs None (first_frame pc fp) (stop_of m pc fp) stop found.2 is in
    (found.1 ∙ ap (λ gs. first_frame pc fp ∷ gs) same.0, same.1)
