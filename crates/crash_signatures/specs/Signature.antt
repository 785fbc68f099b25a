-- The signature of a walk.
use Rattle.std.specs.Prelude.{ℕ, ◌+◌, ◌-◌, ◌==◌, Bool, true, false, not, ◌&&◌, ◌||◌, nat_le, nat_lt, List, [], ◌∷◌, ◌++◌, length, take, drop, position, Option, None, Some, codes, if◌then◌else◌}
use Rattle.std.specs.List.{list_any}
use Rattle.std.specs.Str.{bytes_eq}
use Rattle.crash_signatures.specs.Frames.{mark}
use Rattle.crash_signatures.specs.Recursion.{cycle_among, least_turn}
use Rattle.crash_signatures.specs.Steps.{inner_part, is_outermost, without_death, without_repetitions}
use Rattle.crash_signatures.specs.Words.{WordSaid}

-- a signature: its words, the innermost first, and whether frames are missing behind them
pub record SignatureSaid : Type 0 where
  pub words : List WordSaid
  pub is_missing : Bool

-- a signal that was being handled
pub record HandledSaid : Type 0 where
  pub number : ℕ
  pub name : List ℕ

-- the words behind a mark
abbrev pub behind : List WordSaid → SignatureSaid → SignatureSaid
behind lead s = record { words = lead ++ s.words; is_missing = s.is_missing }

-- the words that are left of a walk
abbrev pub kept_words : List WordSaid → List WordSaid
kept_words ws = without_repetitions (inner_part true (without_death ws))

-- Frames are missing behind at most five words, unless the walk saw the outermost part or ended as walks should.
abbrev pub is_missing : List WordSaid → Bool → Bool
is_missing ws is_whole = not is_whole && nat_le (length (kept_words ws)) 5 && not (list_any is_outermost (without_death ws))

-- the first five of the words that are left
abbrev pub plain : List WordSaid → Bool → SignatureSaid
plain ws is_whole = record { words = take 5 (kept_words ws); is_missing = is_missing ws is_whole }

-- a mark, and the first five words of the cycle, which is turned so that it is the least of its turns
abbrev pub recursive : List WordSaid → SignatureSaid
recursive cycle = record { words = mark (codes "<recursion>") ∷ take 5 (least_turn (length cycle - 1) cycle); is_missing = false }

abbrev pub by_cycle : Option (List WordSaid) → List WordSaid → Bool → SignatureSaid
by_cycle None ws is_whole = plain ws is_whole
by_cycle (Some cycle) ws is_whole = recursive cycle

-- the signature of words that no signal's frame cuts
abbrev pub unhandled : List WordSaid → Bool → SignatureSaid
unhandled ws is_whole = by_cycle (cycle_among 16 ws) ws is_whole

-- the mark of a name
abbrev pub bracketed : List ℕ → WordSaid
bracketed name = mark (codes "<" ++ name ++ codes ">")

-- the mark of the signal that was being handled
abbrev pub signal_mark : Option HandledSaid → WordSaid
signal_mark None = mark (codes "<signal>")
signal_mark (Some s) = bracketed s.name

-- The code that was interrupted had failed itself: ILL, TRAP, ABRT, BUS and FPE, SEGV, SYS.
abbrev pub is_fault : Option HandledSaid → Bool
is_fault None = false
is_fault (Some s) = (nat_le 4 s.number && nat_le s.number 8) || s.number == 11 || s.number == 31

-- A signal was being handled, whose frame is at this place. If the interrupted code had failed, the crash is its failure, which the handler
-- only reported. Otherwise the handler failed, and the frames of the interrupted code do not count.
abbrev pub handling : ℕ → List WordSaid → Option HandledSaid → Bool → SignatureSaid
handling at ws handled is_whole =
    if is_fault handled && nat_lt (at + 1) (length ws) then behind (signal_mark handled ∷ []) (unhandled (drop (at + 1) ws) is_whole)
    else unhandled (take at ws ++ signal_mark handled ∷ []) true

abbrev pub by_signal : Option ℕ → List WordSaid → Option HandledSaid → Bool → SignatureSaid
by_signal None ws handled is_whole = unhandled ws is_whole
by_signal (Some at) ws handled is_whole = handling at ws handled is_whole

-- the word of a signal's frame
abbrev pub is_signal_frame : WordSaid → Bool
is_signal_frame w = w.is_mark && bytes_eq w.text (codes "<signal>")

-- The signature of a walk: its words, the signal of the first signal's frame among the first 16, and whether the walk ended at
-- the outermost frame or after as many as are looked at.
abbrev pub signature : List WordSaid → Option HandledSaid → Bool → SignatureSaid
signature ws handled is_whole = by_signal (position is_signal_frame (take 16 ws)) ws handled is_whole

-- the signature of a core that is refused: the name of the bad field
abbrev pub refused : List ℕ → SignatureSaid
refused field = record { words = bracketed field ∷ []; is_missing = false }
