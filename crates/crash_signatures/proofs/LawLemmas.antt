-- Why signatures are short, and why it doesn't matter where files are mapped.
use Rattle.std.proofs.Common.{◌≡◌, ℕ, ◌+◌, ◌-◌, ◌≤◌, Bool, true, false, ◌&&◌, cond, List, [], ◌∷◌, ◌++◌, codes, length, take, drop, map, Option, None, Some, option_map, refl, ap, ◌∙◌, arith}
use Rattle.std.proofs.lemmas.List.{length-take}
use Rattle.std.specs.List.{position}
use Rattle.std.specs.Prelude.{nat_lt}
use Rattle.script_words.specs.Printing.{hexadecimal}
use Rattle.crash_signatures.specs.Frames.{FileSaid, FrameSaid, function_word, mark, named, place_mark, place_text, place_word, word_of}
use Rattle.crash_signatures.specs.Names.{base_name}
use Rattle.crash_signatures.specs.Recursion.{cycle_among, least_turn}
use Rattle.crash_signatures.specs.Signature.{HandledSaid, behind, by_cycle, by_signal, handling, is_fault, is_signal_frame, kept_words, signal_mark, signature, unhandled}
use Rattle.crash_signatures.specs.SignatureLaws.{AreMoved, IsMoved, MovedAlikeIsSignedAlike, SignaturesAreShort, moved_file}
use Rattle.crash_signatures.specs.Words.{WordSaid}

at_most_five : (ws : List WordSaid) → length (take 5 ws) ≤ 5
at_most_five ws = let e = length-take 5 ws in omega (arith, e)

by_cycle_short : (o : Option (List WordSaid)) (ws : List WordSaid) (is_whole : Bool) → length (by_cycle o ws is_whole).words ≤ 6
by_cycle_short None ws is_whole = let l = at_most_five (kept_words ws) in omega (arith, l)
by_cycle_short (Some cycle) ws is_whole = let l = at_most_five (least_turn (length cycle - 1) cycle) in omega (arith, l)

unhandled_short : (ws : List WordSaid) (is_whole : Bool) → length (unhandled ws is_whole).words ≤ 6
unhandled_short ws is_whole = by_cycle_short (cycle_among 16 ws) ws is_whole

handling_short : (at : ℕ) (ws : List WordSaid) (h : Option HandledSaid) (is_whole : Bool) → length (handling at ws h is_whole).words ≤ 7
handling_short at ws h is_whole = by (is_fault h && nat_lt (at + 1) (length ws))
  where
    by : (t : Bool) → length (cond t (behind (signal_mark h ∷ []) (unhandled (drop (at + 1) ws) is_whole)) (unhandled (take at ws ++ signal_mark h ∷ []) true)).words ≤ 7
    by true = let l = unhandled_short (drop (at + 1) ws) is_whole in omega (arith, l)
    by false = let l = unhandled_short (take at ws ++ signal_mark h ∷ []) true in omega (arith, l)

by_signal_short : (o : Option ℕ) (ws : List WordSaid) (h : Option HandledSaid) (is_whole : Bool) → length (by_signal o ws h is_whole).words ≤ 7
by_signal_short None ws h is_whole = let l = unhandled_short ws is_whole in omega (arith, l)
by_signal_short (Some at) ws h is_whole = handling_short at ws h is_whole

pub are_short : SignaturesAreShort
are_short ws h is_whole = by_signal_short (position is_signal_frame (take 16 ws)) ws h is_whole

-- the place in a file that is mapped elsewhere
same_place : (d pc : ℕ) (file : FileSaid) → place_text (moved_file d file) (pc + d) ≡ place_text file pc
same_place d pc file =
    let e : ((pc + d) - (file.start + d)) + file.offset ≡ (pc - file.start) + file.offset = omega arith in
    ap (λ (n : ℕ). base_name file.path ++ codes "+" ++ hexadecimal n) e

module _ (d : ℕ) (f g : FrameSaid) (moved : IsMoved d f g) where
  same_mark : f.file ≡ None → place_mark g ≡ place_mark f
  same_mark none =
      ap (λ (t : Bool). cond t (codes "<vdso>") (cond (nat_lt g.pc 4096) (codes "<null>") (cond g.has_files (codes "<wild>") (codes "?")))) moved.vdso
      ∙ ap (λ (t : Bool). cond f.is_vdso (codes "<vdso>") (cond t (codes "<null>") (cond g.has_files (codes "<wild>") (codes "?")))) (moved.null none)
      ∙ ap (λ (t : Bool). cond f.is_vdso (codes "<vdso>") (cond (nat_lt f.pc 4096) (codes "<null>") (cond t (codes "<wild>") (codes "?")))) moved.files

  same_place_word : (o : Option FileSaid) → f.file ≡ o → place_word g (option_map (moved_file d) o) ≡ place_word f o
  same_place_word None none = ap mark (same_mark none)
  same_place_word (Some file) its =
      ap (λ (n : ℕ). named (take 256 (place_text (moved_file d file) n))) (moved.pc file its) ∙ ap (λ (t : List ℕ). named (take 256 t)) (same_place d f.pc file)

  same_function_word : (o : Option (List ℕ)) → function_word g o ≡ function_word f o
  same_function_word None = ap (place_word g) moved.file ∙ same_place_word f.file refl
  same_function_word (Some name) = refl

  same_word_of : word_of g ≡ word_of f
  same_word_of =
      ap (λ (t : Bool). cond t (mark (codes "<signal>")) (function_word g g.function)) moved.signal
      ∙ ap (λ (w : WordSaid). cond f.is_signal (mark (codes "<signal>")) w) (ap (function_word g) moved.function ∙ same_function_word f.function)

same_words_of : (fs gs : List FrameSaid) → AreMoved fs gs → map word_of gs ≡ map word_of fs
same_words_of [] [] moved = refl
same_words_of [] (g ∷ gs) moved = absurd moved
same_words_of (f ∷ fs) [] moved = absurd moved
same_words_of (f ∷ fs) (g ∷ gs) moved =
    ap (λ (w : WordSaid). w ∷ map word_of gs) (same_word_of moved.0.0 f g moved.0.1) ∙ ap (λ (l : List WordSaid). word_of f ∷ l) (same_words_of fs gs moved.1)

pub moved_alike : MovedAlikeIsSignedAlike
moved_alike fs gs h is_whole moved = ap (λ (ws : List WordSaid). signature ws h is_whole) (same_words_of fs gs moved)
