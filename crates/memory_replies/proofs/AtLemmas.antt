-- What is answered of an address.
use Rattle.std.proofs.Common.{◌≡◌, ℕ, List, ◌∷◌, [], ◌++◌, find, map, length, take, Option, None, Some, Result, Ok, Err, refl, ap, sym, subst, ◌∙◌, arith}
use Rattle.std.specs.Prelude.{codes, is_ok, slice_index}
use Rattle.elf_view.specs.Field.{part}
use Rattle.elf_view.specs.Front.{headed}
use Rattle.elf_view.specs.Header.{segments_of}
use Rattle.elf_view.specs.Sound.{IsHeaderWhole}
use Rattle.elf_view.specs.ViewWords.{notes_of}
use Rattle.elf_view.specs.declared.faults.Want.TheVariants.{Core}
use Rattle.core_notes.specs.Typed.{all_descs}
use Rattle.address_space.specs.Pieces.{PieceView, content_from, piece_of, pieces_of, stretches}
use Rattle.address_space.specs.Source.{Place, nowhere, dumped, cut_off, unwritten, in_file, content_by, ExecutableView, MappingView, Space, mappings_of, place_at, source_at}
use Rattle.address_space.specs.StretchesWords.{front_of}
use Rattle.address_space.specs.Whole.{IsFrontOf}
use Rattle.address_space.specs.declared.stretches.Stretches.{Stretches}
use Rattle.image_replies.specs.CoreWords.{core_bytes}
use Rattle.image_replies.specs.declared.core_image.CoreImage.{CoreImage}
use Rattle.memory_replies.specs.Answers.{AnswersWith}
use Rattle.memory_replies.specs.Memory.{memory_of}
use Rattle.memory_replies.specs.Places.{PlaceView}
use Rattle.memory_replies.specs.declared.outcome.Outcome.TheVariants.{Done, Refused}
use Rattle.script_streams.specs.Replies.{no_reply, ok_reply, reply_of}
use Rattle.memory_replies.specs.At.{answer_at, at_lines, has_address, located_answer, mapping_at, source_word}
use Rattle.memory_replies.proofs.AtFrontLemmas.{mappings_alone, mappings_in_front, whole_head}

-- the lines of the answer are told, or the reason why there are none
pub shown : (lines : List ℕ) (answer : Result (List ℕ) (List ℕ)) → Ok lines ≡ answer → AnswersWith Done answer (lines ++ ok_reply)
shown lines answer is = (sym (ap is_ok is), ap reply_of is)

pub refused : (reason : List ℕ) (answer : Result (List ℕ) (List ℕ)) → Err reason ≡ answer → AnswersWith Refused answer (no_reply reason)
refused reason answer is = (sym (ap is_ok is), ap reply_of is)

-- whichever bytes are read there, it is the same word
any_word : {A B : Type 0} (read : List ℕ → ℕ → A) (other : List ℕ → ℕ → B) (a : ℕ) (p : Place) → source_word (content_by read a p) ≡ source_word (content_by other a p)
any_word read other a nowhere = refl
any_word read other a (dumped i s) = refl
any_word read other a (cut_off i) = refl
any_word read other a (unwritten i e) = refl
any_word read other a (in_file i e image) = refl

-- the word for one address
pub word_is : (space : Space) (a n : ℕ) → source_word (content_from space a n) ≡ source_word (source_at space a)
word_is space a n = any_word (λ bytes k. part bytes k n) slice_index a (place_at space a)

-- one address is one piece
pub one_piece : (space : Space) (a : ℕ) → pieces_of space a 1 ≡ piece_of space (a, 1) ∷ []
unfolding pieces_of stretches
one_piece space a = refl

pub none_left : (space : Space) (a : ℕ) → pieces_of space a 1 ≡ [] → ⊥
none_left space a is = omega (arith, ap length (sym (one_piece space a) ∙ is))

-- the word of the first piece
first_word : List PieceView → List ℕ
first_word [] = []
first_word (p ∷ ps) = source_word p.content

pub first_is : (space : Space) (a : ℕ) (p : PieceView) (ps : List PieceView) → p ∷ ps ≡ pieces_of space a 1 → source_word p.content ≡ source_word (source_at space a)
unfolding first_word
first_is space a p ps is = ap first_word (is ∙ one_piece space a) ∙ word_is space a 1

-- the first bytes of the image of which stretches are
pub begins_with : (s : Stretches) (front : List ℕ) (size : ℕ) (image : List ℕ) → front_of s ≡ front → s.size ≡ size → IsFrontOf front size image → IsFrontOf (front_of s) s.size image
begins_with s front size image same count is = (is.0 ∙ sym count, subst (λ f. f ≡ take (length f) image) (sym same) is.1)

-- the image has the mapping of the memory of its first bytes
pub mapping_begins : (core : CoreImage) (image : List ℕ) (size : ℕ) → IsFrontOf (core_bytes core) size image → ((b : List ℕ) (n : ℕ) → IsHeaderWhole (take n b) → map headed (segments_of (take n b)) ≡ map headed (segments_of b))
    → notes_of Core (core_bytes core) ≡ notes_of Core image → (xs : List ExecutableView) (space : Space) → space ≡ memory_of (core_bytes core) xs → (a : ℕ)
    → find (has_address a) (mappings_of space) ≡ mapping_at image a
unfolding mapping_at
mapping_begins core image size begins law notes xs space is a =
    ap (find (has_address a))
    (ap mappings_of is ∙ mappings_alone (core_bytes core) xs
    ∙ mappings_in_front (core_bytes core) image (ap (λ f. map headed (segments_of f)) begins.1 ∙ law image (length (core_bytes core)) (whole_head core image size begins)) notes)

pub nothing_at : (b : List ℕ) (xs : List ExecutableView) (place : Option PlaceView) (a : ℕ) → None ≡ mapping_at b a → Err (codes "Unmapped") ≡ located_answer b xs place a
unfolding located_answer
nothing_at b xs place a is = ap (answer_at (memory_of b xs) place (all_descs 1 (notes_of Core b)) a) is

pub located : (b : List ℕ) (xs : List ExecutableView) (place : Option PlaceView) (a : ℕ) (m : MappingView) (space : Space) (descs : List (List ℕ)) → Some m ≡ mapping_at b a → space ≡ memory_of b xs → descs ≡ all_descs 1 (notes_of Core b)
    → Ok (at_lines space place descs a m) ≡ located_answer b xs place a
unfolding located_answer
located b xs place a m space descs is memory threads =
    ap (λ s. Ok (at_lines s place descs a m)) memory
    ∙ ap (λ ds. Ok (at_lines (memory_of b xs) place ds a m)) threads
    ∙ ap (answer_at (memory_of b xs) place (all_descs 1 (notes_of Core b)) a) is
