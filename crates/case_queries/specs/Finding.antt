-- A search through the memory of a core whose image is read window by window.
use Rattle.std.specs.Prelude.{◌≡◌, ℕ, List, [], ◌∷◌, ◌++◌, length, take, drop, Result, Ok, Err, decimal}
use Rattle.std.specs.List.{flat_map}
use Rattle.address_space.specs.Occurrence.{occurrences, strings_of}
use Rattle.address_space.specs.Source.{ExecutableView, Space}
use Rattle.address_space.specs.Whole.{IsFrontOf, space_in}
use Rattle.archive_replies.specs.Reasons.{reason_of}
use Rattle.disk_model.specs.declared.disk.Disk as disk
use Rattle.intake.specs.Parts.{Parts}
use Rattle.intake.specs.declared.faults.ArchiveFault.{ArchiveFault}
use Rattle.memory_replies.specs.Answers.{Answers, memory_reply}
use Rattle.memory_replies.specs.Find.{address_line}
use Rattle.memory_replies.specs.Words.{hex_word}
use Rattle.script_streams.specs.Replies.{no_reply, ok_reply}
use Rattle.script_words.specs.Printing.{shown}
use Rattle.windowed_search.specs.ScanWords.{Aim, for_bytes, for_texts}
use Rattle.windowed_search.specs.TextWords.{text_values}
use Rattle.windowed_search.specs.declared.memory_scan.Found.{Found}
use Rattle.windowed_search.specs.declared.memory_scan.Found.TheVariants as found
use Rattle.case_queries.specs.Asking.{Asking, asking_answer, asking_query}
use Rattle.case_queries.specs.Seeing.{AreOfCase, LooksAt, SeesImage}
use Rattle.case_queries.specs.Steps.{ShowsCore}
use Rattle.journal_layout.specs.declared.entry.Kind.{Kind}
use Rattle.case_queries.specs.declared.walk.CaseImage.{CaseImage}
use Rattle.case_queries.specs.declared.walk.WalkFault.{WalkFault}
use Rattle.case_queries.specs.declared.walk.WalkFault.TheVariants.{Unread, OutOfMemory}

-- all results of the search in the whole memory
abbrev pub IsAllFound : Space → Aim → Found → Type 0
IsAllFound space (for_bytes needle) (found.Addresses v) = v.items ≡ occurrences space needle
IsAllFound space (for_texts least) (found.Texts t) = (t.places.items ≡ strings_of space least) × (t.bytes.items ≡ flat_map (text_values space) t.places.items)
IsAllFound space aim f = ⊥

-- The results are those of the search in the memory of the image that was seen; or it is said why there are no results.
abbrev pub Finds : {D : Type 0} → disk.Ghosts D → Parts D → Space → Aim → CaseImage → Parts D → Result Found WalkFault → Type 0
Finds g before space aim o now (Ok f) =
    (image : List ℕ) × SeesImage g before o.seq image now × IsFrontOf o.front.now o.size image × IsAllFound (space_in image space) aim f
Finds g before space aim o now (Err (Unread f)) = LooksAt g before o.seq (Err f) now
Finds g before space aim o now (Err OutOfMemory) = (image : List ℕ) × SeesImage g before o.seq image now × IsFrontOf o.front.now o.size image

-- `ADDR LENGTH TEXT` of a text, by its first address, its length and its bytes
abbrev pub line_of_text : ℕ × ℕ → List ℕ → List ℕ
line_of_text x bytes = hex_word x.0 ++ (decimal x.1 ++ (32 ∷ [] ++ (shown bytes ++ 10 ∷ [])))

-- the lines of texts whose bytes stand one after another
abbrev pub lines_of_texts : List (ℕ × ℕ) → List ℕ → List ℕ
lines_of_texts [] bytes = []
lines_of_texts (x ∷ xs) bytes = line_of_text x (take x.1 bytes) ++ lines_of_texts xs (drop x.1 bytes)

abbrev pub found_lines : Found → List ℕ
found_lines (found.Addresses v) = flat_map address_line v.items
found_lines (found.Texts t) = lines_of_texts t.places.items t.bytes.items

-- the reply
abbrev pub found_reply : Result Found WalkFault → List ℕ
found_reply (Ok f) = found_lines f ++ ok_reply
found_reply (Err (Unread f)) = no_reply (reason_of f)
found_reply (Err OutOfMemory) = memory_reply

-- the answer of an image that begins with these bytes, or why it can't be read
abbrev pub ToldFound : CaseImage → List ExecutableView → Asking → List ℕ → Result (List ℕ) ArchiveFault → Type 0
ToldFound o xs asking text (Ok image) = IsFrontOf o.front.now o.size image × Answers (asking_answer asking image xs) text
ToldFound o xs asking text (Err f) = text ≡ no_reply (reason_of f)

-- the reply of the line, with these executables
abbrev pub ShowsFound : {D : Type 0} → disk.Ghosts D → Parts D → CaseImage → List ExecutableView → Asking → List ℕ → Parts D → Type 0
ShowsFound g before o xs asking text now = (r : Result (List ℕ) ArchiveFault) × LooksAt g before o.seq r now × ToldFound o xs asking text r

-- the bytes at hand are the first of the case's image
abbrev pub IsFrontOfCase : {D : Type 0} → disk.Ghosts D → Parts D → CaseImage → Type 0
IsFrontOfCase g a o = (image : List ℕ) × AreOfCase g a o.seq image × (o.front.now ≡ take (length o.front.now) image)

-- The reply of the line about a core that has no fault and begins with these
-- bytes, with the executables that are read beside it; or why it can't be read.
abbrev pub ShowsFront : {D : Type 0} → disk.Ghosts D → Parts D → CaseImage → Asking → Result (List ℕ) ArchiveFault → List ℕ → Parts D → Type 0
ShowsFront g mid o asking (Ok image) text new = IsFrontOf o.front.now o.size image × ((kind : Kind) → ShowsCore g mid kind (asking_query asking) image text new)
ShowsFront g mid o asking (Err f) text new = (text ≡ no_reply (reason_of f)) × (new ≡ mid)

abbrev pub AsksFront : {D : Type 0} → disk.Ghosts D → Parts D → CaseImage → Asking → List ℕ → Parts D → Type 0
AsksFront {D} g before o asking text new = (r : Result (List ℕ) ArchiveFault) × (mid : Parts D) × LooksAt g before o.seq r mid × ShowsFront g mid o asking r text new
