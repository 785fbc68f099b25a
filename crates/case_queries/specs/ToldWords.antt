-- The mapped files of a core that is read piece by piece, each with the
-- build ID that the core has for it; and the reply of a line that uses them.
use Rattle.std.specs.Prelude.{◌≡◌, ◌⊎◌, ◌++◌, ℕ, List, Result, Ok, Err}
use Rattle.address_space.specs.Source.{ExecutableView}
use Rattle.address_space.specs.Whole.{IsFrontOf}
use Rattle.archive_replies.specs.Reasons.{reason_of}
use Rattle.build_replies.specs.Builds.{NamedId, told_of, told_or_none}
use Rattle.build_replies.specs.Mapped.{told_view}
use Rattle.disk_model.specs.declared.disk.Disk as disk
use Rattle.intake.specs.Parts.{Parts, state_of}
use Rattle.intake.specs.declared.faults.ArchiveFault.{ArchiveFault}
use Rattle.memory_replies.specs.Answers.{Answers, memory_reply}
use Rattle.script_streams.specs.Replies.{no_reply}
use Rattle.case_queries.specs.Asking.{Asking, asking_answer, debugs_asked, files_asking}
use Rattle.case_queries.specs.Collecting.{CollectsAll, Wanted}
use Rattle.case_queries.specs.LeaveLaws.{Leaves}
use Rattle.case_queries.specs.Pieces.{ArePieces, BeginsWith, SeesPieces}
use Rattle.case_queries.specs.Seeing.{AreOfCase, LooksAt, SeesImage}
use Rattle.case_queries.specs.declared.asked.AskedFiles.{AskedFiles}
use Rattle.case_queries.specs.declared.told.ToldFiles.{ToldFiles}
use Rattle.case_queries.specs.declared.walk.CaseImage.{CaseImage}
use Rattle.case_queries.specs.declared.walk.WalkFault.{WalkFault}
use Rattle.case_queries.specs.declared.walk.WalkFault.TheVariants.{Unread, OutOfMemory}
use Rattle.case_queries.specs.declared.window.Part.{Part}

-- Each image that begins with these bytes and has these pieces has these mapped files; and there is such an image.
pub record IsToldBy (o : CaseImage) (t : ToldFiles) : Type 0 where
  pub some : (image : List ℕ) × BeginsWith o t.pieces.items image
  pub told : (image : List ℕ) → BeginsWith o t.pieces.items image → told_of image ≡ told_view t.files

-- The image that is seen has the pieces; or why it can't be read.
abbrev pub SeesTold : {D : Type 0} → disk.Ghosts D → Parts D → CaseImage → Result ToldFiles WalkFault → Parts D → Type 0
SeesTold g before o (Ok t) now = SeesPieces g before o t.pieces.items now
SeesTold g before o (Err (Unread f)) now = LooksAt g before o.seq (Err f) now
SeesTold g before o (Err OutOfMemory) now = (image : List ℕ) × SeesImage g before o.seq image now × IsFrontOf o.front.now o.size image

-- the pieces at hand are of the case's image
abbrev pub ArePiecesOfCase : {D : Type 0} → disk.Ghosts D → Parts D → CaseImage → List Part → Type 0
ArePiecesOfCase g a o ps = (image : List ℕ) × AreOfCase g a o.seq image × BeginsWith o ps image

-- the answer of an image that begins with these bytes and has these pieces, or that there is no memory; or why it can't be read
abbrev pub ToldPieces : CaseImage → List Part → List ExecutableView → Asking → List ℕ → Result (List ℕ) ArchiveFault → Type 0
ToldPieces o ps xs asking text (Ok image) =
    IsFrontOf o.front.now o.size image × ((ArePieces image ps × Answers (asking_answer asking image xs) text) ⊎ (text ≡ memory_reply))
ToldPieces o ps xs asking text (Err f) = text ≡ no_reply (reason_of f)

-- the reply of the line, with these executables
abbrev pub ShowsTold : {D : Type 0} → disk.Ghosts D → Parts D → CaseImage → List Part → List ExecutableView → Asking → List ℕ → Parts D → Type 0
ShowsTold g before o ps xs asking text now = (r : Result (List ℕ) ArchiveFault) × LooksAt g before o.seq r now × ToldPieces o ps xs asking text r

-- the mapped files that were found
abbrev pub files_told : ToldFiles → List NamedId
files_told t = told_or_none (told_view t.files)

-- with the debug files that were read after the executables of these cases; or why one can't be read
abbrev pub ShowsMore : {D : Type 0} → disk.Ghosts D → Parts D → Parts D → CaseImage → ToldFiles → AskedFiles → List Wanted → List ExecutableView → List Wanted → Result (List ExecutableView) ArchiveFault → List ℕ → Parts D → Type 0
ShowsMore g before mid o t asked ws xs ds (Ok more) text new = ShowsTold g before o t.pieces.items (xs ++ more) (files_asking asked (ws ++ ds)) text new × Leaves g mid new
ShowsMore g before mid o t asked ws xs ds (Err f) text new = (text ≡ no_reply (reason_of f)) × (new ≡ mid)

-- the reply of the line, with these executables, and the debug files that are read after them
abbrev pub ShowsGathered : {D : Type 0} → disk.Ghosts D → Parts D → Parts D → CaseImage → ToldFiles → AskedFiles → List Wanted → List ExecutableView → List ℕ → Parts D → Type 0
ShowsGathered {D} g before old o t asked ws xs text new =
    (more : Result (List ExecutableView) ArchiveFault) × (mid : Parts D) × CollectsAll g old (debugs_asked asked (files_told t) xs (state_of old).cases) more mid
    × ShowsMore g before mid o t asked ws xs (debugs_asked asked (files_told t) xs (state_of old).cases) more text new
