-- What a line over call frames or builds shows, with the executables that are read for the files that the core tells.
use Rattle.std.proofs.Common.{◌≡◌, inl, inr, ℕ, List, ◌++◌, Option, None, Some, Ok, Err, refl, ap, sym, subst, ◌∙◌}
use Rattle.address_space.specs.Source.{ExecutableView}
use Rattle.archive_replies.specs.Reasons.{reason_of}
use Rattle.build_replies.specs.Builds.{NamedId, told_of, told_or_none}
use Rattle.build_replies.specs.Mapped.{told_view}
use Rattle.build_replies.specs.ToldLaws.{told_all}
use Rattle.disk_model.specs.declared.disk.Disk as disk
use Rattle.intake.specs.Parts.{Parts, state_of}
use Rattle.intake.specs.declared.faults.ArchiveFault.{ArchiveFault}
use Rattle.intake.specs.declared.faults.ArchiveFault.TheVariants as faults
use Rattle.journal_layout.specs.Case.{Case}
use Rattle.memory_replies.specs.Answers.{Answers}
use Rattle.script_lines.specs.declared.query.BuildQuery.TheVariants as builds
use Rattle.script_streams.specs.Replies.{no_reply}
use Rattle.case_queries.specs.Asking.{Asking, asking_query, debugs_asked, files_asked, files_asking}
use Rattle.case_queries.specs.Collecting.{Collects, CollectsAll, Wanted, debugs_by, debugs_for, gathered_with, wanted_by, wanted_for}
use Rattle.case_queries.specs.Finding.{AsksFront, found_reply}
use Rattle.case_queries.specs.Inspecting.{answer_of}
use Rattle.case_queries.specs.LeaveLaws.{Leaves, looks_leaves, own_still}
use Rattle.address_space.specs.Whole.{IsFrontOf}
use Rattle.case_queries.specs.Pieces.{ArePieces, SeesPieces}
use Rattle.case_queries.specs.ToldWords.{ArePiecesOfCase, IsToldBy, SeesTold, ShowsGathered, ShowsTold, files_told}
use Rattle.frame_replies.specs.declared.lines.Shown.TheVariants.{Stack, Source}
use Rattle.case_queries.specs.declared.asked.FramesAsked.{FramesAsked}
use Rattle.case_queries.specs.declared.asked.FramesAsked.TheVariants.{Shown, Registers}
use Rattle.case_queries.specs.declared.asked.AskedFiles.{AskedFiles}
use Rattle.case_queries.specs.declared.asked.AskedFiles.TheVariants as asked
use Rattle.case_queries.specs.declared.told.ToldFiles.{ToldFiles}
use Rattle.case_queries.specs.declared.walk.CaseImage.{CaseImage}
use Rattle.case_queries.specs.declared.walk.WalkFault.{WalkFault}
use Rattle.case_queries.specs.declared.walk.WalkFault.TheVariants.{OutOfMemory, Unread}
use Rattle.case_queries.specs.declared.window.Part.{Part}
use Rattle.case_queries.proofs.AgainLemmas.{debugs_again, seen_again}
use Rattle.case_queries.proofs.FindAskLemmas.{files_answered}

-- such a line reads what is stored for the files that the core tells
files_wanted : (a : AskedFiles) (t : ToldFiles) (b : List ℕ) (cases : List Case) → told_of b ≡ told_view t.files → wanted_by (files_told t) cases ≡ wanted_for (asking_query (files_asked a)) b cases
files_wanted (asked.Frames thread frames) t b cases is = by frames
  where
    by : (f : FramesAsked) → wanted_by (files_told t) cases ≡ wanted_for (asking_query (files_asked (asked.Frames thread f))) b cases
    by (Shown Stack) = ap (λ (ts : List NamedId). wanted_by ts cases) (sym (told_all b ∙ ap told_or_none is))
    by (Shown Source) = ap (λ (ts : List NamedId). wanted_by ts cases) (sym (told_all b ∙ ap told_or_none is))
    by (Registers n) = ap (λ (ts : List NamedId). wanted_by ts cases) (sym (told_all b ∙ ap told_or_none is))
files_wanted (asked.Builds query) t b cases is = ap (λ (ts : List NamedId). wanted_by ts cases) (sym (told_all b ∙ ap told_or_none is))

-- and after them these debug files
files_debugs : (a : AskedFiles) (t : ToldFiles) (b : List ℕ) (xs : List ExecutableView) (cases : List Case) → told_of b ≡ told_view t.files → debugs_asked a (files_told t) xs cases ≡ debugs_for (asking_query (files_asked a)) b cases xs
files_debugs (asked.Frames thread frames) t b xs cases is = by frames
  where
    by : (f : FramesAsked) → debugs_asked (asked.Frames thread f) (files_told t) xs cases ≡ debugs_for (asking_query (files_asked (asked.Frames thread f))) b cases xs
    by (Shown Stack) = ap (λ (ts : List NamedId). debugs_by ts xs cases) (sym (told_all b ∙ ap told_or_none is))
    by (Shown Source) = ap (λ (ts : List NamedId). debugs_by ts xs cases) (sym (told_all b ∙ ap told_or_none is))
    by (Registers n) = ap (λ (ts : List NamedId). debugs_by ts xs cases) (sym (told_all b ∙ ap told_or_none is))
files_debugs (asked.Builds builds.Compared) t b xs cases is = refl
files_debugs (asked.Builds builds.Used) t b xs cases is = ap (λ (ts : List NamedId). debugs_by ts xs cases) (sym (told_all b ∙ ap told_or_none is))
files_debugs (asked.Builds builds.Wanted) t b xs cases is = refl

module _ {D : Type 0} (g : disk.Ghosts D) (o : CaseImage) where
  pub told_leaves : (old new : Parts D) (ps : List Part) (xs : List ExecutableView) (asking : Asking) (text : List ℕ) → ShowsTold g old o ps xs asking text new → Leaves g old new
  told_leaves old new ps xs asking text shows = looks_leaves g old new o.seq shows.0 shows.1

  pub not_told_leaves : (old new : Parts D) (f : WalkFault) → SeesTold g old o (Err f) new → Leaves g old new
  not_told_leaves old new (Unread f) sees = looks_leaves g old new o.seq (Err f) sees
  not_told_leaves old new OutOfMemory sees = looks_leaves g old new o.seq (Ok sees.0) sees.1

  pub sees_leaves : (old new : Parts D) (ps : List Part) → SeesPieces g old o ps new → Leaves g old new
  sees_leaves old new ps sees = looks_leaves g old new o.seq (Ok sees.0) sees.1

  -- pieces that are of the case are seen again, with no byte read
  pub pieces_again : (now : Parts D) (ps : List Part) → ((c : List ℕ) → g.left_since now.disk (g.clock now.disk) c → g.may_leave now.disk c) → ArePiecesOfCase g now o ps → SeesPieces g now o ps now
  pieces_again now ps only own = (own.0, seen_again g now only o.seq own.0 own.1, own.2)

  pub pieces_after : (old new : Parts D) (ps : List Part) → Leaves g old new → ArePiecesOfCase g old o ps → ArePiecesOfCase g new o ps
  pieces_after old new ps leaves own = (own.0, own_still g old new o.seq own.0 leaves own.1, own.2)

  -- those that are seen are of the case
  pub pieces_own : (old new : Parts D) (ps : List Part) → SeesPieces g old o ps new → ArePiecesOfCase g new o ps
  pieces_own old new ps sees = pieces_after old new ps (sees_leaves old new ps sees) (sees.0, sees.1.own, sees.2)

  -- no file is told
  pub not_told : (before new : Parts D) (asking : Asking) (f : WalkFault) → SeesTold g before o (Err f) new → AsksFront g before o asking (found_reply (Err f)) new
  not_told before new asking (Unread f) sees = (Err f, new, sees, (refl, refl))
  not_told before new asking OutOfMemory sees = (Ok sees.0, new, sees.1, (sees.2, λ kind. (Err faults.OutOfMemory, (Err faults.OutOfMemory, new, inl (refl, refl), (refl, refl)), refl)))

  module _ (a : AskedFiles) (t : ToldFiles) (is : IsToldBy o t) where
    -- what such a line reads of a core that tells these files
    abbrev Wants : Parts D → List Wanted
    Wants p = wanted_by (files_told t) (state_of p).cases

    abbrev Debugs : Parts D → List ExecutableView → List Wanted
    Debugs p xs = debugs_asked a (files_told t) xs (state_of p).cases

    wants_of : (p : Parts D) (image : List ℕ) → IsFrontOf o.front.now o.size image → ArePieces image t.pieces.items → Wants p ≡ wanted_for (asking_query (files_asked a)) image (state_of p).cases
    wants_of p image front are = files_wanted a t image (state_of p).cases (is.told image (front, are))

    debugs_of : (p : Parts D) (xs : List ExecutableView) (image : List ℕ) → IsFrontOf o.front.now o.size image → ArePieces image t.pieces.items → Debugs p xs ≡ debugs_for (asking_query (files_asked a)) image (state_of p).cases xs
    debugs_of p xs image front are = files_debugs a t image xs (state_of p).cases (is.told image (front, are))

    -- the answer is told
    pub told_asked : (before new : Parts D) (xs ds : List ExecutableView) (text : List ℕ) → Collects g new (Wants new) (Ok xs) new → Collects g new (Debugs new xs) (Ok ds) new
        → ShowsTold g before o t.pieces.items (xs ++ ds) (files_asking a (Wants new ++ Debugs new xs)) text new → AsksFront g before o (files_asked a) text new
    told_asked before new xs ds text wants debugs (Ok image, looks, (front, inl (are, answers))) =
        let q = asking_query (files_asked a) in
        let cases = (state_of new).cases in
        let first = wants_of new image front are in
        let second = debugs_of new xs image front are in (
          Ok image,
          new,
          looks,
          (
            front,
            λ kind. (
              gathered_with (wanted_for q image cases) xs (debugs_for q image cases xs) (Ok ds),
              (
                Ok xs,
                new,
                inr (subst (λ (ws : List Wanted). Collects g new ws (Ok xs) new) first wants),
                (Ok ds, inr (subst (λ (ws : List Wanted). Collects g new ws (Ok ds) new) second debugs), refl),
              ),
              subst (λ (vs : List Wanted). Answers (answer_of kind q image (wanted_for q image cases ++ vs) (xs ++ ds)) text) second
                  (subst (λ (ws : List Wanted). Answers (answer_of kind q image (ws ++ Debugs new xs) (xs ++ ds)) text) first
                  (subst (λ answer. Answers answer text) (files_answered kind a image (Wants new ++ Debugs new xs) (xs ++ ds)) answers)),
            ),
          ),
        )
    told_asked before new xs ds text wants debugs (Ok image, looks, (front, inr memory)) =
        (Ok image, new, looks, (front, λ kind. (Err faults.OutOfMemory, (Err faults.OutOfMemory, new, inl (refl, refl), (refl, refl)), memory)))
    told_asked before new xs ds text wants debugs (Err f, looks, told) = (Err f, new, looks, (told, refl))

    -- an executable can't be read
    pub told_unread : (before mid new : Parts D) (f : ArchiveFault) → SeesPieces g before o t.pieces.items mid → CollectsAll g mid (Wants mid) (Err f) new → AsksFront g before o (files_asked a) (no_reply (reason_of f)) new
    told_unread before mid new f (image, looks, begins) collects = (
      Ok image,
      mid,
      looks,
      (
        begins.0,
        λ kind. (
          Err f,
          (Err f, new, subst (λ (ws : List Wanted). CollectsAll g mid ws (Err f) new) (wants_of mid image begins.0 begins.1) collects, (refl, refl)),
          refl,
        ),
      ),
    )

    -- a debug file can't be read
    pub debug_unread : (before mid read new : Parts D) (xs : List ExecutableView) (f : ArchiveFault) (text : List ℕ) → SeesPieces g before o t.pieces.items mid → CollectsAll g mid (Wants mid) (Ok xs) read
        → CollectsAll g read (Debugs mid xs) (Err f) new → text ≡ no_reply (reason_of f) → AsksFront g before o (files_asked a) text new
    debug_unread before mid read new xs f text (image, looks, begins) wants debugs told = (
      Ok image,
      mid,
      looks,
      (
        begins.0,
        λ kind. (
          Err f,
          (
            Ok xs,
            read,
            subst (λ (ws : List Wanted). CollectsAll g mid ws (Ok xs) read) (wants_of mid image begins.0 begins.1) wants,
            (Err f, subst (λ (ws : List Wanted). CollectsAll g read ws (Err f) new) (debugs_of mid xs image begins.0 begins.1) debugs, refl),
          ),
          told,
        ),
      ),
    )

    -- what is told with the executables that were read
    pub told_gathered : (before mid read new : Parts D) (xs : List ExecutableView) (text : List ℕ) → ((c : List ℕ) → g.left_since new.disk (g.clock new.disk) c → g.may_leave new.disk c) → SeesPieces g before o t.pieces.items mid
        → CollectsAll g mid (Wants mid) (Ok xs) read → Collects g new (Wants mid) (Ok xs) new → Leaves g mid read → Leaves g read new → ShowsGathered g before read o t a (Wants mid) xs text new → AsksFront g before o (files_asked a) text new
    told_gathered before mid read new xs text only sees wants stay first second (Ok ds, last, all, (shows, left)) =
        let same = second.cases ∙ first.cases in
        let debugs = debugs_again g new only read last (Debugs read xs) ds left all in
        told_asked before new xs ds text
        (subst (λ cases. Collects g new (wanted_by (files_told t) cases) (Ok xs) new) (sym same) stay)
        (subst (λ cases. Collects g new (debugs_asked a (files_told t) xs cases) (Ok ds) new) (sym second.cases) debugs)
        (subst (λ cases. ShowsTold g before o t.pieces.items (xs ++ ds) (files_asking a (wanted_by (files_told t) (state_of new).cases ++ debugs_asked a (files_told t) xs cases)) text new) (sym second.cases)
        (subst (λ cases. ShowsTold g before o t.pieces.items (xs ++ ds) (files_asking a (wanted_by (files_told t) cases ++ Debugs read xs)) text new) (sym same) shows))
    told_gathered before mid read new xs text only sees wants stay first second (Err f, last, all, (told, still)) =
        debug_unread before mid read new xs f text sees wants
        (subst (λ cases. CollectsAll g read (debugs_asked a (files_told t) xs cases) (Err f) new) first.cases (subst (λ (p : Parts D). CollectsAll g read (Debugs read xs) (Err f) p) (sym still) all)) told
