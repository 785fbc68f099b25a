-- A search for the crashes of cores: what looks at cores leave, and what is found so far.
use Rattle.std.proofs.Common.{◌≡◌, ◌++◌, ◌+◌, ◌<◌, ◌≤◌, ⊎_elim, inl, inr, ℕ, suc, List, [], ◌∷◌, length, take, map, slice_get, slice_index_or, Option, None, Some, Result, Ok, Err, refl, ap, sym, subst, ◌∙◌, arith}
use Rattle.std.specs.Prelude.{IsTrue}
use Rattle.std.proofs.lemmas.List.{get_or-map, length-append, length-map, take_all}
use Rattle.std.proofs.lemmas.Option.{get_or_from_slice_get, none-some, slice_get_cases, slice_get_within}
use Rattle.std.specs.List.Sorted.{IsNonDecreasingBy}
use Rattle.address_space.specs.Source.{ExecutableView}
use Rattle.build_replies.specs.Builds.{NamedId, told_of, told_or_none}
use Rattle.core_crashes.specs.CaseReading.{IsOnlyRead}
use Rattle.core_crashes.proofs.CaseReadingLemmas.{read_none}
use Rattle.case_queries.specs.Collecting.{Collects, CollectsAll, Wanted, debugs_by, wanted_by}
use Rattle.case_queries.specs.CollectingWords.{executable_view, read_as}
use Rattle.case_queries.specs.Facts.{AreFramesOf, SaysFacts}
use Rattle.case_queries.specs.LeaveLaws.{Leaves, leaves_as, leaves_then, looks_leaves, own_still}
use Rattle.case_queries.specs.Pieces.{SeesPieces}
use Rattle.case_queries.specs.Preparing.{Serves, StayPrepared}
use Rattle.case_queries.specs.Seeing.{AreOfCase, SeesImage}
use Rattle.case_queries.specs.declared.collect_executables.StoredExecutable.{StoredExecutable}
use Rattle.case_queries.specs.declared.facts.CoreFacts.{CoreFacts}
use Rattle.case_queries.specs.declared.prepared.PreparedExecutables.{PreparedExecutables}
use Rattle.case_queries.specs.declared.walk.CaseImage.{CaseImage}
use Rattle.case_queries.specs.declared.window.Part.{Part}
use Rattle.case_queries.proofs.AgainLemmas.{again, debugs_again, seen_again}
use Rattle.case_screens.specs.Core.{notes_in}
use Rattle.core_crashes.specs.Crashes.{CrashedSaid}
use Rattle.disk_model.specs.declared.disk.Disk as disk
use Rattle.frame_replies.specs.declared.values.FramesAnswer.{FramesAnswer}
use Rattle.image_replies.specs.CoreWords.{core_bytes}
use Rattle.image_replies.specs.declared.core_image.CoreFault.{CoreFault}
use Rattle.image_replies.specs.declared.core_image.CoreImage.{CoreImage}
use Rattle.intake.specs.Contents.{Contents, image_at}
use Rattle.intake.specs.Parts.{Parts, state_of, contents_of}
use Rattle.intake.specs.QuietLaws.{quiet_then}
use Rattle.intake.specs.State.{ArchiveState}
use Rattle.intake.specs.StayLaws.{stays_then}
use Rattle.journal_layout.specs.Case.{Case}
use Rattle.journal_layout.specs.Soundness.{case_numbered}
use Rattle.case_info.specs.Crashes.{AsksCrash, CrashesWith, FindsCrash, IsCrashBy, SeesCrash, SeesCrashes, first_thread}
use Rattle.case_info.specs.CrashWords.{CrashesBy, GoesOn, HasAdded, HasFound, StayRead, crashes_in}
use Rattle.case_info.specs.Screens.{shown_count}
use Rattle.case_info.specs.declared.crash_search.CrashSearch.{CrashSearch}
use Rattle.case_info.proofs.CrashLemmas.{next_number, sees_crash_more}
use Rattle.case_info.proofs.ScreenLemmas.{says_same}

-- the first numbers, and the next
one_longer : (ns : List ℕ) (i n : ℕ) → slice_get ns i ≡ Some n → take i ns ++ n ∷ [] ≡ take (i + 1) ns
one_longer ns i n is = subst (λ (m : ℕ). take i ns ++ m ∷ [] ≡ take (i + 1) ns) (get_or_from_slice_get ns i n 0 is) (next_number ns i (slice_get_within ns i n is))

pub added_longer : (s t : CrashSearch) (crash : CrashedSaid) → HasAdded s crash t → length (crashes_in s) < length (crashes_in t)
added_longer s t crash adds = let longer = ap length adds.found ∙ length-append (crashes_in s) (crash ∷ []) in omega (arith, longer)

-- a list has no number where it ended
pub slice_get_ends : (ns : List ℕ) (i : ℕ) → slice_get ns i ≡ None → length ns ≤ i
slice_get_ends ns i none = ⊎_elim (λ some. absurd (none-some some.0 (sym none ∙ some.2))) (λ past. past.0) (slice_get_cases ns i).1

-- what rises by the crashes that are said rises by the crashes
pub risen : {A B : Type 0} (f : A → B) (n : B → ℕ) (xs : List A) → IsNonDecreasingBy (λ x. n (f x)) xs → IsNonDecreasingBy n (map f xs)
risen f n [] rising i j d up below = absurd (omega (arith, below))
risen f n (x ∷ xs) rising i j d up below =
    let l = length-map (x ∷ xs) f in
    let low : i < length (x ∷ xs) = omega (arith, up, below, l) in
    let high : j < length (x ∷ xs) = omega (arith, below, l) in
    let a : n (slice_index_or (map f (x ∷ xs)) i d) ≡ n (f (slice_index_or (x ∷ xs) i x)) = ap n (get_or-map f (x ∷ xs) i x d low) in
    let b : n (slice_index_or (map f (x ∷ xs)) j d) ≡ n (f (slice_index_or (x ∷ xs) j x)) = ap n (get_or-map f (x ∷ xs) j x d high) in
    let up_to = rising i j x up high in
    subst (λ (m : ℕ). m ≤ n (slice_index_or (map f (x ∷ xs)) j d)) (sym a) (subst (λ (m : ℕ). n (f (slice_index_or (x ∷ xs) i x)) ≤ m) (sym b) up_to)

module _ {D : Type 0} (g : disk.Ghosts D) where
  pub sees_only : (a b : Parts D) (seq : ℕ) (image : List ℕ) → SeesImage g a seq image b → IsOnlyRead g a b
  sees_only a b seq image sees = record { state = sees.state; contents = sees.contents; quiet = sees.quiet; stays = sees.stays }

  pub only_then : (a b c : Parts D) → IsOnlyRead g a b → IsOnlyRead g b c → IsOnlyRead g a c
  only_then a b c first second = record {
    state = second.state ∙ first.state;
    contents = λ honest. second.contents (subst IsTrue (sym first.quiet.honesty) honest) ∙ first.contents honest;
    quiet = quiet_then g a.disk b.disk c.disk first.quiet second.quiet;
    stays = stays_then g a b c first.stays second.stays;
  }

  pub only_leaves : (a b : Parts D) → IsOnlyRead g a b → Leaves g a b
  only_leaves a b reads = record {
    stays = reads.stays;
    halts = λ stopped. ap (λ (s : ArchiveState). s.stopped) reads.state ∙ stopped;
    cases = ap (λ (s : ArchiveState). s.cases) reads.state;
    streams = inl (ap (λ (s : ArchiveState). s.streams) reads.state);
    images = λ honest. ap (λ (c : Contents). c.images) (reads.contents honest);
    taken = λ honest. inl (ap (λ (c : Contents). c.taken) (reads.contents honest));
  }

  -- what a case has in an archive it had in the archive before, if that was only read
  own_before : (a b : Parts D) (seq : ℕ) (image : List ℕ) → IsOnlyRead g a b → AreOfCase g b seq image → AreOfCase g a seq image
  own_before a b seq image reads own = record {
    bytes = λ honest.
        ap (λ (s : ArchiveState). image_at seq s.cases (contents_of g.seen a).images) (sym reads.state)
        ∙ ap (λ (x : Contents). image_at seq (state_of b).cases x.images) (sym (reads.contents honest))
        ∙ own.bytes (subst IsTrue (sym reads.quiet.honesty) honest);
    long = λ c found. own.long c (ap (λ (s : ArchiveState). case_numbered seq s.cases) reads.state ∙ found);
  }

  sees_before : (a b c : Parts D) (seq : ℕ) (image : List ℕ) → IsOnlyRead g a b → SeesImage g b seq image c → SeesImage g a seq image c
  sees_before a b c seq image reads sees =
      let all = only_then a b c reads (sees_only b c seq image sees) in
      record { own = own_before a b seq image reads sees.own; state = all.state; contents = all.contents; quiet = all.quiet; stays = all.stays }

  frames_before : (a b : Parts D) (seq : ℕ) (front : List ℕ) (size : ℕ) (told : Option (List NamedId)) (xs : List ExecutableView) (lines t : ℕ) (us : List (Option FramesAnswer)) → IsOnlyRead g a b
      → AreFramesOf g b seq front size told xs lines t us → AreFramesOf g a seq front size told xs lines t us
  frames_before a b seq front size told xs lines t [] reads are = tt
  frames_before a b seq front size told xs lines t (u ∷ us) reads are =
      let one = are.0 in
      ((one.0, own_before a b seq one.0 reads one.1, one.2, one.3, one.4, one.5), frames_before a b seq front size told xs lines (suc t) us reads are.1)

  pub says_before : (a b c : Parts D) (seq : ℕ) (front : List ℕ) (size : ℕ) (told : Option (List NamedId)) (xs : List ExecutableView) (n lines : ℕ) (facts : CoreFacts) → IsOnlyRead g a b
      → SaysFacts g b seq front size told xs n lines facts c → SaysFacts g a seq front size told xs n lines facts c
  says_before a b c seq front size told xs n lines facts reads says = record {
    count = says.count;
    frames = frames_before a b seq front size told xs lines 0 facts.unwound.items reads says.frames;
    image = says.image;
    seen = sees_before a b c seq says.image reads says.seen;
    begins = says.begins;
    states = says.states;
    builds = says.builds;
  }

  asks_before : (a b mid : Parts D) (seq : ℕ) (image : List ℕ) (r : Result CoreImage CoreFault) (crash : CrashedSaid) (new : Parts D) → IsOnlyRead g a b → AsksCrash g b mid seq image r crash new → AsksCrash g a mid seq image r crash new
  asks_before a b mid seq image (Ok core) crash new reads finds = record {
    told = finds.told;
    states = finds.states;
    executables = finds.executables;
    read = finds.read;
    collects = finds.collects;
    debug_files = finds.debug_files;
    all = finds.all;
    debugs = finds.debugs;
    facts = finds.facts;
    walked = finds.walked;
    says = says_before a b finds.walked seq _ (length image) finds.told (finds.executables ++ finds.debug_files) _ 0 finds.facts reads finds.says;
    crashes = finds.crashes;
  }
  asks_before a b mid seq image (Err fault) crash new reads asks = asks

  -- a crash that is seen after an archive was only read
  pub crash_before : (a b new : Parts D) (seq : ℕ) (crash : CrashedSaid) → IsOnlyRead g a b → SeesCrash g b seq crash new → SeesCrash g a seq crash new
  crash_before a b new seq crash reads sees =
      (sees.0, sees.1, sees_before a b sees.1 seq sees.0 reads sees.2, sees.3, sees.4, asks_before a b sees.1 seq sees.0 sees.3 crash new reads sees.5)

  -- what a crash that is seen leaves
  pub with_leaves : (a new : Parts D) (seq size : ℕ) (front : List ℕ) (facts : CoreFacts) (frames : Option FramesAnswer) (crash : CrashedSaid) → CrashesWith g a seq size front facts frames crash new → Leaves g a new
  with_leaves a new seq size front facts None crash by = leaves_as g a new by.0
  with_leaves a new seq size front facts (Some frames) crash by = only_leaves a new by.1.reads

  asks_leaves : (a mid new : Parts D) (seq : ℕ) (image : List ℕ) (r : Result CoreImage CoreFault) (crash : CrashedSaid) → SeesImage g a seq image mid → AsksCrash g a mid seq image r crash new → Leaves g a new
  asks_leaves a mid new seq image (Ok core) crash sees finds =
      leaves_then g a finds.walked new (looks_leaves g a finds.walked seq (Ok finds.says.image) finds.says.seen) (with_leaves finds.walked new seq _ _ finds.facts _ crash finds.crashes)
  asks_leaves a mid new seq image (Err fault) crash sees asks = leaves_then g a mid new (looks_leaves g a mid seq (Ok image) sees) (leaves_as g mid new asks.0)

  pub crash_leaves : (a new : Parts D) (seq : ℕ) (crash : CrashedSaid) → SeesCrash g a seq crash new → Leaves g a new
  crash_leaves a new seq crash sees = asks_leaves a sees.1 new seq sees.0 sees.3 crash sees.2 sees.5

  count : (a b : Parts D) (ns : List ℕ) (ks : List CrashedSaid) → SeesCrashes g a ns ks b → length ns ≡ length ks
  count a b [] [] sees = refl
  count a b [] (k ∷ ks) sees = absurd sees
  count a b (n ∷ ns) [] sees = absurd sees
  count a b (n ∷ ns) (k ∷ ks) sees = ap suc (count sees.0 b ns ks sees.2)

  -- all crashes were found
  pub found_all : (first now : Parts D) (order : List ℕ) (ks : List CrashedSaid) → HasFound g first order ks now → length order ≤ length ks → SeesCrashes g first order ks now
  found_all first now order ks found all =
      let whole : take (length ks) order ≡ order = take_all (length ks) order all in
      let sees = subst (λ (ns : List ℕ). SeesCrashes g first ns ks found.last) whole found.sees in
      subst (λ (a : Parts D). SeesCrashes g first order ks a) (sym (found.ends (sym (count first found.last order ks sees)))) sees

  module _ (only : (d : D) (c : List ℕ) → g.left_since d (g.clock d) c → g.may_leave d c) where
    pub stay_prepared : (a b : Parts D) (p : PreparedExecutables) → Leaves g a b → StayPrepared g a p → StayPrepared g b p
    stay_prepared a b p leaves stay = (again g b (only b.disk) a a _ _ leaves stay.0, again g b (only b.disk) a a _ _ leaves stay.1)

    -- pieces that were seen are seen again with nothing read
    pub pieces_again : (a b : Parts D) (o : CaseImage) (ps : List Part) → SeesPieces g a o ps b → SeesPieces g b o ps b
    pieces_again a b o ps sees =
        (sees.0, seen_again g b (only b.disk) o.seq sees.0 (own_still g a b o.seq sees.0 (looks_leaves g a b o.seq (Ok sees.0) sees.1) sees.1.own), sees.2)

    -- executables that were read may be read again
    pub stay_read : (a b c : Parts D) (ws : List Wanted) (xs : List StoredExecutable) → Leaves g b c → map read_as xs ≡ ws → CollectsAll g a ws (Ok (map executable_view xs)) b → StayRead g c xs
    stay_read a b c ws xs leaves are collects =
        subst (λ (vs : List Wanted). Collects g c vs (Ok (map executable_view xs)) c) (sym are) (debugs_again g c (only c.disk) a b ws (map executable_view xs) leaves collects)

    pub found_none : (first : Parts D) (order : List ℕ) (ks : List CrashedSaid) → ks ≡ [] → HasFound g first order ks first
    found_none first order ks none = subst (λ (ls : List CrashedSaid). HasFound g first order ls first) (sym none) (record {
      last = first;
      sees = refl;
      reads = read_none g only first;
      ends = λ all. refl;
    })

    -- one crash more
    found_more : (first now new : Parts D) (order : List ℕ) (ks : List CrashedSaid) (seq : ℕ) (crash : CrashedSaid) → slice_get order (length ks) ≡ Some seq → SeesCrash g now seq crash new → HasFound g first order ks now
        → HasFound g first order (ks ++ crash ∷ []) new
    found_more first now new order ks seq crash next sees found =
        let longer : length (ks ++ crash ∷ []) ≡ length ks + 1 = length-append ks (crash ∷ []) in
        let more = sees_crash_more g (take (length ks) order) ks first found.last new seq crash found.sees (crash_before found.last now new seq crash found.reads sees) in
        record {
          last = new;
          sees = subst (λ (ns : List ℕ). SeesCrashes g first ns (ks ++ crash ∷ []) new) (one_longer order (length ks) seq next ∙ ap (λ (n : ℕ). take n order) (sym longer)) more;
          reads = read_none g only new;
          ends = λ all. refl;
        }

    -- nothing is found, and the archive is only read
    found_reads : (first now new : Parts D) (order : List ℕ) (ks : List CrashedSaid) → length ks < length order → IsOnlyRead g now new → HasFound g first order ks now → HasFound g first order ks new
    found_reads first now new order ks fewer reads found = record {
      last = found.last;
      sees = found.sees;
      reads = only_then found.last now new found.reads reads;
      ends = λ all. absurd (omega (arith, fewer, all));
    }

    pub goes_none : (a : Parts D) (s : CrashSearch) → GoesOn g a s s a
    goes_none a s = record { order = refl; stored = refl; more = omega arith; cases = refl; found = λ first found. found }

    pub goes_then : (a b c : Parts D) (s t u : CrashSearch) → GoesOn g a s t b → GoesOn g b t u c → GoesOn g a s u c
    goes_then a b c s t u one other = record {
      order = other.order ∙ one.order;
      stored = other.stored ∙ one.stored;
      more = (let m = one.more in let n = other.more in omega (arith, m, n));
      cases = other.cases ∙ one.cases;
      found = λ first found.
          subst (λ (ns : List ℕ). HasFound g first ns (crashes_in u) c) (ap (λ v. v.items) one.order)
          (other.found first (subst (λ (ns : List ℕ). HasFound g first ns (crashes_in t) b) (sym (ap (λ v. v.items) one.order)) (one.found first found)));
    }

    -- the crash of the next core is put to those of the others
    pub goes_more : (a b : Parts D) (s t : CrashSearch) (seq : ℕ) (crash : CrashedSaid) → slice_get s.order.items (length (crashes_in s)) ≡ Some seq → SeesCrash g a seq crash b → HasAdded s crash t → GoesOn g a s t b
    goes_more a b s t seq crash next sees adds = record {
      order = adds.order;
      stored = adds.stored;
      more = (let longer = ap length adds.found ∙ length-append (crashes_in s) (crash ∷ []) in omega (arith, longer));
      cases = (crash_leaves a b seq crash sees).cases;
      found = λ first found.
          subst (λ (ks : List CrashedSaid). HasFound g first s.order.items ks b) (sym adds.found) (found_more first a b s.order.items (crashes_in s) seq crash next sees found);
    }

    pub goes_reads : (a b : Parts D) (s : CrashSearch) → length (crashes_in s) < length s.order.items → IsOnlyRead g a b → GoesOn g a s s b
    goes_reads a b s fewer reads = record {
      order = refl;
      stored = refl;
      more = omega arith;
      cases = ap (λ (x : ArchiveState). x.cases) reads.state;
      found = λ first found. found_reads first a b s.order.items (crashes_in s) fewer reads found;
    }

  -- what a crash by executables leaves
  pub by_leaves : (a new : Parts D) (seq : ℕ) (front : List ℕ) (size : ℕ) (told : Option (List NamedId)) (xs : List ExecutableView) (n : ℕ) (crash : CrashedSaid) → CrashesBy g a seq front size told xs n crash new → Leaves g a new
  by_leaves a new seq front size told xs n crash by =
      leaves_then g a by.walked new (looks_leaves g a by.walked seq (Ok by.says.image) by.says.seen) (with_leaves by.walked new seq size front by.facts _ crash by.crashes)

  -- the crash of a core by executables that are what is read for it
  pub finds_by : (old mid read all new : Parts D) (seq size n : ℕ) (image first : List ℕ) (told : Option (List NamedId)) (xs ds ys : List ExecutableView) (core : CoreImage) (crash : CrashedSaid)
      → told_of image ≡ told → first ≡ core_bytes core → size ≡ length image → ys ≡ xs ++ ds → n ≡ shown_count first_thread (notes_in image)
      → CollectsAll g mid (wanted_by (told_or_none told) (state_of mid).cases) (Ok xs) read → CollectsAll g read (debugs_by (told_or_none told) xs (state_of read).cases) (Ok ds) all
      → IsOnlyRead g old all → CrashesBy g all seq first size told ys n crash new → FindsCrash g old mid seq image (core_bytes core) crash new
  finds_by old mid read all new seq size n image first told xs ds ys core crash states own long are many collects debugs reads by = record {
    told = told;
    states = states;
    executables = xs;
    read = read;
    collects = collects;
    debug_files = ds;
    all = all;
    debugs = debugs;
    facts = by.facts;
    walked = by.walked;
    says = says_same g old by.walked seq first (core_bytes core) size (length image) told ys (xs ++ ds) n _ 0 by.facts own long are many (says_before old all by.walked seq first size told ys n 0 by.facts reads by.says);
    crashes =
        subst (λ (b : List ℕ). IsCrashBy g by.walked seq (length image) b by.facts crash new) own
        (subst (λ (k : ℕ). IsCrashBy g by.walked seq k first by.facts crash new) long by.crashes);
  }

  -- executables that stay and serve a core are what is read for it
  pub served_executables : (a : Parts D) (p : PreparedExecutables) (told : List NamedId) (cases : List Case) → StayPrepared g a p → Serves p told cases → CollectsAll g a (wanted_by told cases) (Ok (map executable_view p.stored.now)) a
  served_executables a p told cases stay serves =
      inr (subst (λ (ws : List Wanted). Collects g a ws (Ok (map executable_view p.stored.now)) a) serves.wanted stay.0)

  pub served_debugs : (a : Parts D) (p : PreparedExecutables) (told : List NamedId) (cases : List Case) → StayPrepared g a p → Serves p told cases
      → CollectsAll g a (debugs_by told (map executable_view p.stored.now) cases) (Ok (map executable_view p.debug_files.now)) a
  served_debugs a p told cases stay serves =
      inr (subst (λ (ws : List Wanted). Collects g a ws (Ok (map executable_view p.debug_files.now)) a) serves.debugs stay.1)
