-- Cases, as a prune sees them.
use Rattle.std.proofs.Common.{◌≡◌, ◌<◌, ◌≤◌, ◌+◌, ℕ, suc, List, [], ◌∷◌, ◌++◌, length, map, take, get_or, Vec, Global, refl, ap, sym, subst, ◌∙◌, arith}
use Rattle.std.proofs.lemmas.List.{get_or-map, take_more}
use Rattle.pruning.specs.declared.cases.LiveCase.{LiveCase}
use Rattle.pruning.specs.declared.cases.MappedFile.{MappedFile}
use Rattle.case_info.specs.Gathering.{CaseValue, FileValue, files_view, listed_view}
use Rattle.case_info.specs.Planning.{AreSeenAs, IsSeenAs, lent_view, mapped_of, mapped_view}
use Rattle.case_info.specs.declared.gathering.ListedCase.{ListedCase}
use Rattle.case_info.specs.declared.kept_files.KeptFile.{KeptFile}
use Rattle.case_info.proofs.GatherLemmas.{next_listed}

-- one case more
seen_then : (cs : List CaseValue) (fs : List (List FileValue)) (ls : List LiveCase) (c : CaseValue) (f : List FileValue) (l : LiveCase) → AreSeenAs cs fs ls → IsSeenAs c f l → AreSeenAs (cs ++ c ∷ []) (fs ++ f ∷ []) (ls ++ l ∷ [])
seen_then [] [] [] c f l seen is = (is, tt)
seen_then [] [] (m ∷ ms) c f l seen is = absurd seen
seen_then [] (g ∷ gs) ls c f l seen is = absurd seen
seen_then (b ∷ bs) [] ls c f l seen is = absurd seen
seen_then (b ∷ bs) (g ∷ gs) [] c f l seen is = absurd seen
seen_then (b ∷ bs) (g ∷ gs) (m ∷ ms) c f l seen is = (seen.0, seen_then bs gs ms c f l seen.1 is)

-- those that went by, and the next
pub seen_next : (cs : List ListedCase) (lent : List (Vec MappedFile Global)) (files : List (List FileValue)) (i : ℕ) (x : ListedCase) (v : Vec MappedFile Global) (old new : List LiveCase) (l : LiveCase) → i < length cs → length cs ≤ length lent
    → x ≡ get_or cs i x → v ≡ get_or lent i v → ((kept : List FileValue) → map mapped_view v.items ≡ map mapped_of kept → IsSeenAs (listed_view x) kept l) → new ≡ old ++ l ∷ []
    → length files ≡ length cs → map lent_view lent ≡ map (map mapped_of) files → AreSeenAs (map listed_view (take i cs)) (take i files) old → AreSeenAs (map listed_view (take (i + 1) cs)) (take (i + 1) files) new
seen_next cs lent files i x v old new l within long case_at lent_at seen put count same before =
    let inside : i < length files = omega (arith, within, count) in
    let there : i < length lent = omega (arith, within, long) in
    let kept = get_or files i [] in
    let is : map mapped_view v.items ≡ map mapped_of kept =
    ap lent_view lent_at ∙ sym (get_or-map lent_view lent i v [] there) ∙ ap (λ xs. get_or xs i []) same ∙ get_or-map (map mapped_of) files i [] [] inside in
    let all = seen_then (map listed_view (take i cs)) (take i files) old (listed_view x) kept l before (seen kept is) in
    let cased = subst (λ (vs : List CaseValue). AreSeenAs vs (take i files ++ kept ∷ []) (old ++ l ∷ [])) (next_listed cs i x within case_at) all in
    let filed = subst (λ (fs : List (List FileValue)). AreSeenAs (map listed_view (take (i + 1) cs)) fs (old ++ l ∷ [])) (sym (take_more files i [] inside)) cased in
    subst (λ (ls : List LiveCase). AreSeenAs (map listed_view (take (i + 1) cs)) (take (i + 1) files) ls) (sym put) filed

pub length_of : {X Y : Type 0} (f : X → Y) (xs : List X) → length (map f xs) ≡ length xs
length_of f [] = refl
length_of f (x ∷ xs) = ap suc (length_of f xs)

-- as many are lent as there are
pub as_many : (lent : List (Vec MappedFile Global)) (files : List (Vec KeptFile Global)) → map lent_view lent ≡ map (map mapped_of) (map files_view files) → length lent ≡ length files
as_many lent files same = sym (length_of lent_view lent) ∙ ap length same ∙ length_of (map mapped_of) (map files_view files) ∙ length_of files_view files
