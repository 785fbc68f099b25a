-- The requests that the words of `store` and of `handle` make.
use Rattle.std.specs.Prelude.{◌≡◌, ◌⊎◌, ℕ, ◌==◌, ◌||◌, ◌&&◌, not, nat_lt, Bool, true, false, List, [], ◌∷◌, ◌++◌, length, map, Option, None, Some, is_some, Result, Ok, Err, codes, if◌then◌else◌}
use Rattle.std.specs.List.{after_first, before_first, flat_map, position_or_len}
use Rattle.std.specs.Borrow.{Bor}
use Rattle.std.specs.Option.{option_copied, option_map, unwrap_or}
use Rattle.arrayvec.specs.ArrayVec.{ArrayVec}
use Rattle.archive_files.specs.declared.archive_path.ArchivePath.{ArchivePath}
use Rattle.archive_files.specs.declared.build_store.BuildRequest.{BuildRequest}
use Rattle.archive_files.specs.declared.failures.Refusal.{Refusal}
use Rattle.archive_files.specs.declared.failures.WordPart.{WordPart}
use Rattle.archive_files.specs.declared.failures.Refusal.TheVariants.{BadLine, NotUtf8, OutOfMemory}
use Rattle.archive_files.specs.OverDisks.{named_as}
use Rattle.archive_files.specs.declared.storing.StoreRequest.{StoreRequest}
use Rattle.archive_files.specs.declared.storing.StoreWords.{StoreWords}
use Rattle.build_ids.specs.BuildName.{has_name}
use Rattle.command_words.specs.RawWords.{bytes_meant}
use Rattle.core_handler.specs.Fronts.{named_by}
use Rattle.core_handler.specs.Requesting.{order_of, policy_within}
use Rattle.core_handler.specs.declared.handling.HandleWords.{HandleWords}
use Rattle.core_handler.specs.declared.spool_store.SpoolWords.{SpoolWords}
use Rattle.inspector_cli.specs.Storing.{line_stream}
use Rattle.intake.specs.State.{StreamFacts}
use Rattle.stream_names.specs.Template.{template_fault}
use Rattle.stream_names.specs.declared.template.TemplateFault.{TemplateFault}
use Rattle.retention.specs.declared.Policy.{Policy}
use Rattle.script_lines.specs.Commands.{label_bytes}
use Rattle.script_lines.specs.Said.{Said, said, label_of, begin_core}
use Rattle.script_words.specs.Hex.{needle_of}
use Rattle.script_words.specs.Number.{number_of}
use Rattle.script_words.specs.Printing.{shown_byte}
use Rattle.stream_names.specs.Commands.{stream_found}
use Rattle.stream_names.specs.declared.naming.Naming.{Naming}
use Rattle.command_line.specs.declared.store_words.GivenStore.{GivenStore}
use Rattle.command_line.specs.declared.handle_words.GivenHandle.{GivenHandle}
use Rattle.command_line.specs.declared.asked.Asked.{Asked}
use Rattle.command_line.specs.declared.asked.Asked.TheVariants.{Store, StoreBuild}
use Rattle.command_line.specs.declared.named_words.NamedWords as named

-- ---- How a line of a script has the words.

-- the bytes of a text, each as a script prints it: \xHH, if it doesn't print
abbrev pub shown_text : List ℕ → List ℕ
shown_text text = flat_map shown_byte (bytes_meant text)

-- a text as a line has it: as it is, unless its bytes are escaped
abbrev pub IsSpelled : Bool → List ℕ → List ℕ → Type 0
IsSpelled true text spelled = spelled ≡ shown_text text
IsSpelled false text spelled = spelled ≡ text

abbrev pub is_equals : ℕ → Bool
is_equals c = c == 61

-- the word has an `=`
abbrev pub has_equals : List ℕ → Bool
has_equals word = nat_lt (position_or_len is_equals word) (length word)

-- A pair as a line has it: unchanged; if VALUE is escaped, KEY stays unchanged, and a word that has no `=` too.
abbrev pub IsPair : Bool → List ℕ → List ℕ → Type 0
IsPair false pair spelled = spelled ≡ pair
IsPair true pair spelled =
    ((has_equals pair ≡ false) × (spelled ≡ pair))
    ⊎ ((has_equals pair ≡ true) × (spelled ≡ before_first is_equals pair ++ 61 ∷ shown_text (after_first is_equals pair)))

-- A line with these pairs behind it, in their order, a space before each.
abbrev pub IsJoined : Bool → List ℕ → List (List ℕ) → List ℕ → Type 0
IsJoined escapes line [] whole = whole ≡ line
IsJoined escapes line (pair ∷ pairs) whole = (spelled : List ℕ) × IsPair escapes pair spelled × IsJoined escapes (line ++ 32 ∷ spelled) pairs whole

-- why a text has no place in a line: a word is not UTF-8, or there is no memory
abbrev pub IsUnspelled : Refusal → Type 0
IsUnspelled why = (why ≡ OutOfMemory) ⊎ ((part : WordPart) × (why ≡ NotUtf8 part))

-- ---- The value of a word.

abbrev pub number_or_bad : Option ℕ → Result (Option ℕ) Refusal
number_or_bad None = Err BadLine
number_or_bad (Some n) = Ok (Some n)

-- A limit, or a length: the number of the word. It is left out with the word.
abbrev pub number_said : Option (List ℕ) → Result (Option ℕ) Refusal
number_said None = Ok None
number_said (Some word) = number_or_bad (number_of word)

abbrev pub policy_by : Result (Option ℕ) Refusal → Result (Option ℕ) Refusal → Result (Option ℕ) Refusal → Result (Option Policy) Refusal
policy_by (Ok keep) (Ok bytes) (Ok before) = Ok (policy_within keep bytes before)
policy_by (Ok keep) (Ok bytes) (Err why) = Err why
policy_by (Ok keep) (Err why) before = Err why
policy_by (Err why) bytes before = Err why

-- Which cases go first: those that the line `retire` takes with the limits that are given. None go if none is.
abbrev pub policy_said : GivenStore → Result (Option Policy) Refusal
policy_said given = policy_by (number_said (option_copied given.keep)) (number_said (option_copied given.bytes)) (number_said (option_copied given.before))

-- The line that begins the stream: of an executable, if it has a name, or of a core with its pairs. Both together say nothing.
abbrev pub IsBegun : GivenStore → Option (List ℕ) → List (List ℕ) → List ℕ → Type 0
IsBegun given None pairs line = IsJoined given.escapes (codes "begin core 0") pairs line
IsBegun given (Some name) [] line = (text : List ℕ) × (line ≡ codes "begin exec 0 " ++ text) × IsSpelled given.escapes name text
IsBegun given (Some name) (pair ∷ pairs) line = ⊥

-- the words of the given pairs
abbrev pub pairs_of : GivenStore → List (List ℕ)
pairs_of given = map (λ p. p.now) given.pairs.now

-- A label, as the line `label` has it; none, if none is given.
abbrev pub IsLabelled : Bool → Option (List ℕ) → Option (ArrayVec ℕ) → Type 0
IsLabelled escapes None None = Unit {0}
IsLabelled escapes None (Some label) = ⊥
IsLabelled escapes (Some text) None = ⊥
IsLabelled escapes (Some text) (Some label) =
    (spelled : List ℕ) × IsSpelled escapes text spelled × (case : ℕ) × (said (codes "label 1 " ++ spelled) ≡ label_of case (label_bytes label))

-- the bytes of a digest, which are 32
abbrev pub digest_within : Option (List ℕ) → Result (Option (List ℕ)) Refusal
digest_within None = Err BadLine
digest_within (Some bytes) = if length bytes == 32 then Ok (Some bytes) else Err BadLine

-- The SHA-256 that FILE must have: the bytes of the word's digits. It is left out with the word.
abbrev pub digest_said : Option (List ℕ) → Result (Option (List ℕ)) Refusal
digest_said None = Ok None
digest_said (Some word) = digest_within (needle_of word)

-- ---- The request.

-- The words of `store` as the file that is to be stored.
pub record AsksFor (given : GivenStore) (words : StoreWords) : Type 0 where
  -- the cases that go first
  pub policy : policy_said given ≡ Ok words.policy
  pub begun : IsBegun given (option_copied given.exec) (pairs_of given) words.begin.items
  pub label : IsLabelled given.escapes (option_copied given.label) words.options.label
  pub pin : words.options.pin ≡ given.pin
  -- cases go while it is stored
  pub fit : words.options.fit ≡ given.fit
  -- and in which order
  pub order : words.options.order ≡ order_of given.fair
  -- a stream that has more bytes than the limit, or finds no room, is kept up to there
  pub cut : words.options.cut ≡ (if given.cut then Some given.settings.limit else None)
  -- how many bytes it has
  pub length : number_said (option_copied given.length) ≡ Ok words.options.length
  -- and which digest
  pub digest : digest_said (option_copied given.digest) ≡ Ok words.options.digest
  -- no core is too much
  pub burst : words.options.burst ≡ None

-- how a core is named, unless it has a name of its own
abbrev pub template_said : GivenStore → List ℕ
template_said given = if is_some given.name then codes "core" else given.settings.template.now

abbrev pub pid_said : GivenStore → Bool
pid_said given = if is_some given.name then false else given.settings.uses_pid

-- the line of a script that begins an executable of a name, if there is one
abbrev pub IsNamed : Bool → Option (List ℕ) → Option (List ℕ) → Type 0
IsNamed escapes None line = line ≡ None
IsNamed escapes (Some name) None = ⊥
IsNamed escapes (Some name) (Some line) = (text : List ℕ) × (line ≡ codes "begin exec 0 " ++ text) × IsSpelled escapes name text

-- a stream as it was found, or under the name of the one that a line begins
abbrev pub found_under : Naming → Option (List ℕ) → Result StreamFacts (List ℕ) → Result StreamFacts (List ℕ)
found_under naming None found = found
found_under naming (Some line) found = named_as found (line_stream naming (said line))

-- A core's name is given although another word names the case, or although it goes through a spool, which keeps no name.
abbrev pub is_named_twice : GivenStore → Bool
is_named_twice given = is_some given.name && (is_some given.exec || is_some given.spool)

-- The request of `store`.
pub record Asks (given : GivenStore) (request : StoreRequest) : Type 0 where
  pub words : StoreWords
  pub asked : AsksFor given words
  pub policy : request.policy ≡ words.policy
  -- the stream that the line begins, named by the template, or why it begins none
  pub name : Option (List ℕ)
  pub named : IsNamed given.escapes (option_copied given.name) name
  pub alone : is_named_twice given ≡ false
  pub found : stream_found request.found ≡ found_under (named_by (template_said given) (pid_said given)) name (line_stream (named_by (template_said given) (pid_said given)) (said words.begin.items))
  pub options : request.options ≡ words.options
  -- the most bytes of an image
  pub limit : request.limit ≡ given.settings.limit
  pub template : template_fault (template_said given) ≡ None

-- ---- Which of the words is refused.

-- a text is no label
abbrev pub IsNoLabel : Bool → Option (List ℕ) → Type 0
IsNoLabel escapes None = ⊥
IsNoLabel escapes (Some text) =
    (spelled : List ℕ) × IsSpelled escapes text spelled × ((case : ℕ) (label : ArrayVec ℕ) → said (codes "label 1 " ++ spelled) ≡ label_of case (label_bytes label) → ⊥)

-- an executable has pairs of a core
abbrev pub HasBoth : Option (List ℕ) → List (List ℕ) → Type 0
HasBoth None pairs = ⊥
HasBoth (Some name) [] = ⊥
HasBoth (Some name) (pair ∷ pairs) = Unit {0}

-- A word is invalid: a limit, a length or a number of seconds is no number, a digest has not 64 hexadecimal digits, an executable has pairs, or the label can't be one.
abbrev pub IsAtFault : GivenStore → Type 0
IsAtFault given =
    (policy_said given ≡ Err BadLine)
    ⊎ (HasBoth (option_copied given.exec) (pairs_of given)
    ⊎ (IsNoLabel given.escapes (option_copied given.label)
    ⊎ ((number_said (option_copied given.length) ≡ Err BadLine)
    ⊎ ((number_said (option_copied given.stall) ≡ Err BadLine)
    ⊎ ((digest_said (option_copied given.digest) ≡ Err BadLine)
    ⊎ (is_named_twice given ≡ true))))))

-- Why words are refused: one is invalid, or not UTF-8, or there is no memory.
abbrev pub AreRefused : GivenStore → Refusal → Type 0
AreRefused given why = ((why ≡ BadLine) × IsAtFault given) ⊎ IsUnspelled why

-- The same with the template, which is checked after the words: it is refused only if none of them is invalid.
abbrev pub IsRefused : GivenStore → Refusal → Type 0
IsRefused given why =
    AreRefused given why
    ⊎ ((words : StoreWords) × AsksFor given words × (fault : TemplateFault) × (template_fault (template_said given) ≡ Some fault))

-- ---- Under which name each word is given.

-- The words under each name.
pub record IsGiven {W : Type 0} (g : named.Ghosts W) (words : W) (given : GivenStore) : Type 0 where
  pub file : (file : Option (List ℕ)) × g.stands words (codes "file") file × (given.file.now ≡ unwrap_or file [])
  pub keep : g.stands words (codes "keep") (option_copied given.keep)
  pub bytes : g.stands words (codes "bytes") (option_copied given.bytes)
  pub before : g.stands words (codes "before") (option_copied given.before)
  pub exec : g.stands words (codes "exec") (option_copied given.exec)
  pub name : g.stands words (codes "name") (option_copied given.name)
  pub label : g.stands words (codes "label") (option_copied given.label)
  pub length : g.stands words (codes "length") (option_copied given.length)
  pub digest : g.stands words (codes "sha256") (option_copied given.digest)
  pub stall : g.stands words (codes "stall") (option_copied given.stall)
  pub escapes : g.stated words (codes "escape") given.escapes
  pub pin : g.stated words (codes "pin") given.pin
  pub fit : g.stated words (codes "fit") given.fit
  pub fair : g.stated words (codes "fair") given.fair
  pub cut : g.stated words (codes "cut") given.cut
  pub build : g.stated words (codes "build") given.build
  pub id : g.stands words (codes "id") (option_copied given.id)
  pub is_debug : g.stated words (codes "debug") given.is_debug
  pub template : (template : Option (List ℕ)) × g.stands words (codes "template") template × (given.settings.template.now ≡ unwrap_or template [])
  pub uses_pid : g.stated words (codes "uses-pid") given.settings.uses_pid
  pub limit : g.counts words (codes "limit") given.settings.limit
  pub log : g.stands words (codes "log") (option_copied given.log)
  pub spool : g.stands words (codes "spool") (option_copied given.spool)

-- The directory of the spool that a core goes to first. An executable goes to none.
abbrev pub spool_said : GivenStore → Option (List ℕ)
spool_said given = if is_some (option_copied given.exec) then None else option_copied given.spool

-- Nothing goes to a spool; or a core does, with the line that begins it, and cases go for it if they go for the others.
abbrev pub IsSpooled : GivenStore → Option (List ℕ) → Option SpoolWords → Type 0
IsSpooled given None None = Unit {0}
IsSpooled given None (Some spool) = ⊥
IsSpooled given (Some folder) None = ⊥
IsSpooled given (Some folder) (Some spool) =
    (spool.folder.now ≡ folder) × IsBegun given (option_copied given.exec) (pairs_of given) spool.begin.items × (spool.fit ≡ given.fit)

-- the ID that is wanted, if it is one that gives a name
abbrev pub id_within : Option (List ℕ) → Result (Option (List ℕ)) Refusal
id_within None = Err BadLine
id_within (Some id) = if has_name id then Ok (Some id) else Err BadLine

-- The build ID that FILE must have: the bytes of the word's digits. It is left out with the word.
abbrev pub id_said : Option (List ℕ) → Result (Option (List ℕ)) Refusal
id_said None = Ok None
id_said (Some word) = id_within (needle_of word)

-- A word gives the kind of FILE, or that it may be cut, though its build gives that.
abbrev pub is_said_twice : GivenStore → Bool
is_said_twice given = is_some given.exec || (is_some given.name || (not (length given.pairs.now == 0) || given.cut))

-- The request of `store --build`: that of `store` without the name of an executable, pairs and a cut.
pub record AsksForBuild (given : GivenStore) (build : BuildRequest) : Type 0 where
  pub words : StoreWords
  pub asked : AsksFor given words
  pub policy : build.policy ≡ words.policy
  pub options : build.options ≡ words.options
  pub naming : build.naming ≡ named_by given.settings.template.now given.settings.uses_pid
  pub limit : build.limit ≡ given.settings.limit
  -- the build ID that it must have, and whether it is a debug file, whatever it is
  pub id : id_said (option_copied given.id) ≡ Ok (option_map (λ (i : ArrayVec ℕ). i.items) build.id)
  pub is_debug : build.is_debug ≡ given.is_debug
  pub alone : is_said_twice given ≡ false

-- Why it is refused.
abbrev pub IsBuildRefused : GivenStore → Refusal → Type 0
IsBuildRefused given why = ((why ≡ BadLine) × ((is_said_twice given ≡ true) ⊎ (id_said (option_copied given.id) ≡ Err BadLine))) ⊎ IsRefused given why

-- The request of `store --build` over this archive.
pub record AsksToStoreBuild (given : GivenStore) (archive : ArchivePath) (asked : Asked) : Type 0 where
  pub is_build : given.build ≡ true
  pub file : Bor (List ℕ)
  pub path : file.now ≡ given.file.now
  pub build : BuildRequest
  pub asks : AsksForBuild given build
  pub same : asked ≡ StoreBuild archive file build given.log

-- The request of `store` over this archive: which file is stored, as which kind of case, through which spool, and where the outcome is logged.
pub record AsksToStore (given : GivenStore) (archive : ArchivePath) (asked : Asked) : Type 0 where
  pub is_plain : given.build ≡ false
  pub file : Bor (List ℕ)
  pub path : file.now ≡ given.file.now
  pub request : StoreRequest
  pub asks : Asks given request
  -- for how many seconds the input may give nothing
  pub stall : Option ℕ
  pub bounded : number_said (option_copied given.stall) ≡ Ok stall
  -- a core goes there first
  pub spool : Option SpoolWords
  pub spooled : IsSpooled given (spool_said given) spool
  pub same : asked ≡ Store archive file stall request given.log spool

-- The request of `store`: by its build, or by its words.
abbrev pub AsksOfStore : GivenStore → ArchivePath → Asked → Type 0
AsksOfStore given archive (Store place file stall request log spool) = AsksToStore given archive (Store place file stall request log spool)
AsksOfStore given archive (StoreBuild place file build log) = AsksToStoreBuild given archive (StoreBuild place file build log)
AsksOfStore given archive _ = ⊥

-- ---- The words of `handle`.

-- the line begins a core
abbrev pub begins_core : Said → Bool
begins_core (begin_core slot process) = true
begins_core _ = false

-- The line has the pair then, and begins a core still; or it would begin none, and is as it was.
abbrev pub HasTaken : List ℕ → List ℕ → List ℕ → Bool → Type 0
HasTaken line pair line' true = (spelled : List ℕ) × IsPair true pair spelled × (line' ≡ line ++ 32 ∷ spelled) × (begins_core (said line') ≡ true)
HasTaken line pair line' false = (line' ≡ line) × (spelled : List ℕ) × IsPair true pair spelled × (begins_core (said (line ++ 32 ∷ spelled)) ≡ false)

-- the length that a pair states
abbrev pub IsLengthIn : List ℕ → Option (List ℕ) → Type 0
IsLengthIn pair None = (value : List ℕ) → pair ≡ codes "length=" ++ value → ⊥
IsLengthIn pair (Some value) = pair ≡ codes "length=" ++ value

-- A pair that states a length has no place in the line, and is not left out. Any other is in the line, or is left out if the line can't
-- have it.
abbrev pub HasAdded : List ℕ → List (Bor (List ℕ)) → Bor (List ℕ) → List ℕ → List (Bor (List ℕ)) → Type 0
HasAdded line left pair line' left' =
    ((value : List ℕ) × IsLengthIn pair.now (Some value) × (line' ≡ line) × (left' ≡ left))
    ⊎ (IsLengthIn pair.now None × ((HasTaken line pair.now line' true × (left' ≡ left)) ⊎ (HasTaken line pair.now line' false × (left' ≡ left ++ pair ∷ []))))

-- The line with each of these pairs that it can have, in their order, and those that are left out.
abbrev pub TakesPairs : List ℕ → List (Bor (List ℕ)) → List (Bor (List ℕ)) → List ℕ → List (Bor (List ℕ)) → Type 0
TakesPairs line left [] whole all = (whole ≡ line) × (all ≡ left)
TakesPairs line left (pair ∷ pairs) whole all =
    (line' : List ℕ) × (left' : List (Bor (List ℕ))) × HasAdded line left pair line' left' × TakesPairs line' left' pairs whole all

abbrev pub or_else : Option (List ℕ) → Option (List ℕ) → Option (List ℕ)
or_else None other = other
or_else (Some value) other = Some value

-- The word that states a length: the last pair that states one, or else the option.
abbrev pub IsStatedBy : Option (List ℕ) → List (Bor (List ℕ)) → Option (List ℕ) → Type 0
IsStatedBy option [] stated = stated ≡ option
IsStatedBy option (pair ∷ pairs) stated = (value : Option (List ℕ)) × IsLengthIn pair.now value × IsStatedBy (or_else value option) pairs stated

abbrev pub length_of : Option (List ℕ) → Option ℕ
length_of None = None
length_of (Some word) = number_of word

-- the number that a pair has behind a key
abbrev pub IsNumberIn : List ℕ → List ℕ → Option ℕ → Type 0
IsNumberIn key pair None = (value : List ℕ) → pair ≡ key ++ value → number_of value ≡ None
IsNumberIn key pair (Some n) = (value : List ℕ) × (pair ≡ key ++ value) × (number_of value ≡ Some n)

-- this number, or else that of the others
abbrev pub IsNumberOr : Option ℕ → Option ℕ → Type 0 → Type 0
IsNumberOr None found Others = Others
IsNumberOr (Some n) found Others = found ≡ Some n

-- The number of the first pair that has one behind a key.
abbrev pub IsNumberAt : List ℕ → List (Bor (List ℕ)) → Option ℕ → Type 0
IsNumberAt key [] found = found ≡ None
IsNumberAt key (pair ∷ pairs) found = (number : Option ℕ) × IsNumberIn key pair.now number × IsNumberOr number found (IsNumberAt key pairs found)

-- the first word, unless it has an `=`
abbrev pub config_of : List (Bor (List ℕ)) → Option (List ℕ)
config_of [] = None
config_of (word ∷ words) = if has_equals word.now then None else Some word.now

-- the words behind it
abbrev pub pairs_beside : List (Bor (List ℕ)) → List (Bor (List ℕ))
pairs_beside [] = []
pairs_beside (word ∷ words) = if has_equals word.now then word ∷ words else words

-- The words under each name.
pub record IsGivenToHandle {W : Type 0} (g : named.Ghosts W) (words : W) (given : GivenHandle) : Type 0 where
  pub archive : g.stands words (codes "archive") (option_copied given.archive)
  pub length : g.stands words (codes "length") (option_copied given.length)
  pub stall : g.stands words (codes "stall") (option_copied given.stall)
  pub is_check : g.stated words (codes "check") given.is_check
  pub is_flush : g.stated words (codes "flush") given.is_flush

-- The request of `handle`.
pub record Handles (given : GivenHandle) (asked : HandleWords) : Type 0 where
  pub config : option_copied asked.config ≡ config_of given.words.now
  pub archive : option_copied asked.archive ≡ option_copied given.archive
  pub begun : TakesPairs (codes "begin core 0") [] (pairs_beside given.words.now) asked.begin.items asked.left_out.items
  pub stated : Option (List ℕ)
  pub states : IsStatedBy (option_copied given.length) (pairs_beside given.words.now) stated
  pub length : asked.length ≡ length_of stated
  -- the word that states a length, and is no number
  pub faulty : option_copied asked.faulty_length ≡ (if is_some asked.length then None else stated)
  -- for how many seconds the input may give nothing, and the word that states that and is no number
  pub stall : asked.stall ≡ length_of (option_copied given.stall)
  pub faulty_stall : option_copied asked.faulty_stall ≡ (if is_some asked.stall then None else option_copied given.stall)
  -- the core size that the process allows, and its dump mode
  pub core_limit : IsNumberAt (codes "limit=") (pairs_beside given.words.now) asked.core_limit
  pub mode : IsNumberAt (codes "mode=") (pairs_beside given.words.now) asked.mode
  pub is_check : asked.is_check ≡ given.is_check
  pub is_flush : asked.is_flush ≡ given.is_flush
