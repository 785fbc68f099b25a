-- The request of the kernel's handler, by its configuration and by the words that the kernel gives it.
use Rattle.std.specs.Prelude.{◌≡◌, ℕ, ◌-◌, ◌/◌, ◌^◌, Bool, true, false, ◌&&◌, nat_lt, List, Option, None, Some, Result, Ok, Err, codes, if◌then◌else◌}
use Rattle.std.specs.Duration.{as_nanos}
use Rattle.std.specs.Option.{option_copied, unwrap_or}
use Rattle.std.specs.declared.time.Duration.{Duration}
use Rattle.arrayvec.specs.ArrayVec.{ArrayVec}
use Rattle.archive_files.specs.declared.storing.StoreRequest.{StoreRequest}
use Rattle.core_handler.specs.declared.config.Config.{Config}
use Rattle.core_handler.specs.declared.config.Burst as allowed
use Rattle.inspector_cli.specs.Storing.{line_stream}
use Rattle.inspector_cli.specs.declared.burst.Burst.{Burst}
use Rattle.inspector_cli.specs.declared.session.Order.{Order}
use Rattle.inspector_cli.specs.declared.session.Order.TheVariants.{Oldest, Fair}
use Rattle.inspector_cli.specs.declared.session.StoreOptions.{StoreOptions}
use Rattle.intake.specs.State.{StreamFacts}
use Rattle.stream_names.specs.Template.{template_fault}
use Rattle.stream_names.specs.declared.template.TemplateFault.{TemplateFault}
use Rattle.retention.specs.declared.Policy.{Policy}
use Rattle.script_lines.specs.Said.{Said, said}
use Rattle.stream_names.specs.Commands.{stream_found}
use Rattle.core_handler.specs.Fronts.{named_by, program_front}
use Rattle.core_handler.specs.declared.handling.HandleWords.{HandleWords}

-- the time of a clock, in whole seconds since 1970
abbrev pub IsTimeRead : {E : Type 0} → Result Duration E → Option ℕ → Type 0
IsTimeRead (Ok time) now = now ≡ Some (as_nanos time / 1_000_000_000)
IsTimeRead (Err fault) now = now ≡ None

-- The time for a configuration with this age: the clock's. With no age there is no time.
abbrev pub IsTime : {E : Type 0} → (Result Duration E → Type 0) → Option ℕ → Option ℕ → Type 0
IsTime gives None now = now ≡ None
IsTime {E} gives (Some age) now = (read : Result Duration E) × gives read × IsTimeRead read now

-- The time of this age, in seconds since 1970: never before 1970. None, if no age is said, or the time is not known.
abbrev pub time_before : Option ℕ → Option ℕ → Option ℕ
time_before (Some now) (Some age) = Some (now - age)
time_before None (Some age) = None
time_before now None = None

-- the policy with these limits; none, if there is no limit
abbrev pub policy_within : Option ℕ → Option ℕ → Option ℕ → Option Policy
policy_within None None None = None
policy_within keep bytes before = Some (record { keep = keep; bytes = bytes; before = before })

-- Which cases go first: so many stay, with so many bytes, and none that is older than the configuration says.
abbrev pub policy_of : Config → Option ℕ → Option Policy
policy_of config now = policy_within config.keep config.bytes (time_before now config.before)

-- the most bytes of an image: 1 GiB, if the configuration doesn't say
abbrev pub limit_of : Config → ℕ
limit_of config = unwrap_or config.limit (2 ^ 30)

-- how many bytes are kept of a core that is too large or finds no room: those of the limit, if it is to be cut
abbrev pub cut_of : Config → Option ℕ
cut_of config = if config.cut then Some (limit_of config) else None

-- in which order cases go: the fair one, if that is asked for
abbrev pub order_of : Bool → Order
order_of fair = if fair then Fair else Oldest

-- as many cores of the program whose names begin so, in as many seconds, as the configuration says
abbrev pub burst_of : Option allowed.Burst → List ℕ → Option Burst
burst_of None front = None
burst_of (Some burst) front = Some (record { front = record { items = front }; most = burst.most; seconds = burst.seconds })

abbrev pub template_unless : Option TemplateFault → List ℕ → List ℕ
template_unless None template = template
template_unless (Some fault) template = codes "core.%u.%h.%e.%p.%t"

-- the template of the configuration; `core.%u.%h.%e.%p.%t`, if it has none, or none that is in order
abbrev pub template_of : Option (List ℕ) → List ℕ
template_of None = codes "core.%u.%h.%e.%p.%t"
template_of (Some template) = template_unless (template_fault template) template

abbrev pub template_if_found : Result StreamFacts (List ℕ) → List ℕ → List ℕ
template_if_found (Ok stream) template = template
template_if_found (Err reason) template = codes "core.%u.%p.%t"

-- by which template a core is named: that one; `core.%u.%p.%t`, if it gives no name
abbrev pub naming_template : Config → Said → List ℕ
naming_template config what =
    let template = template_of (option_copied config.template) in
    template_if_found (line_stream (named_by template config.uses_pid) what) template

-- The options besides the policy and the limit. No case is pinned, and no digest is stated.
abbrev pub options_of : Config → List ℕ → Option ℕ → List ℕ → Option (ArrayVec ℕ) → StoreOptions
options_of config begin length template label = record {
  label = label;
  pin = false;
  fit = config.fit;
  order = order_of config.fair;
  cut = cut_of config;
  length = length;
  digest = None;
  burst = burst_of config.burst (program_front template (said begin));
}

-- The request for the core that a line begins, if it is named by this template: with the length that is stated, the time, if it is
-- known, and the label, if it is taken.
pub record Asks (config : Config) (begin : List ℕ) (length : Option ℕ) (template : List ℕ) (now : Option ℕ) (label : Option (ArrayVec ℕ)) (request : StoreRequest) : Type 0 where
  -- the cases that go first
  pub policy : request.policy ≡ policy_of config now
  -- the stream that the line begins, or why it begins none
  pub found : stream_found request.found ≡ line_stream (named_by template config.uses_pid) (said begin)
  pub options : request.options ≡ options_of config begin length template label
  pub limit : request.limit ≡ limit_of config

-- The same at a time that a clock gave, and with a label only if the configuration has one.
abbrev pub AsksBy : {E : Type 0} → (Result Duration E → Type 0) → Config → List ℕ → Option ℕ → List ℕ → StoreRequest → Type 0
AsksBy gives config begin length template request =
    (now : Option ℕ) × (label : Option (ArrayVec ℕ)) × (option_copied config.label ≡ None → label ≡ None) × Asks config begin length template now label request × IsTime gives config.before now

-- The request of the handler.
abbrev pub IsRequested : {E : Type 0} → (Result Duration E → Type 0) → Config → List ℕ → Option ℕ → StoreRequest → Type 0
IsRequested gives config begin length request = AsksBy gives config begin length (naming_template config (said begin)) request

-- The core is lost for its process's own limit: the configuration obeys such limits, the pattern states it, and it is less than a page.
abbrev pub is_limited : Config → Option ℕ → Bool
is_limited config None = false
is_limited config (Some bytes) = config.obeys_limit && nat_lt bytes 4096

-- The request for a core with these words: no request if and only if the core is lost for that limit, and else that of the handler.
abbrev pub IsWanted : {E : Type 0} → (Result Duration E → Type 0) → Config → HandleWords → Option StoreRequest → Type 0
IsWanted gives config words None = is_limited config words.core_limit ≡ true
IsWanted gives config words (Some request) = (is_limited config words.core_limit ≡ false) × IsRequested gives config words.begin.items words.length request
