-- The keys of a configuration, and the type that the value of each must have.
use Rattle.std.specs.Prelude.{ℕ, Bool, List, Option, None, Some, is_some, codes, if◌then◌else◌}
use Rattle.std.specs.Str.{bytes_eq}
use Rattle.toml.specs.Data.{Data, as_str, as_bool}
use Rattle.core_handler.specs.Values.{natural_in, age_in, burst_in}
use Rattle.core_handler.specs.declared.keys.Key.{Key}
use Rattle.core_handler.specs.declared.keys.Key.TheVariants.{Archive, Keep, Bytes, Before, Limit, Fit, Fair, Cut, Burst, ObeyLimit, Template, UsesPid, NoWait, Stall, Label, Log, Spool, SpoolBytes}
use Rattle.core_handler.specs.declared.keys.Fault.{Fault}
use Rattle.core_handler.specs.declared.keys.Fault.TheVariants.{Unknown, NotText, NotNumber, NotFlag, NotAge, NotBurst}

-- how a key is written
abbrev pub key_word : Key → List ℕ
key_word Archive = codes "archive"
key_word Keep = codes "keep"
key_word Bytes = codes "bytes"
key_word Before = codes "before"
key_word Limit = codes "limit"
key_word Fit = codes "fit"
key_word Fair = codes "fair"
key_word Cut = codes "cut"
key_word Burst = codes "burst"
key_word ObeyLimit = codes "obey-limit"
key_word Template = codes "template"
key_word UsesPid = codes "uses-pid"
key_word NoWait = codes "no-wait"
key_word Stall = codes "stall"
key_word Label = codes "label"
key_word Log = codes "log"
key_word Spool = codes "spool"
key_word SpoolBytes = codes "spool-bytes"

abbrev pub is_word_of : List ℕ → Key → Bool
is_word_of word key = bytes_eq word (key_word key)

-- the key that is written so
abbrev pub key_of : List ℕ → Option Key
key_of word =
    if is_word_of word Archive then Some Archive
    else (if is_word_of word Keep then Some Keep
    else (if is_word_of word Bytes then Some Bytes
    else (if is_word_of word Before then Some Before
    else (if is_word_of word Limit then Some Limit
    else (if is_word_of word Fit then Some Fit
    else (if is_word_of word Fair then Some Fair
    else (if is_word_of word Cut then Some Cut
    else (if is_word_of word Burst then Some Burst
    else (if is_word_of word ObeyLimit then Some ObeyLimit
    else (if is_word_of word Template then Some Template
    else (if is_word_of word UsesPid then Some UsesPid
    else (if is_word_of word NoWait then Some NoWait
    else (if is_word_of word Stall then Some Stall
    else (if is_word_of word Label then Some Label
    else (if is_word_of word Log then Some Log
    else (if is_word_of word Spool then Some Spool
    else (if is_word_of word SpoolBytes then Some SpoolBytes
    else None)))))))))))))))))

-- a value that is missing is this fault
abbrev pub unless : Fault → Bool → Option Fault
unless fault there = if there then None else Some fault

abbrev pub unless_there : {A : Type 0} → Fault → Option A → Option Fault
unless_there fault value = unless fault (is_some value)

-- The fault of a key's value: it is of another type than the key's.
abbrev pub value_fault : Key → Data → Option Fault
value_fault Archive d = unless_there NotText (as_str d)
value_fault Keep d = unless_there NotNumber (natural_in d)
value_fault Bytes d = unless_there NotNumber (natural_in d)
value_fault Before d = unless_there NotAge (age_in d)
value_fault Limit d = unless_there NotNumber (natural_in d)
value_fault Fit d = unless_there NotFlag (as_bool d)
value_fault Fair d = unless_there NotFlag (as_bool d)
value_fault Cut d = unless_there NotFlag (as_bool d)
value_fault Burst d = unless_there NotBurst (burst_in d)
value_fault ObeyLimit d = unless_there NotFlag (as_bool d)
value_fault Template d = unless_there NotText (as_str d)
value_fault UsesPid d = unless_there NotFlag (as_bool d)
value_fault NoWait d = unless_there NotFlag (as_bool d)
value_fault Stall d = unless_there NotNumber (natural_in d)
value_fault Label d = unless_there NotText (as_str d)
value_fault Log d = unless_there NotText (as_str d)
value_fault Spool d = unless_there NotText (as_str d)
value_fault SpoolBytes d = unless_there NotNumber (natural_in d)

abbrev pub fault_by : Option Key → Data → Option Fault
fault_by None d = Some Unknown
fault_by (Some key) d = value_fault key d

-- the fault of an entry, if it has any
abbrev pub entry_fault : List ℕ → Data → Option Fault
entry_fault word d = fault_by (key_of word) d
