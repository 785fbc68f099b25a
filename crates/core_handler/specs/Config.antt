-- The fields of a configuration. A key that is missing, or whose value is invalid, sets nothing.
use Rattle.std.specs.Prelude.{◌≡◌}
use Rattle.std.specs.Option.{option_copied}
use Rattle.toml.specs.Data.{Data}
use Rattle.core_handler.specs.Keys.{key_word}
use Rattle.core_handler.specs.Values.{text_at, natural_at, age_at, burst_at, flag_at}
use Rattle.core_handler.specs.declared.config.Config.{Config}
use Rattle.core_handler.specs.declared.keys.Key.TheVariants.{Archive, Keep, Bytes, Before, Limit, Fit, Fair, Cut, Burst, ObeyLimit, Template, UsesPid, NoWait, Stall, Label, Log, Spool, SpoolBytes}

pub record Says (document : Data) (c : Config) : Type 0 where
  pub archive : option_copied c.archive ≡ text_at (key_word Archive) document
  pub keep : c.keep ≡ natural_at (key_word Keep) document
  pub bytes : c.bytes ≡ natural_at (key_word Bytes) document
  pub before : c.before ≡ age_at (key_word Before) document
  pub limit : c.limit ≡ natural_at (key_word Limit) document
  pub fit : c.fit ≡ flag_at (key_word Fit) document
  pub fair : c.fair ≡ flag_at (key_word Fair) document
  pub cut : c.cut ≡ flag_at (key_word Cut) document
  pub burst : c.burst ≡ burst_at (key_word Burst) document
  pub obeys_limit : c.obeys_limit ≡ flag_at (key_word ObeyLimit) document
  pub template : option_copied c.template ≡ text_at (key_word Template) document
  pub uses_pid : c.uses_pid ≡ flag_at (key_word UsesPid) document
  pub no_wait : c.no_wait ≡ flag_at (key_word NoWait) document
  pub stall : c.stall ≡ natural_at (key_word Stall) document
  pub label : option_copied c.label ≡ text_at (key_word Label) document
  pub log : option_copied c.log ≡ text_at (key_word Log) document
  pub spool : option_copied c.spool ≡ text_at (key_word Spool) document
  pub spool_bytes : c.spool_bytes ≡ natural_at (key_word SpoolBytes) document
