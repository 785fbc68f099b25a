mod CommandLemmas
mod MadeLemmas
mod NoteLemmas
mod RuleLemmas
