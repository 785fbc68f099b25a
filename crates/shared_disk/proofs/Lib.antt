pub mod LookLemmas
mod ReadLemmas
mod SeenLemmas
mod ScriptLemmas
