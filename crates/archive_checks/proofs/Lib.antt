mod CheckLemmas
mod FrontLemmas
mod GapLemmas
