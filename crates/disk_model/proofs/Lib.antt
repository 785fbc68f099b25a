mod Replays
mod Rewriting
mod Steps
