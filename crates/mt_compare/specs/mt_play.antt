-- What this crate passes on of mt_play to those above it.
pub use Rattle.mt_play.specs.Plays
pub use Rattle.mt_play.specs.declared.playing.Playing
