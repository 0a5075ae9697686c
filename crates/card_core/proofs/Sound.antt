-- The invariant of worlds, under the names that proofs use.
pub use Rattle.card_core.specs.inner.Sound.{SoundPrograms, SoundConnection, SoundConnections, SoundPicking, WorldInvariant, ReachedWorldsAreSound}
