-- The lines that an entry names.
pub use Rattle.xp_core.specs.Lines.{HasLines}
