pub mod EachLemmas
pub mod ScriptLemmas
pub mod LayerLemmas
pub mod BuiltLemmas
pub mod KeptLemmas
pub mod DeclaredLemmas
