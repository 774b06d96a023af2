pub mod CountLemmas
pub mod DrawLemmas
pub mod ExampleLemmas
pub mod KeyLemmas
pub mod RoomLemmas
pub mod RunLemmas
pub mod SettlingLemmas
pub mod VerbLemmas
