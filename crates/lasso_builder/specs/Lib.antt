pub mod PlaceWalks
pub mod LevelTables
pub mod GraphPlaces
