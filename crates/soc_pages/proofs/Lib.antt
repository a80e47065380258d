pub mod FlatMaps
