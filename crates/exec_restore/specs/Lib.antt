pub mod Loadable
