pub mod ComesApart
