pub mod MoreNext
