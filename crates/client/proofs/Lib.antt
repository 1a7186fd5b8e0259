pub mod WriteLaws
pub mod RequestLaws
pub mod RecordLaws
pub mod ReadLaws
pub mod OpenLaws
