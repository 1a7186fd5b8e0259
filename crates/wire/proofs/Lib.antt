pub mod ItemLaws
pub mod AttrLaws
pub mod RequestLaws
