pub mod MayLaws
