pub mod MergeLines
