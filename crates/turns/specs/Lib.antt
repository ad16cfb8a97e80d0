-- inner: what the turns and the walk back promise the judge. No user calls them.
pub mod Inner
