-- What functions promise one another: no part of what a user is promised. Names: the name of each run's component, found join by join.
pub mod Names
