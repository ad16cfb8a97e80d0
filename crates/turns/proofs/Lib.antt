-- ReadyPlaces: sets of places as rows of bits, and the smallest ready place: `is_ready`, `untaken`, `ready`. GreedyTurns: a turn of `greedy` is one of
-- theory's greedy order. WalkBack: `find_cycle`: the places walked are distinct, so one comes again.
pub mod ReadyPlaces
pub mod GreedyTurns
pub mod WalkBack
