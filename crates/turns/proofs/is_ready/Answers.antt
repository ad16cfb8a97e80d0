-- A place that is not taken is ready where the columns of its row are all in the set of taken places.
use Rattle.turns.proofs.ReadyPlaces.{within_answers}
use Rattle.turns.proofs.is_ready.Goals as goal

pub returns-then-not-has : goal.returns-then-not-has
returns-then-not-has c = search within_answers
