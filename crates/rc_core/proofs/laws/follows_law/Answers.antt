use Rattle.rc_core.proofs.HeldLaw.{follower_held, held_follows}
use Rattle.rc_core.proofs.laws.follows_law.Goals as goal

pub returns-clause-itself : goal.returns-clause-itself
returns-clause-itself c = λ start opening decided rules not_last held. held_follows start opening rules not_last held decided

pub returns-clause-images : goal.returns-clause-images
returns-clause-images c = λ start opening image rules not_last held follows. follower_held start opening rules not_last held image follows
