use Rattle.request_matching.proofs.+augment_within.Given as goal

abbrev pub decreases-augment_within : goal.decreases-augment_within
decreases-augment_within l = l.steps
