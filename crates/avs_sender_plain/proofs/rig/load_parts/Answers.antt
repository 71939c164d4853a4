use Rattle.avs_dev.specs.Bare.{below_of}
use Rattle.avs_sender.specs.Held.{seen_of}
use Rattle.avs_sender_plain.proofs.Fitting.{two_found, two_loadable}
use Rattle.avs_sender_plain.proofs.rig.load_parts.Goals as goal

pub load-requires-clause-loadable : goal.load-requires-clause-loadable
load-requires-clause-loadable c = two_loadable (below_of c.args.parts.below) c.args.parts.sets c.requires.stacked c.requires.two

pub invariant_of-result : goal.invariant_of-result
invariant_of-result c = record { two = two_found _ _ c.args.limits (seen_of below_of c.in-Ok.sender) c.requires.stacked c.requires.two c.in-Ok.ensures.loads }
