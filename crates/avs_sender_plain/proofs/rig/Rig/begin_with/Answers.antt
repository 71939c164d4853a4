use Rattle.avs_dev.specs.Bare.{below_of}
use Rattle.avs_sender.specs.Held.{seen_of}
use Rattle.avs_sender_plain.proofs.Fitting.{two_lists}
use Rattle.avs_sender_plain.proofs.rig.Rig.begin_with.Goals as goal

pub begin-requires-clause-theirs : goal.begin-requires-clause-theirs
begin-requires-clause-theirs c = λ part. two_lists (seen_of below_of c.args.self.now.sender) c.args.first c.args.second c.args.self.now.two c.requires.first c.requires.second
