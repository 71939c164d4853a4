use Rattle.avs_dev.specs.Bare.{below_of}
use Rattle.avs_receiver.specs.Held.{seen_of}
use Rattle.avs_receiver_plain.proofs.Sizing.{loads_sized}
use Rattle.avs_receiver_plain.proofs.calls.Half.load.Goals as goal

pub invariant_of-result : goal.invariant_of-result
invariant_of-result c = record { sized = loads_sized c.args.sizes.items c.args.vols.items _ _ _ (seen_of below_of c.in_ok-receiver.receiver) c.requires.loadable c.requires.sized c.in_ok-receiver.ensures.loads }
