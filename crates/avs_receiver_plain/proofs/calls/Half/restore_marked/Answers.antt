use Rattle.std.proofs.Common.{rules, ◌/◌, length, ℕ, List, sym, subst}
use Rattle.avs_dev.specs.Bare.{below_of}
use Rattle.avs_halves.specs.Marks.{Mark}
use Rattle.avs_receiver.specs.Held.{ReceiverHeld, seen_of}
use Rattle.avs_halves.specs.Restoring.{RestoresOrLeaves}
use Rattle.avs_receiver_plain.specs.Sized.{IsSized, LeavesOrPuts}
use Rattle.avs_receiver_plain.proofs.Restoring.{may_restore, ran_sizes, restored_sized}
use Rattle.avs_receiver_plain.proofs.calls.Half.restore_marked.Goals as goal

pub restore-requires-clause-errand : goal.restore-requires-clause-errand
restore-requires-clause-errand c = λ bytes ok e b given ran.
    let old : ReceiverHeld = seen_of below_of c.args.self.now.receiver in
    let s : IsSized c.args.self.now.sizes.items c.args.self.now.vols.items old = search rules in
    let run = subst (λ (n : ℕ). LeavesOrPuts c.args.errand.now.vol c.args.range.at n bytes ok old.below (below_of b)) c.requires.bytes
    (subst (λ (a : ℕ). LeavesOrPuts c.args.errand.now.vol a (length c.args.errand.now.bytes.items / 512) bytes ok old.below (below_of b)) c.requires.at ran) in
    subst (λ (m : List Mark). RestoresOrLeaves old.half.sets m bytes ok old.below (below_of b)) (sym c.requires.marks)
    (may_restore c.args.self.now.sizes.items c.args.self.now.vols.items old c.args.range.set c.args.range.at c.args.range.count s c.requires.lies c.requires.some c.requires.few bytes ok c.args.errand.now.vol (below_of b) c.requires.vol run)

pub invariant_of-self : goal.invariant_of-self
invariant_of-self c =
    let old : ReceiverHeld = seen_of below_of c.args.self.now.receiver in
    let s : IsSized c.args.self.now.sizes.items c.args.self.now.vols.items old = search rules in
    let same = ran_sizes c.args.errand.now.vol c.args.errand.now.at (length c.args.errand.now.bytes.items / 512) c.args.self.now.receiver.half c.args.marks.now _ c.args.self.now.receiver.below c.restore.new.self.below c.restore.ensures.ran in
    record { sized = restored_sized c.args.self.now.sizes.items c.args.self.now.vols.items _ _ old c.args.marks.now c.restore.result (seen_of below_of c.restore.new.self) s same c.restore.ensures.restores }
