use Rattle.std.proofs.Common.{rules, ◌≡◌, ℕ, length, ap}
use Rattle.avs_dev.specs.Bare.{BareDisks, below_of}
use Rattle.avs_halves.specs.SetBits.{set_at}
use Rattle.avs_receiver.specs.Held.{ReceiverHeld, seen_of}
use Rattle.avs_receiver_plain.specs.Sized.{IsSized}
use Rattle.avs_receiver_plain.proofs.Sizing.{kept_sized}
use Rattle.avs_receiver_plain.proofs.calls.Half.arm.Goals as goal

pub invariant_of-self : goal.invariant_of-self
invariant_of-self c =
    let old : ReceiverHeld = seen_of below_of c.args.self.now.receiver in
    let new : ReceiverHeld = seen_of below_of c.arm.new.self in
    let s : IsSized c.args.self.now.sizes.items c.args.self.now.vols.items old = search rules in
    let count : length new.half.sets ≡ length old.half.sets = search rules in
    let vol : ((t : ℕ) → (set_at new.half.sets t).vol ≡ (set_at old.half.sets t).vol) = search rules in
    let segs : ((t : ℕ) → (set_at new.half.sets t).bits.segs ≡ (set_at old.half.sets t).bits.segs) = search rules in
    record { sized = kept_sized c.args.self.now.sizes.items c.args.self.now.vols.items old new s (ap (λ (b : BareDisks). (below_of b).sizes) c.arm.ensures.below) count vol segs }
