use Rattle.std.proofs.Common.{◌≡◌, ℕ, ◌+◌, ◌-◌, ◌*◌, take, drop, ap, ◌∙◌, arith}
use Rattle.avs_entries.proofs.Staged.{stages_next}
use Rattle.avs_entries.proofs.staging.stage_next.Goals as goal

-- the bytes of a block
block_long : (at : ℕ) → 512 * at + 512 - 512 * at ≡ 512
block_long at = omega arith

pub returns : goal.returns
returns g c =
    stages_next c.args.flip.now c.stage.new.self c.args.next.now c.copy_from_slice.new.self c.args.at c.requires.inside c.requires.first (omega arith)
    (c.copy_from_slice.ensures.after ∙ ap (λ (n : ℕ). take n (drop (512 * c.args.at) c.args.next.now)) (block_long c.args.at)) c.stage.result c.stage.ensures
