use Rattle.std.proofs.Common.{rules, ◌≡◌, ℕ, ◌+◌, ◌-◌, ◌*◌, ◌/◌, Err, ap, take, drop, length-take, length-drop, ◌∙◌, arith}
use Rattle.avs_chunks.proofs.StateBlocks.{PutsState-ok, PutsState-err}
use Rattle.avs_chunks.proofs.put.put_state.Goals as goal

-- the bytes of a block
block_long : (c : ℕ) → 512 * (c / 2048) + 512 - 512 * (c / 2048) ≡ 512
block_long c = omega arith

pub returns-in_err-put_live-clause-puts : goal.returns-in_err-put_live-clause-puts
returns-in_err-put_live-clause-puts g c =
    let is : c.from_residual.result ≡ Err c.in_err-put_live.field-0.0 = search rules in
    rw is (PutsState-err c.args.flip.now c.put_live.new.self c.args.memory.now c.set_state.new.bytes _ c.args.chunk _ c.requires.inside (omega (arith, c.set_state.ensures.len, length-take {A = ℕ}, length-drop {A = ℕ}))
    (c.copy_from_slice.ensures.after ∙ ap (λ (n : ℕ). take n (drop (512 * (c.args.chunk / 2048)) c.args.memory.now)) (block_long c.args.chunk)) c.set_state.ensures.now c.set_state.ensures.others c.in_err-put_live.field-0.0 c.put_live.result c.in_err-put_live.field-0.0 c.in_err-put_live.was c.put_live.ensures)

pub returns-clause-puts : goal.returns-clause-puts
returns-clause-puts g c =
    PutsState-ok c.args.flip.now c.put_live.new.self c.args.memory.now c.set_state.new.bytes _ c.args.chunk _ c.requires.inside (omega (arith, c.set_state.ensures.len, length-take {A = ℕ}, length-drop {A = ℕ}))
    (c.copy_from_slice.ensures.after ∙ ap (λ (n : ℕ). take n (drop (512 * (c.args.chunk / 2048)) c.args.memory.now)) (block_long c.args.chunk)) c.set_state.ensures.now c.set_state.ensures.others tt c.put_live.result c.in_ok-put_live.field-0 c.set_counted.new.bytes c.in_ok-put_live.was c.put_live.ensures
    (record { now = c.set_counted.ensures.now; others = c.set_counted.ensures.others }) c.set_counted.ensures.len
