use Rattle.std.proofs.Common.{rules, ◌≡◌, ℕ, ◌+◌, ◌-◌, ◌*◌, ◌/◌, Err, ap, take, drop, length-take, length-drop, ◌∙◌, arith}
use Rattle.avs_entries.proofs.EntryBlocks.{WritesEntry-ok, WritesEntry-err}
use Rattle.avs_entries.proofs.put.put_entry.Goals as goal

-- the bytes of a block
block_long : (c : ℕ) → 512 * (c / 128) + 512 - 512 * (c / 128) ≡ 512
block_long c = omega arith

pub returns-in_err-put_live : goal.returns-in_err-put_live
returns-in_err-put_live g c =
    let is : c.from_residual.result ≡ Err c.in_err-put_live.field-0.0 = search rules in
    rw is (WritesEntry-err c.args.flip.now c.put_live.new.self c.args.memory.now c.set_entry.new.bytes _ c.args.chunk _ c.requires.inside (omega (arith, c.set_entry.ensures.len, length-take {A = ℕ}, length-drop {A = ℕ}))
    (c.copy_from_slice.ensures.after ∙ ap (λ (n : ℕ). take n (drop (512 * (c.args.chunk / 128)) c.args.memory.now)) (block_long c.args.chunk)) c.set_entry.ensures.now c.set_entry.ensures.others c.in_err-put_live.field-0.0 c.put_live.result c.in_err-put_live.field-0.0 c.in_err-put_live.was c.put_live.ensures)

pub returns : goal.returns
returns g c =
    WritesEntry-ok c.args.flip.now c.put_live.new.self c.args.memory.now c.set_entry.new.bytes _ c.args.chunk _ c.requires.inside (omega (arith, c.set_entry.ensures.len, length-take {A = ℕ}, length-drop {A = ℕ}))
    (c.copy_from_slice.ensures.after ∙ ap (λ (n : ℕ). take n (drop (512 * (c.args.chunk / 128)) c.args.memory.now)) (block_long c.args.chunk)) c.set_entry.ensures.now c.set_entry.ensures.others tt c.put_live.result c.in_ok-put_live.field-0 c.set_entry-2.new.bytes c.in_ok-put_live.was c.put_live.ensures
    (record { now = c.set_entry-2.ensures.now; others = c.set_entry-2.ensures.others }) c.set_entry-2.ensures.len
