use Rattle.std.proofs.Common.{◌≡◌, ◌+◌, ◌*◌, ◌++◌, take, drop, length, List, ℕ, ap, ◌∙◌, arith}
use Rattle.std.proofs.lemmas.List.{length-append, length-take-le, length-drop, take_all}
use Rattle.std.specs.List.{flat_map}
use Rattle.avs_code.specs.Slot.{slot_bytes}
use Rattle.avs_code.specs.declared.slot_table.Slot.{Slot}
use Rattle.avs_code.proofs.SlotBytes.{slots_more, length-slot_bytes}
use Rattle.avs_code.proofs.slot_table.put_slots.Goals as goal

pub loop-i-preserved : goal.loop-i-preserved
loop-i-preserved c =
    let old = c.args.out.now in
    let out = c.loop-i.out in
    let part = c.slot_bytes.result in
    let at : ℕ = 16 + 24 * c.loop-i.i in
    let size = length-slot_bytes _ in
    let room : length part ≡ 24 = ap length c.slot_bytes.ensures ∙ size in
    record {
      bytes = slots_more old out c.put_part.new.out part c.args.slots.now c.loop-i.i c.requires (omega arith) (omega (arith, c.told-out)) c.slot_bytes.ensures c.loop-i.invariant.bytes c.put_part.ensures;
      whole = ap length c.put_part.ensures ∙ omega (arith, length-append (take at out ++ part) (drop (at + length part) out), length-append (take at out) part, length-take-le at out (omega arith), length-drop (at + length part) out);
    }

pub returns : goal.returns
returns c =
    let old = c.args.out.now in
    let slots = c.args.slots.now in
    let end : c.loop-i.i ≡ 16 = omega arith in
    let all : take c.loop-i.i slots ≡ slots = take_all c.loop-i.i slots (omega arith) in
    let behind : 16 + 24 * c.loop-i.i ≡ 400 = omega arith in
    c.loop-i.invariant.bytes ∙ ap (λ (ss : List Slot). (take 16 old ++ flat_map slot_bytes ss) ++ drop (16 + 24 * c.loop-i.i) old) all ∙ ap (λ (n : ℕ). (take 16 old ++ flat_map slot_bytes slots) ++ drop n old) behind
