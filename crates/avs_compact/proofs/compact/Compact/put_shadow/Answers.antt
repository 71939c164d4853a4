use Rattle.std.proofs.Common.{rules, ◌≡◌, ◌≤◌, ◌+◌, ◌-◌, ◌*◌, ◌/◌, ℕ, Bool, IsTrue, length, take, drop, length-take, length-drop, Ok, Err, refl, sym, subst, ◌∙◌, arith}
use Rattle.avs_seg.specs.declared.fault.Failed.{Failed}
use Rattle.avs_seg.specs.Image.{Image, range, blocks_of}
use Rattle.avs_seg.proofs.Bytes.{length-blocks_of, blocks_of-between}
use Rattle.avs_seg.proofs.Ranges.{range_all}
use Rattle.avs_compact.specs.CompactSet.{over_of}
use Rattle.avs_compact.specs.Writing.{AreSplit, PutsShadow}
use Rattle.avs_compact.proofs.Written.{puts_none, puts_more, puts_fail, part_split, there_then}
use Rattle.avs_compact.proofs.compact.Compact.put_shadow.Goals as goal

pub loop-done-init : goal.loop-done-init
loop-done-init g c = record { within = omega arith; still = refl; puts = puts_none c.args.self.now (over_of c.args.over.now) c.args.at (blocks_of c.args.bytes.now) }

pub loop-done-preserved : goal.loop-done-preserved
loop-done-preserved g c =
    let bytes = c.args.bytes.now in
    let o = over_of c.args.over.now in
    let on = over_of c.loop-done.over in
    let o' = over_of c.put_part.new.over in
    let min = c.min-len.ensures in
    let inside : 512 * (c.loop-done.done + c.min-len.result) ≤ length bytes = omega (arith, min, c.loop-done-test.true) in
    let fits : c.loop-done.done + c.min-len.result ≤ length (blocks_of bytes) = omega (arith, min, c.loop-done-test.true, length-blocks_of bytes) in
    let part = blocks_of-between bytes c.loop-done.done c.min-len.result (512 * c.loop-done.done) (512 * (c.loop-done.done + c.min-len.result)) refl refl inside in
    let one = subst (λ (bs : Image). PutsShadow {T = Unit {0}} {E = Failed} c.loop-done.self on (c.args.at + c.loop-done.done) bs c.put_part.result c.put_part.new.self o') part c.put_part.ensures.puts in
    record {
      within = omega (arith, min, c.loop-done-test.true);
      still = c.put_part.ensures.still ∙ c.loop-done.invariant.still;
      puts = puts_more c.args.self.now c.loop-done.self c.put_part.new.self o on o' c.args.at c.loop-done.done c.min-len.result (blocks_of bytes) fits (omega (arith, c.requires.inside, length-blocks_of bytes)) c.loop-done.invariant.puts c.put_part.result c.in_ok-put_part.was one;
    }

pub returns-in_err-put_part-clause-puts : goal.returns-in_err-put_part-clause-puts
returns-in_err-put_part-clause-puts g c =
    let bytes = c.args.bytes.now in
    let o = over_of c.args.over.now in
    let on = over_of c.loop-done.over in
    let o' = over_of c.put_part.new.over in
    let min = c.min-len.ensures in
    let inside : 512 * (c.loop-done.done + c.min-len.result) ≤ length bytes = omega (arith, min, c.loop-done-test.true) in
    let fits : c.loop-done.done + c.min-len.result ≤ length (blocks_of bytes) = omega (arith, min, c.loop-done-test.true, length-blocks_of bytes) in
    let part = blocks_of-between bytes c.loop-done.done c.min-len.result (512 * c.loop-done.done) (512 * (c.loop-done.done + c.min-len.result)) refl refl inside in
    let one = subst (λ (bs : Image). PutsShadow {T = Unit {0}} {E = Failed} c.loop-done.self on (c.args.at + c.loop-done.done) bs c.put_part.result c.put_part.new.self o') part c.put_part.ensures.puts in
    let is : c.from_residual.result ≡ Err c.in_err-put_part.field-0.0 = search rules in
    rw is (puts_fail c.args.self.now c.loop-done.self c.put_part.new.self o on o' c.args.at c.loop-done.done c.min-len.result (blocks_of bytes) fits (omega (arith, c.requires.inside, length-blocks_of bytes)) c.loop-done.invariant.puts
    c.in_err-put_part.field-0.0 c.put_part.result c.in_err-put_part.was one)

pub put_part-requires-clause-split : goal.put_part-requires-clause-split
put_part-requires-clause-split g c =
    let bytes = c.args.bytes.now in
    let min = c.min-len.ensures in
    let o = over_of c.args.over.now in
    let on = over_of c.loop-done.over in
    let count : length (take (512 * (c.loop-done.done + c.min-len.result) - 512 * c.loop-done.done) (drop (512 * c.loop-done.done) bytes)) / 512 ≡ c.min-len.result = omega (arith, min, c.loop-done-test.true, length-take {A = ℕ}, length-drop {A = ℕ}) in
    subst (λ (n : ℕ). AreSplit c.loop-done.self (c.args.at + c.loop-done.done) n) (sym count)
    (part_split c.args.self.now c.loop-done.self o on c.args.at c.loop-done.done c.min-len.result (length bytes / 512) (blocks_of bytes) (range (blocks_of bytes) 0 c.loop-done.done) (Ok tt) c.loop-done.invariant.puts (omega (arith, min, c.loop-done-test.true)) c.requires.split)

pub put_part-requires-clause-slots : goal.put_part-requires-clause-slots
put_part-requires-clause-slots g c = there_then c.args.self.now c.loop-done.self (over_of c.args.over.now) (over_of c.loop-done.over) c.args.at (range (blocks_of c.args.bytes.now) 0 c.loop-done.done) (Ok tt) c.loop-done.invariant.puts c.requires.slots

pub put_part-requires-clause-there : goal.put_part-requires-clause-there
put_part-requires-clause-there g c = subst (λ (b : Bool). IsTrue b) (sym c.loop-done.invariant.puts.there) c.requires.there

pub returns-clause-puts : goal.returns-clause-puts
returns-clause-puts g c =
    let all : c.loop-done.done ≡ length (blocks_of c.args.bytes.now) = omega (arith, c.loop-done-test.false, c.loop-done.invariant.within, length-blocks_of c.args.bytes.now) in
    subst (λ (bs : Image). PutsShadow {T = Unit {0}} {E = Failed} c.args.self.now (over_of c.args.over.now) c.args.at bs (Ok tt) c.loop-done.self (over_of c.loop-done.over)) (range_all (blocks_of c.args.bytes.now) c.loop-done.done all) c.loop-done.invariant.puts
