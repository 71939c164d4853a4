use Rattle.std.proofs.Common.{rules, ◌≡◌, ◌-◌, ◌/◌, ℕ, Bool, IsTrue, Err, sym, subst, arith}
use Rattle.avs_compact.specs.declared.fault.CompactFault.TheVariants.{Failed}
use Rattle.avs_compact.specs.CompactSet.{over_of}
use Rattle.avs_compact.specs.Saving.{SavesRange}
use Rattle.avs_compact.proofs.WrittenAll.{writes_unsaved, writes_put, writes_torn, split_b, there_b, blocks_b, still_b}
use Rattle.avs_compact.proofs.compact.Compact.write.Goals as goal

pub returns-in_err-save_before-clause-writes : goal.returns-in_err-save_before-clause-writes
returns-in_err-save_before-clause-writes g c =
    let seen = g.D.Disk.seen in
    let o = over_of c.args.over.now in
    let o1 = over_of c.save_before.new.over in
    let m = seen c.args.master.now in
    let m1 = seen c.save_before.new.master in
    let saved = subst (λ (n : ℕ). SavesRange c.args.self.now o m (c.args.at / 64) (n - c.args.at / 64) c.save_before.result c.save_before.new.self o1 m1) c.seg_count.ensures c.save_before.ensures.saves in
    let is : c.from_residual.result ≡ Err c.in_err-save_before.field-0.0 = search rules in
    rw is (writes_unsaved c.args.self.now c.save_before.new.self o o1 m m1 c.args.at c.args.bytes.now c.in_err-save_before.field-0.0 c.save_before.result c.in_err-save_before.was saved)

pub put_shadow-requires-clause-split : goal.put_shadow-requires-clause-split
put_shadow-requires-clause-split g c =
    let seen = g.D.Disk.seen in
    let o = over_of c.args.over.now in
    let o1 = over_of c.save_before.new.over in
    let m = seen c.args.master.now in
    let m1 = seen c.save_before.new.master in
    let saved = subst (λ (n : ℕ). SavesRange c.args.self.now o m (c.args.at / 64) (n - c.args.at / 64) c.save_before.result c.save_before.new.self o1 m1) c.seg_count.ensures c.save_before.ensures.saves in
    split_b c.args.self.now c.save_before.new.self o o1 m m1 c.args.at c.args.bytes.now c.in_ok-save_before.field-0 c.save_before.result c.in_ok-save_before.was saved (omega (arith, c.requires.some, c.requires.whole)) c.requires.inside

pub put_shadow-requires-clause-slots : goal.put_shadow-requires-clause-slots
put_shadow-requires-clause-slots g c =
    let seen = g.D.Disk.seen in
    let o = over_of c.args.over.now in
    let o1 = over_of c.save_before.new.over in
    let m = seen c.args.master.now in
    let m1 = seen c.save_before.new.master in
    let saved = subst (λ (n : ℕ). SavesRange c.args.self.now o m (c.args.at / 64) (n - c.args.at / 64) c.save_before.result c.save_before.new.self o1 m1) c.seg_count.ensures c.save_before.ensures.saves in
    there_b c.args.self.now c.save_before.new.self o o1 m m1 c.args.at c.args.bytes.now c.in_ok-save_before.field-0 c.save_before.result c.in_ok-save_before.was saved c.requires.slots

pub put_shadow-requires-clause-there : goal.put_shadow-requires-clause-there
put_shadow-requires-clause-there g c =
    let seen = g.D.Disk.seen in
    let o = over_of c.args.over.now in
    let o1 = over_of c.save_before.new.over in
    let m = seen c.args.master.now in
    let m1 = seen c.save_before.new.master in
    let saved = subst (λ (n : ℕ). SavesRange c.args.self.now o m (c.args.at / 64) (n - c.args.at / 64) c.save_before.result c.save_before.new.self o1 m1) c.seg_count.ensures c.save_before.ensures.saves in
    subst (λ (b : Bool). IsTrue b) (sym (still_b c.args.self.now c.save_before.new.self o o1 m m1 c.args.at c.args.bytes.now c.in_ok-save_before.field-0 c.save_before.result c.in_ok-save_before.was saved)) c.requires.there

pub put_shadow-requires-clause-inside : goal.put_shadow-requires-clause-inside
put_shadow-requires-clause-inside g c =
    let seen = g.D.Disk.seen in
    let o = over_of c.args.over.now in
    let o1 = over_of c.save_before.new.over in
    let m = seen c.args.master.now in
    let m1 = seen c.save_before.new.master in
    let saved = subst (λ (n : ℕ). SavesRange c.args.self.now o m (c.args.at / 64) (n - c.args.at / 64) c.save_before.result c.save_before.new.self o1 m1) c.seg_count.ensures c.save_before.ensures.saves in
    let blocks = blocks_b c.args.self.now c.save_before.new.self o o1 m m1 c.args.at c.args.bytes.now c.in_ok-save_before.field-0 c.save_before.result c.in_ok-save_before.was saved in
    omega (arith, blocks, c.requires.inside)

pub returns-in_err-put_shadow-clause-writes : goal.returns-in_err-put_shadow-clause-writes
returns-in_err-put_shadow-clause-writes g c =
    let seen = g.D.Disk.seen in
    let o = over_of c.args.over.now in
    let o1 = over_of c.save_before.new.over in
    let m = seen c.args.master.now in
    let m1 = seen c.save_before.new.master in
    let saved = subst (λ (n : ℕ). SavesRange c.args.self.now o m (c.args.at / 64) (n - c.args.at / 64) c.save_before.result c.save_before.new.self o1 m1) c.seg_count.ensures c.save_before.ensures.saves in
    let is : c.from_residual-in_err-put_shadow.result ≡ Err Failed = search rules in
    rw is (writes_torn c.args.self.now c.save_before.new.self o o1 m m1 c.args.at c.args.bytes.now c.in_ok-save_before.field-0 c.save_before.result c.in_ok-save_before.was saved c.put_shadow.new.self (over_of c.put_shadow.new.over)
    c.in_err-put_shadow.field-0.0 c.put_shadow.result c.in_err-put_shadow.was c.put_shadow.ensures.puts)

pub returns-clause-writes : goal.returns-clause-writes
returns-clause-writes g c =
    let seen = g.D.Disk.seen in
    let o = over_of c.args.over.now in
    let o1 = over_of c.save_before.new.over in
    let m = seen c.args.master.now in
    let m1 = seen c.save_before.new.master in
    let saved = subst (λ (n : ℕ). SavesRange c.args.self.now o m (c.args.at / 64) (n - c.args.at / 64) c.save_before.result c.save_before.new.self o1 m1) c.seg_count.ensures c.save_before.ensures.saves in
    writes_put c.args.self.now c.save_before.new.self o o1 m m1 c.args.at c.args.bytes.now c.in_ok-save_before.field-0 c.save_before.result c.in_ok-save_before.was saved c.put_shadow.new.self (over_of c.put_shadow.new.over)
    c.in_ok-put_shadow.field-0 c.put_shadow.result c.in_ok-put_shadow.was c.put_shadow.ensures.puts
