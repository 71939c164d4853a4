use Rattle.std.proofs.Common.{rules, ◌≡◌, ◌+◌, ◌*◌, ℕ, true, false, List, length, arith, ap, sym, ◌∙◌}
use Rattle.std.proofs.lemmas.Result.{on_ok_weaker, on_err_weaker}
use Rattle.std.specs.List.{between}
use Rattle.avs_seg.proofs.Exits.{err_exit}
use Rattle.std.proofs.lemmas.Bool.{true≢false}
use Rattle.avs_bits.proofs.Dues.{has_other_is, written_due, unwritten_idle}
use Rattle.avs_bits.proofs.SomeBits.{write_done, write_torn}
use Rattle.avs_bits.proofs.changes.change_block.Goals as goal

pub returns-clause-done : goal.returns-clause-done
returns-clause-done g c told n held =
    let a = 512 * c.args.block in
    let e = 512 * c.args.block + 512 in
    on_ok_weaker c.write.result (write_done (g.D.Disk.seen c.args.disk.now).image n c.args.block c.args.from c.args.to c.args.bytes.now.items c.put_bits.new.bytes.items _ c.args.on a e (omega arith) (omega arith) (omega arith)
    (ap (λ (l : List ℕ). between a e l) c.deref.ensures.value)
    (omega arith) c.requires.low c.requires.high c.put_bits.ensures.put held (g.D.Disk.seen c.write.new.self).image)
    (c.write.ensures.done told)

pub returns-clause-failed : goal.returns-clause-failed
returns-clause-failed g c told n held =
    let a = 512 * c.args.block in
    let e = 512 * c.args.block + 512 in
    on_err_weaker c.write.result (write_torn (g.D.Disk.seen c.args.disk.now).image n c.args.block c.args.from c.args.to c.args.bytes.now.items c.put_bits.new.bytes.items _ c.args.on a e (omega arith) (omega arith) (omega arith)
    (ap (λ (l : List ℕ). between a e l) c.deref.ensures.value)
    (omega arith) c.requires.low c.requires.high c.put_bits.ensures.put held (g.D.Disk.seen c.write.new.self).image)
    (c.write.ensures.failed told)

pub returns-then-not-put_bits-clause-written : goal.returns-then-not-put_bits-clause-written
returns-then-not-put_bits-clause-written g c =
    let e = c.put_bits.ensures in
    let idle : c.put_bits.result ≡ false = search rules in
    unwritten_idle _ (g.D.Disk.seen c.args.disk.now).written (has_other_is c.args.bytes.now.items c.put_bits.new.bytes.items c.args.from c.args.to c.args.on c.put_bits.result e.put e.kept e.idle ∙ idle)

pub returns-clause-written : goal.returns-clause-written
returns-clause-written g c =
    let e = c.put_bits.ensures in
    let due : c.put_bits.result ≡ true = search rules in
    let other = has_other_is c.args.bytes.now.items c.put_bits.new.bytes.items c.args.from c.args.to c.args.on c.put_bits.result e.put e.kept e.idle ∙ due in
    on_ok_weaker c.write.result (written_due _ (g.D.Disk.seen c.args.disk.now).written (g.D.Disk.seen c.write.new.self).written (length (between (512 * c.args.block) (512 * c.args.block + 512) c.deref.result.now)) other (omega arith)) c.write.ensures.counted

pub returns-clause-due : goal.returns-clause-due
returns-clause-due g c =
    let e = c.put_bits.ensures in
    let due : c.put_bits.result ≡ true = search rules in
    err_exit c.write.result (has_other_is c.args.bytes.now.items c.put_bits.new.bytes.items c.args.from c.args.to c.args.on c.put_bits.result e.put e.kept e.idle ∙ due)

pub returns-clause-idle : goal.returns-clause-idle
returns-clause-idle g c none =
    let e = c.put_bits.ensures in
    let due : c.put_bits.result ≡ true = search rules in
    absurd (true≢false (sym (has_other_is c.args.bytes.now.items c.put_bits.new.bytes.items c.args.from c.args.to c.args.on c.put_bits.result e.put e.kept e.idle ∙ due) ∙ none))
