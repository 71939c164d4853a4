use Rattle.std.proofs.Common.{◌≡◌, ◌/◌, ◌+◌, ◌-◌, ◌*◌, ◌≤◌, ℕ, min, max, IsTrue, Bool, ap, sym, subst, Ok, refl, ◌∙◌, arith}
use Rattle.avs_seg.proofs.Exits.{err_exit}
use Rattle.avs_seg.proofs.Changes.{ChangesWithin-same, ChangesWithin_then, ChangesWithin_wider}
use Rattle.avs_dev.proofs.Going.{goes_same, goes_then, goes_ok, goes_stops}
use Rattle.avs_bits.specs.Bit.{bit_of, raised, due_below}
use Rattle.avs_bits.proofs.SomeBits.{put_none}
use Rattle.avs_bits.proofs.Dues.{written_none, written_more}
use Rattle.avs_bits.proofs.Stops.{put_more, still_more, stops, uses_since, not_due, idle_more}
use Rattle.avs_bits.proofs.changes.change.Goals as goal

pub loop-block-init : goal.loop-block-init
loop-block-init g c = record {
  len = refl;
  size = refl;
  steady = refl;
  told = λ told. told;
  later = omega arith;
  goes = goes_same (g.D.Disk.seen c.args.disk.now) 0;
  within = λ told. ChangesWithin-same _ _ _;
  still = λ told k idle. refl;
  written = written_none (bit_of c.args.bytes.now.items) c.args.from c.args.to c.args.on (c.args.from / 4096) (g.D.Disk.seen c.args.disk.now).written (omega arith);
  armed = refl;
  idle = λ all. (refl, refl);
  put = put_none (bit_of c.args.bytes.now.items) c.args.from (min (4096 * (c.args.from / 4096)) c.args.to) c.args.on (omega arith);
  held = λ told n held. held;
}

pub loop-block-preserved : goal.loop-block-preserved
loop-block-preserved g c =
    let e = c.in_ok-change_block.ensures in
    let old = bit_of c.args.bytes.now.items in
    let mid = bit_of c.loop-block.bytes.items in
    let new = bit_of c.change_block.new.bytes.items in
    let before = g.D.Disk.seen c.args.disk.now in
    let then = g.D.Disk.seen c.loop-block.disk in
    let now = g.D.Disk.seen c.change_block.new.disk in
    let so_far = c.loop-block.invariant in
    let block = c.loop-block.block in
    let low : c.max-low.result ≡ max c.args.from (4096 * block) = omega arith in
    let high : c.min-high.result ≡ min c.args.to (4096 * (block + 1)) = omega arith in
    record {
      len = c.change_block.ensures.len ∙ so_far.len;
      size = c.change_block.ensures.size ∙ so_far.size;
      steady = c.change_block.ensures.steady ∙ so_far.steady;
      told = λ told. c.change_block.ensures.told (so_far.told told);
      later = omega arith;
      goes = goes_then before then now 0 (Ok 0) so_far.goes (goes_ok then now _ 0 e.goes);
      within = λ told. ChangesWithin_then (c.args.from / 4096) ((c.args.to + 4095) / 4096 - c.args.from / 4096) before.image then.image now.image (so_far.within told)
          (ChangesWithin_wider block 1 (c.args.from / 4096) ((c.args.to + 4095) / 4096 - c.args.from / 4096) then.image now.image (omega arith) (omega arith) (c.change_block.ensures.within (so_far.told told)));
      still = λ told k none. still_more old mid c.args.from c.args.to block c.max-low.result c.min-high.result c.args.on then now low high so_far.put (c.change_block.ensures.within (so_far.told told)) (λ idle. (c.change_block.ensures.idle idle).0) k none ∙ so_far.still told k none;
      written = written_more old mid c.args.from c.args.to block c.max-low.result c.min-high.result c.args.on before.written then.written now.written (omega arith) low high so_far.put so_far.written e.written;
      armed = e.still_armed ∙ so_far.armed;
      idle = λ all. idle_more before then now c.args.bytes.now.items c.loop-block.bytes.items c.change_block.new.bytes.items c.args.from c.args.to c.max-low.result c.min-high.result c.args.on (omega arith) (omega arith) all (so_far.idle all) c.change_block.ensures.idle;
      put = put_more old mid new c.args.from c.args.to block c.max-low.result c.min-high.result c.args.on (omega arith) (omega arith) (omega arith) low high so_far.put c.change_block.ensures.put;
      held = λ told n held. e.done (so_far.told told) n (so_far.held told n held);
    }

pub returns-in_err-change_block-clause-stopped : goal.returns-in_err-change_block-clause-stopped
returns-in_err-change_block-clause-stopped g c =
    let e = c.in_err-change_block.ensures in
    let now = c.loop-block.invariant in
    err_exit c.from_residual.result (stops (bit_of c.args.bytes.now.items) (bit_of c.loop-block.bytes.items) (bit_of c.change_block.new.bytes.items) c.args.from c.args.to c.loop-block.block c.max-low.result c.min-high.result c.args.on
    (g.D.Disk.seen c.args.disk.now) (g.D.Disk.seen c.loop-block.disk) (g.D.Disk.seen c.change_block.new.disk)
    c.requires.ordered (omega arith) (omega arith) (omega arith) (omega arith) now.put c.change_block.ensures.put e.due now.written e.unwritten
    (λ told n held. e.failed (now.told told) n (now.held told n held)))

pub returns-in_err-change_block-clause-goes : goal.returns-in_err-change_block-clause-goes
returns-in_err-change_block-clause-goes g c =
    goes_stops (g.D.Disk.seen c.args.disk.now) (g.D.Disk.seen c.loop-block.disk) (g.D.Disk.seen c.change_block.new.disk) 0 _ c.from_residual.result c.from_residual.ensures.0 c.loop-block.invariant.goes c.in_err-change_block.ensures.goes

pub returns-in_err-change_block-clause-still : goal.returns-in_err-change_block-clause-still
returns-in_err-change_block-clause-still g c told k none =
    let so_far = c.loop-block.invariant in
    let e = c.change_block.ensures in
    still_more (bit_of c.args.bytes.now.items) (bit_of c.loop-block.bytes.items) c.args.from c.args.to c.loop-block.block c.max-low.result c.min-high.result c.args.on (g.D.Disk.seen c.loop-block.disk) (g.D.Disk.seen c.change_block.new.disk)
    (omega arith) (omega arith) so_far.put (e.within (so_far.told told)) (λ idle. (e.idle idle).0) k none
    ∙ so_far.still told k none

pub returns-in_err-change_block-clause-spent : goal.returns-in_err-change_block-clause-spent
returns-in_err-change_block-clause-spent g c steady =
    let now = c.loop-block.invariant in
    err_exit c.from_residual.result (uses_since (g.D.Disk.seen c.args.disk.now) (g.D.Disk.seen c.loop-block.disk) (g.D.Disk.seen c.change_block.new.disk) now.armed
    (c.in_err-change_block.ensures.spent (subst (λ (b : Bool). IsTrue b) (sym now.steady) steady)))

pub returns-in_err-change_block-clause-idle : goal.returns-in_err-change_block-clause-idle
returns-in_err-change_block-clause-idle g c all =
    let low : c.args.from ≤ c.max-low.result = omega arith in
    let high : c.min-high.result ≤ c.args.to = omega arith in
    not_due c.args.bytes.now.items c.loop-block.bytes.items c.args.from c.args.to c.max-low.result c.min-high.result c.args.on low high (c.loop-block.invariant.idle all).1 all c.in_err-change_block.ensures.due

pub returns-clause-written : goal.returns-clause-written
returns-clause-written g c =
    let end : c.loop-block.block ≡ (c.args.to + 4095) / 4096 = omega arith in
    c.loop-block.invariant.written ∙ ap (λ (k : ℕ). raised (g.D.Disk.seen c.args.disk.now).written (due_below (bit_of c.args.bytes.now.items) c.args.from c.args.to c.args.on k)) end

pub returns-clause-idle : goal.returns-clause-idle
returns-clause-idle g c all = record { answer = refl; disk = (c.loop-block.invariant.idle all).0; bytes = (c.loop-block.invariant.idle all).1 }
