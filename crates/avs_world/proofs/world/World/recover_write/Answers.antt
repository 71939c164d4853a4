use Rattle.std.proofs.Common.{◌≡◌, ◌∙◌, ◌*◌, ◌/◌, ℕ, true, List, Some, None, length, sym, ap, subst, arith}
use Rattle.std.proofs.lemmas.List.{with_items_is}
use Rattle.avs_seg.specs.Image.{blocks_of, range}
use Rattle.avs_model.specs.State.{image_of}
use Rattle.avs_model.specs.Limits.{longest_write}
use Rattle.avs_model.specs.Refusals.{place_causes, first_cause}
use Rattle.avs_model.specs.declared.event.Host.TheVariants.{P}
use Rattle.avs_model.specs.declared.recovered.Second.TheVariants.{Torn}
use Rattle.avs_world.specs.Views.{view_of}
use Rattle.avs_world.specs.Calls.{IsOf}
use Rattle.avs_world.specs.Recovering.{IsWaiting}
use Rattle.avs_world.proofs.TornLemmas.{filled-standing}
use Rattle.avs_world.proofs.Recovering.{brought, second_write, write_unread, rose_apart}
use Rattle.avs_world.proofs.world.World.recover_write.Goals as goal

pub returns-in-Err-clause-steps : goal.returns-in-Err-clause-steps
returns-in-Err-clause-steps g c steady s waiting =
    let refused = c.in-Err.ensures.refused steady waiting.left waiting.holds waiting.phase in
    let name : c.as_slice.result.now ≡ c.args.write.volume = c.as_slice.ensures in
    let e : None ≡ Some c.in-Err.field-0 = sym waiting.there ∙ ap (λ n. first_cause (place_causes waiting.left P n c.args.write.at c.args.write.len longest_write)) (sym name) ∙ refused in
    absurd (cc)

pub returns-in-Err-read_at-clause-steps : goal.returns-in-Err-read_at-clause-steps
returns-in-Err-read_at-clause-steps g c steady s waiting =
    let seen = g.D.Disk.seen in
    let stop = c.stop.ensures in
    let reads = c.in-Err-read_at.ensures.reads in
    write_unread seen steady (view_of seen c.args.self.now) (view_of seen c.read_at.new.self) c.stop.new.self s c.args.write c.stop.result waiting (reads.holds steady waiting.left waiting.holds) (reads.phase true waiting.phase)
    (reads.sure steady waiting.left waiting.holds) stop.same stop.apart stop.up stop.stopped stop.told

pub returns-in-Err-read_at-clause-cause : goal.returns-in-Err-read_at-clause-cause
returns-in-Err-read_at-clause-cause g c =
    let seen = g.D.Disk.seen in
    let stop = c.stop.ensures in
    rose_apart (view_of seen c.args.self.now) (view_of seen c.read_at.new.self) (view_of seen c.stop.new.self) c.stop.result stop.same stop.apart stop.told c.in-Err-read_at.ensures.reads.cause

pub returns-clause-steps : goal.returns-clause-steps
returns-clause-steps g c =
    let seen = g.D.Disk.seen in
    let old = c.args.self.now in
    let write = c.args.write in
    let out = c.read_at.new.out in
    let reads = c.in-Ok-read_at.ensures.reads in
    let mid = c.read_at.new.self in
    let blocks = c.in_ok-blocks.blocks in
    let up = c.bring_up.ensures in
    let kept : length out ≡ length c.deref_mut.result.now = c.read_at.ensures.len in
    let long : length out ≡ 512 * write.len = omega (arith, kept, c.deref_mut.ensures.len, c.in_ok-bytes.ensures.len) in
    let count : length out / 512 ≡ write.len = omega (arith, long) in
    let items = with_items_is c.in_ok-bytes.bytes out (omega (arith, kept, c.deref_mut.ensures.len)) in
    brought seen (λ steady s. IsWaiting steady (view_of seen old) write s) mid c.bring_up.new.self (Torn write.volume write.at blocks) c.bring_up.result up.told up.up up.shelf up.group up.stopped (c.read_at.ensures.stopped ∙ c.requires.none)
    (λ steady s waiting.
    let of = subst (λ (n : List ℕ). IsOf (view_of seen old) c.in-Ok.target n) c.as_slice.ensures c.in-Ok.ensures.of in
    let shows = reads.shows steady waiting.left write.volume waiting.holds of in
    let got : blocks_of c.deref.result.now ≡ range (image_of waiting.left.p write.volume) write.at write.len =
    ap blocks_of (c.deref.ensures.value ∙ items) ∙ shows ∙ ap (range (image_of waiting.left.p write.volume) write.at) count in
    let stand = c.in_ok-blocks.ensures ∙ filled-standing (image_of waiting.left.p write.volume) (blocks_of c.deref.result.now) write.at write.len write.pattern got in
    record {
      down = waiting.down;
      left = waiting.left;
      stopped = waiting.stopped;
      holds = reads.holds steady waiting.left waiting.holds;
      phase = reads.phase true waiting.phase;
      told = second_write s waiting.left write blocks waiting.is stand;
    })
