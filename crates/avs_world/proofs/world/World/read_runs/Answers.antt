use Rattle.std.proofs.Common.{ℕ, ◌+◌, ◌*◌, ◌<◌, ◌≤◌, length, drop, refl, sym, ◌∙◌, ap, subst, arith}
use Rattle.std.proofs.lemmas.List.{length-append, length-drop}
use Rattle.avs_seg.proofs.Bytes.{length-blocks_of}
use Rattle.avs_world.specs.Views.{view_of}
use Rattle.avs_world.specs.Ranges.{IsReached}
use Rattle.avs_world.specs.declared.ranges.ReadStop.TheVariants.{Failed}
use Rattle.avs_world.proofs.Pieces.{reached_part, none_so_far, more_so_far, fails_in, part_fits, part_size}
use Rattle.avs_world.proofs.world.World.read_runs.Goals as goal

pub loop-done-init : goal.loop-done-init
loop-done-init g c = (none_so_far (view_of g.D.Disk.seen c.args.self.now) c.args.target c.args.at c.args.len c.args.runs.now c.requires.none, c.requires.piece, refl, refl)

pub read_at-requires : goal.read_at-requires
read_at-requires g c =
    let mid = view_of g.D.Disk.seen c.loop-done.self in
    let done = c.loop-done.done in
    let more = c.min-more.result in
    let within : done + more ≤ c.args.len = omega (arith, c.min-more.ensures, c.loop-done-test.true) in
    let some : 0 < more = omega (arith, c.min-more.ensures, c.loop-done-test.true) in
    let size = part_size c.loop-done.piece c.args.len done more c.loop-done.invariant.1 within c.min-more.ensures in
    subst (λ (n : ℕ). IsReached mid c.args.target (c.args.at + done) n) (sym size)
    (c.loop-done.invariant.0.reads.reached (c.args.at + done) (512 * more) (reached_part (view_of g.D.Disk.seen c.args.self.now) c.args.target c.args.at c.args.len done more c.requires.reached within some))

pub returns-in-Err-clause-reads : goal.returns-in-Err-clause-reads
returns-in-Err-clause-reads g c other =
    let seen = g.D.Disk.seen in
    let done = c.loop-done.done in
    let more = c.min-more.result in
    let within : done + more ≤ c.args.len = omega (arith, c.min-more.ensures, c.loop-done-test.true) in
    let size = c.in-Err.ensures.len ∙ part_size c.loop-done.piece c.args.len done more c.loop-done.invariant.1 within c.min-more.ensures in
    fails_in (view_of seen c.args.self.now) (view_of seen c.loop-done.self) (view_of seen c.read_at.new.self) c.args.target c.args.at c.args.len done more c.loop-done.runs c.read_at.new.out c.loop-done.invariant.0 size
    c.in-Err.field-0 Failed c.loop-done.runs c.in-Err.ensures.reads

pub push-requires-clause-room : goal.push-requires-clause-room
push-requires-clause-room g c =
    let done = c.loop-done.done in
    let more = c.min-more.result in
    let sofar = c.loop-done.invariant.0 in
    let within : done + more ≤ c.args.len = omega (arith, c.min-more.ensures, c.loop-done-test.true) in
    let size = c.in-Ok.ensures.len ∙ part_size c.loop-done.piece c.args.len done more c.loop-done.invariant.1 within c.min-more.ensures in
    omega (arith, ap length sofar.are, length-blocks_of sofar.out, sofar.long, size, within, c.requires.room)

pub loop-done-preserved : goal.loop-done-preserved
loop-done-preserved g c =
    let seen = g.D.Disk.seen in
    let done = c.loop-done.done in
    let more = c.min-more.result in
    let out = c.read_at.new.out in
    let rest = drop (more * 512) c.loop-done.piece in
    let within : done + more ≤ c.args.len = omega (arith, c.min-more.ensures, c.loop-done-test.true) in
    let size = c.in-Ok.ensures.len ∙ part_size c.loop-done.piece c.args.len done more c.loop-done.invariant.1 within c.min-more.ensures in
    let fits = part_fits c.loop-done.piece c.args.len done more c.loop-done.invariant.1 within c.min-more.ensures in (
      more_so_far (view_of seen c.args.self.now) (view_of seen c.loop-done.self) (view_of seen c.read_at.new.self) c.args.target c.args.at c.args.len done more c.loop-done.runs out c.loop-done.invariant.0 size
          c.in-Ok.field-0 c.push.new.self within c.in-Ok.ensures.reads c.in-Ok-push.ensures,
      omega (arith, length-append out rest, length-drop (more * 512) c.loop-done.piece, size, c.loop-done.invariant.1, fits),
      c.in-Ok.ensures.up ∙ c.loop-done.invariant.2,
      c.in-Ok.ensures.stopped ∙ c.loop-done.invariant.3,
    )
