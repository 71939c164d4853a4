use Rattle.std.proofs.Common.{◌≡◌, refl, sym, subst, Result, Err, rules}
use Rattle.avs_seg.specs.declared.fault.Failed.{Failed}
use Rattle.avs_state.specs.StateDisk.{Commits, StateSeen}
use Rattle.avs_state.proofs.StateDisks.{commits_disk}
use Rattle.avs_state.proofs.state_disk.StateDisk.commit.Goals as goal

pub returns-in_err-put_block : goal.returns-in_err-put_block
returns-in_err-put_block g c =
    let e = c.in_err-put_block.field-0.0 in
    let is : c.from_residual.result ≡ Err e = search rules in
    let old : StateSeen = record { disk = g.D.Disk.seen c.self.inside.disk; block = c.self.inside.block } in
    let new : StateSeen = record { disk = g.D.Disk.seen c.put_block.new.disk; block = c.self.inside.block } in
    rw (← c.self.view_is) (subst (λ (r : Result (Unit {0}) Failed). Commits old c.args.block.now r new) (sym is) (record {
      disk = commits_disk old.disk new.disk c.args.block.now (Err e) c.self.invariant.room c.in_err-put_block.ensures.len c.in_err-put_block.ensures.is c.in_err-put_block.ensures.writes;
      now = tt;
      unchanged = refl;
    }))

pub returns : goal.returns
returns g c = rw (← c.self.view_is) (record {
  disk = commits_disk (g.D.Disk.seen c.self.inside.disk) (g.D.Disk.seen c.put_block.new.disk) c.args.block.now _ c.self.invariant.room c.in_ok-put_block.ensures.len c.in_ok-put_block.ensures.is c.in_ok-put_block.ensures.writes;
  now = refl;
  unchanged = tt;
})
