use Rattle.std.proofs.Common.{inr, ◌≡◌, ◌/◌, length, arith}
use Rattle.avs_ii.proofs.StateDisks.{holds_read, bad_read}
use Rattle.avs_ii.proofs.state_disk.read_state.Goals as goal

pub returns-in-Ok-clause-holds : goal.returns-in-Ok-clause-holds
returns-in-Ok-clause-holds g c told =
    let two : length c.read.new.out / 512 ≡ 2 = omega arith in
    holds_read (g.D.Disk.seen c.args.state.now) c.read.new.out two (c.in_ok-read.ensures.shows told) c.in-Ok.block told c.in-Ok.ensures.label c.in-Ok.ensures.block

pub returns-in-Err-clause-refused : goal.returns-in-Err-clause-refused
returns-in-Err-clause-refused g c =
    let two : length c.read.new.out / 512 ≡ 2 = omega arith in
    inr (omega (arith, c.if-blocks-lt-STATE_BLOCKS.false, c.blocks-2.ensures), λ told. bad_read (g.D.Disk.seen c.args.state.now) c.read.new.out two (c.in_ok-read.ensures.shows told) _ c.in-Err.ensures.bad)
