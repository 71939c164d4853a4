use Rattle.std.proofs.Common.{◌≡◌, ◌/◌, length, arith}
use Rattle.avs_state.proofs.FirstBlocks.{holds_read, bad_state, read_kept}
use Rattle.avs_state.proofs.first_blocks.read_block.Goals as goal

pub returns-in-Ok-clause-holds : goal.returns-in-Ok-clause-holds
returns-in-Ok-clause-holds g c told =
    let two : length c.read.new.out / 512 ≡ 2 = omega arith in
    holds_read (g.D.Disk.seen c.args.disk.now) c.read.new.out two (c.in_ok-read.ensures.shows told) c.in-Ok.block c.in-Ok.ensures.label c.in-Ok.ensures.block

pub returns-in-Err-clause-refused : goal.returns-in-Err-clause-refused
returns-in-Err-clause-refused g c =
    let two : length c.read.new.out / 512 ≡ 2 = omega arith in
    let disk = g.D.Disk.seen c.args.disk.now in (
      read_kept disk (g.D.Disk.seen c.read.new.self) c.read.result c.in_ok-read.field-0 c.in_ok-read.was c.read.ensures.rest c.read.ensures.goes,
      bad_state disk c.read.new.out _ two (omega arith) (λ told. c.in_ok-read.ensures.shows told) c.in-Err.ensures.bad,
    )
