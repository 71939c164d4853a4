use Rattle.std.proofs.Common.{◌≡◌, length, rules}
use Rattle.avs_land.proofs.Reading.{tells_block, tells_more, label_is, label_other}
use Rattle.avs_land.proofs.label.read_label.Goals as goal

pub returns-in-Ok : goal.returns-in-Ok
returns-in-Ok g c =
    let old = g.D.Disk.seen c.args.disk.now in
    let new = g.D.Disk.seen c.read.new.self in
    let len : length c.read.new.out ≡ 512 = search rules in
    tells_more old new (tells_block old new 0 c.read.new.out _ len c.in_ok-read.ensures) (λ shown. label_is old.image c.read.new.out c.in-Ok.field-0 c.landing_use.result shown c.landing_use.ensures c.in-Ok.ensures)

pub returns-in-Err : goal.returns-in-Err
returns-in-Err g c =
    let old = g.D.Disk.seen c.args.disk.now in
    let new = g.D.Disk.seen c.read.new.self in
    let len : length c.read.new.out ≡ 512 = search rules in
    tells_more old new (tells_block old new 0 c.read.new.out _ len c.in_ok-read.ensures) (λ shown. label_other old.image c.read.new.out c.landing_use.result c.in-Err.field-0 shown c.landing_use.ensures c.in-Err.ensures)
