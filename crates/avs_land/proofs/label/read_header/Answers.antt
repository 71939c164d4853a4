use Rattle.std.proofs.Common.{◌≡◌, length, sym, subst, rules}
use Rattle.avs_seg.specs.Image.{Block}
use Rattle.avs_code.specs.Header.{IsLandHeader}
use Rattle.avs_land.proofs.Reading.{tells_block, tells_more, header_only, header_other}
use Rattle.avs_land.proofs.label.read_header.Goals as goal

pub returns-in-Ok-clause-reads : goal.returns-in-Ok-clause-reads
returns-in-Ok-clause-reads g c =
    let old = g.D.Disk.seen c.args.disk.now in
    let new = g.D.Disk.seen c.read.new.self in
    let len : length c.read.new.out ≡ 512 = search rules in
    tells_more old new (tells_block old new 1 c.read.new.out _ len c.in_ok-read.ensures) (λ shown. subst (λ (b : Block). IsLandHeader b c.in-Ok.header) (sym shown) c.in-Ok.ensures.ok)

pub returns-in-Ok-clause-only : goal.returns-in-Ok-clause-only
returns-in-Ok-clause-only g c told h is =
    let old = g.D.Disk.seen c.args.disk.now in
    let new = g.D.Disk.seen c.read.new.self in
    let len : length c.read.new.out ≡ 512 = search rules in
    header_only old.image c.read.new.out c.in-Ok.header h ((tells_block old new 1 c.read.new.out _ len c.in_ok-read.ensures).told told) c.in-Ok.ensures is

pub returns-in-Err-clause-reads : goal.returns-in-Err-clause-reads
returns-in-Err-clause-reads g c =
    let old = g.D.Disk.seen c.args.disk.now in
    let new = g.D.Disk.seen c.read.new.self in
    let len : length c.read.new.out ≡ 512 = search rules in
    tells_more old new (tells_block old new 1 c.read.new.out _ len c.in_ok-read.ensures) (λ shown. header_other old.image c.read.new.out c.in-Err.field-0 shown c.in-Err.ensures)
