use Rattle.std.proofs.Common.{◌≡◌, ℕ, ◌*◌, ◌/◌, length, sym, subst, arith}
use Rattle.avs_group.specs.Group.{seen}
use Rattle.avs_group.specs.Reads.{IsVolumeRange}
use Rattle.avs_group.proofs.Picks.{chunk_from_disk, chunk_from_set}
use Rattle.avs_group.proofs.group.ShadowGroup.read_chunk.Goals as goal

pub returns-in-Some-clause-reads : goal.returns-in-Some-clause-reads
returns-in-Some-clause-reads g c =
    let range = subst (λ (l : ℕ). IsVolumeRange (seen c.args.self.now) c.args.volume c.args.at l) (sym c.requires.range.whole) c.requires.range in
    let long : length c.read_set.new.out ≡ 512 * (length c.args.out.now / 512) = omega (arith, c.read_set.auto.out, c.requires.range.whole) in
    chunk_from_set (seen c.args.self.now) c.source.ensures.kept c.args.volume c.args.at (length c.args.out.now / 512) range c.requires.one c.in-Some.place c.in-Some.ensures.there c.in-Some.ensures.source
    (seen c.read_set.new.self) c.read_set.new.out c.read_set.result long c.read_set.ensures

pub returns-clause-reads : goal.returns-clause-reads
returns-clause-reads g c =
    let range = subst (λ (l : ℕ). IsVolumeRange (seen c.args.self.now) c.args.volume c.args.at l) (sym c.requires.range.whole) c.requires.range in
    let long : length c.read_disk.new.out ≡ 512 * (length c.args.out.now / 512) = omega (arith, c.read_disk.ensures.len, c.requires.range.whole) in
    chunk_from_disk (seen c.args.self.now) c.source.ensures.kept c.args.volume c.args.at (length c.args.out.now / 512) range c.requires.one
    (seen c.read_disk.new.self) c.read_disk.new.out c.read_disk.result long c.in_default.ensures.none c.read_disk.ensures.reads
